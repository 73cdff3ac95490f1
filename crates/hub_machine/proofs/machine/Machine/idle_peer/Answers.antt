use Rattle.std.proofs.Common.{sym, ◌∙◌}
use Rattle.hj_jobs.specs.Meaning.{meaning}
use Rattle.hub_machine.proofs.Napping.{up_unawake}
use Rattle.hub_machine.proofs.machine.Machine.idle_peer.Goals as goal

pub returns-then-not-is_awake-clause-cause : goal.returns-then-not-is_awake-clause-cause
returns-then-not-is_awake-clause-cause g c = λ none index.
    up_unawake {H = g.row.H.Denot} {Job = g.row.H-Job.Denot} (meaning g.H.Hub.begin_of g.H.Hub.step_of) c.args.self.now c.args.conn index
    (sym (c.is_awake.ensures index.kept) ∙ c.if-not-is_awake.true)
