use Rattle.std.proofs.Common.{inl, sym, ◌∙◌}
use Rattle.hub_machine.proofs.Doing.{listed_is_awake}
use Rattle.hub_machine.proofs.machine.Machine.ensure_awake.Goals as goal

pub returns-then-is_awake-clause-awake : goal.returns-then-is_awake-clause-awake
returns-then-is_awake-clause-awake g c = λ index.
    inl (listed_is_awake {H = g.row.H.Denot} {Job = g.row.H-Job.Denot} c.args.self.now c.args.conn index
    (sym (c.is_awake.ensures index.kept) ∙ c.if-is_awake.true))
