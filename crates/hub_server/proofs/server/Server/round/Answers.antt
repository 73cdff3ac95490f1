use Rattle.std.proofs.lemmas.Result.{on_ok_weaker}
use Rattle.hj_jobs.specs.Meaning.{meaning}
use Rattle.hd_server.specs.Doings.{work}
use Rattle.hub_server.proofs.RoundKeepsServer.{rounded}
use Rattle.hub_server.proofs.server.Server.round.Goals as goal

pub returns-clause-rounded : goal.returns-clause-rounded
returns-clause-rounded g c = on_ok_weaker c.round.result (λ f s u before h stands.
    rounded {H = g.row.H.Denot} {Job = g.row.H-Job.Denot} (meaning g.H.Hub.begin_of g.H.Hub.step_of) s u before c.args.self.now c.round.new.self _ _ h
    (f (work h) stands.machine) stands) c.round.ensures.turned

pub returns-clause-clock : goal.returns-clause-clock
returns-clause-clock g c = c.round.ensures.moment
