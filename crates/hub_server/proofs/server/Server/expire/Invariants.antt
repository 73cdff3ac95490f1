use Rattle.hj_jobs.specs.Meaning.{meaning}
use Rattle.hub_server.proofs.ExpireAll.{ExpireSoFar}
use Rattle.hub_server.proofs.server.Server.expire.Given as goal

abbrev pub invariant-loop-expired : goal.invariant-loop-expired
invariant-loop-expired g l = ExpireSoFar {H = g.row.H.Denot} (meaning g.H.Hub.begin_of g.H.Hub.step_of) l.fn.self l.self l._expired
