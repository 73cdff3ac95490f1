use Rattle.hj_jobs.specs.Meaning.{meaning}
use Rattle.hub_machine.proofs.Idle.{AreIdleTo}
use Rattle.hub_machine.proofs.machine.Machine.idle.Given as goal

abbrev pub invariant-loop-conn : goal.invariant-loop-conn
invariant-loop-conn g l = AreIdleTo {H = g.row.H.Denot} (meaning g.H.Hub.begin_of g.H.Hub.step_of) l.self l.conn-items l.conn-index
