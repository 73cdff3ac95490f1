use Rattle.hj_jobs.specs.Meaning.{meaning}
use Rattle.hub_machine.proofs.Ringing.{WokenSoFar}
use Rattle.hub_machine.proofs.machine.Machine.wake_expired.Given as goal

abbrev pub invariant-loop-conn : goal.invariant-loop-conn
invariant-loop-conn g l = WokenSoFar (meaning g.H.Hub.begin_of g.H.Hub.step_of) l.fn.self l.self l.conn-items l.conn-index
