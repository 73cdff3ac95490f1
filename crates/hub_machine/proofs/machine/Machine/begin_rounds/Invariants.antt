use Rattle.hj_jobs.specs.Meaning.{meaning}
use Rattle.hub_machine.proofs.Unmoved.{BegunSoFar}
use Rattle.hub_machine.proofs.machine.Machine.begin_rounds.Given as goal

abbrev pub invariant-loop-conn : goal.invariant-loop-conn
invariant-loop-conn g l = BegunSoFar (meaning g.H.Hub.begin_of g.H.Hub.step_of) l.fn.self l.self l.conns l.conn-index
