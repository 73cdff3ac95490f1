use Rattle.hub_machine.proofs.Deadlines.{RungSoFar}
use Rattle.hub_machine.proofs.idle_set.IdleSet.rung.Given as goal

abbrev pub invariant-loop-deadline : goal.invariant-loop-deadline
invariant-loop-deadline l = RungSoFar l.self l.now l.conns.items l.deadline-iterator
