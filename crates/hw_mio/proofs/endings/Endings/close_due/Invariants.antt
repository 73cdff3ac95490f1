use Rattle.std.proofs.Common.{◌≡◌}
use Rattle.std.specs.VecDeque.{deque_len}
use Rattle.hw_mio.proofs.endings.Endings.close_due.Given as goal

abbrev pub invariant-loop-due : goal.invariant-loop-due
invariant-loop-due l = l.table ≡ l.fn.table

abbrev pub decreases-loop-due : goal.decreases-loop-due
decreases-loop-due l = deque_len l.self.queue
