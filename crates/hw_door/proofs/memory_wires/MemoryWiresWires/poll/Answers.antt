use Rattle.std.proofs.Common.{arith, refl, ◌-◌, ◌≤◌}
use Rattle.hw_door.specs.Traffic.{polled}
use Rattle.hw_door.proofs.Writings.{told_unwritten}
use Rattle.hw_door.proofs.memory_wires.MemoryWiresWires.poll.Goals as goal

pub invariant_of-self : goal.invariant_of-self
invariant_of-self c =
    let s = c.self.inside in
    let left : s.ledger.bytes_left - 0 ≤ s.lines.room = omega (arith, c.self.invariant.0) in
    rw c.tell.ensures (left, told_unwritten s.lines.wires s.ledger.answers (polled c.args.wait c.next-now.result) (λ wire. refl) c.self.invariant.1)
