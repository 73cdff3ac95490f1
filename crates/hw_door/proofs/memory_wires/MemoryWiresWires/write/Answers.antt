use Rattle.std.proofs.Common.{arith}
use Rattle.hw_door.proofs.Writings.{told_written}
use Rattle.hw_door.proofs.memory_wires.MemoryWiresWires.write.Goals as goal

pub invariant_of-self : goal.invariant_of-self
invariant_of-self c =
    let s = c.self.inside in
    rw (c.write.ensures, c.tell.ensures)
    (omega (arith, c.self.invariant.0), told_written s.lines.wires s.ledger.answers c.args.wire _ c.in-Ok.ensures.open c.self.invariant.1)
