use Rattle.std.proofs.Common.{arith}
use Rattle.hw_door.proofs.Writings.{none_written}
use Rattle.hw_door.proofs.memory_wires.MemoryWires.start.Goals as goal

pub invariant_of-result : goal.invariant_of-result
invariant_of-result c =
    rw (c.in_ok-lines.ensures, c.in_ok-ledger.ensures) (omega arith, none_written c.args.wires.items)
