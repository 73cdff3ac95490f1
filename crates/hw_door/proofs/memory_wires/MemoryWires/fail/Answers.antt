use Rattle.std.proofs.Common.{[]}
use Rattle.hw_door.specs.Ledger.{answer_of}
use Rattle.hw_door.proofs.Writings.{told_still, left_still}
use Rattle.hw_door.proofs.memory_wires.MemoryWires.fail.Goals as goal

pub invariant_of-self : goal.invariant_of-self
invariant_of-self c =
    let s = c.self.inside in
    rw c.tell_or_fill.ensures
    (left_still (answer_of c.args.note []) s.ledger s.lines.room c.self.invariant.0, told_still c.args.note s.ledger s.lines.wires c.self.invariant.1)
