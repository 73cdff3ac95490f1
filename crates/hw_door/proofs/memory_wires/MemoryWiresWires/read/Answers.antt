use Rattle.std.proofs.Common.{arith, refl}
use Rattle.hw_door.specs.Wires.{with_read}
use Rattle.hw_door.proofs.Writings.{told_unwritten, told_changed}
use Rattle.hw_door.proofs.memory_wires.MemoryWiresWires.read.Goals as goal

pub invariant_of-self : goal.invariant_of-self
invariant_of-self c =
    let s = c.self.inside in
    let still = told_changed s.lines.wires s.ledger.answers c.args.wire (with_read c.count_of-count.result) (λ left. refl) c.self.invariant.1 in
    rw (c.read.ensures, c.tell.ensures)
    (omega (arith, c.self.invariant.0), told_unwritten _ s.ledger.answers _ (λ wire. c.note_of.ensures.unwritten wire _) still)
