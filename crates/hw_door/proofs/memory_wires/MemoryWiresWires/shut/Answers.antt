use Rattle.std.proofs.Common.{refl}
use Rattle.hw_door.specs.declared.ledger.WireCall.TheVariants as note
use Rattle.hw_door.specs.Wires.{at_wire, with_shut}
use Rattle.hw_door.specs.Traffic.{was_shut}
use Rattle.hw_door.proofs.Writings.{told_still, told_changed, left_still}
use Rattle.hw_door.proofs.memory_wires.MemoryWiresWires.shut.Goals as goal

pub invariant_of-self : goal.invariant_of-self
invariant_of-self c =
    let s = c.self.inside in
    let still = told_changed s.lines.wires s.ledger.answers c.args.wire with_shut (λ left. refl) c.self.invariant.1 in
    rw (c.shut.ensures, c.tell_or_fill.ensures) (
      left_still (was_shut c.args.wire) s.ledger s.lines.room c.self.invariant.0,
      told_still (note.WasShut c.args.wire) s.ledger (at_wire c.args.wire with_shut s.lines.wires) still,
    )
