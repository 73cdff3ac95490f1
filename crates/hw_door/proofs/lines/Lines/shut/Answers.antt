use Rattle.std.proofs.Common.{rules, arith, ap, sym, ◌<◌, ◌≤◌, List, map, length}
use Rattle.std.proofs.lemmas.List.{length-map}
use Rattle.hw_door.specs.Lines.{LineLeft, wire_in}
use Rattle.hw_door.specs.Wires.{WireLeft, with_shut}
use Rattle.hw_door.proofs.Places.{wire_changed, none_changed}
use Rattle.hw_door.proofs.lines.Lines.shut.Goals as goal

pub returns-then-wire-len : goal.returns-then-wire-len
returns-then-wire-len c =
    let s = c.self.inside in
    let place : c.args.wire < length s.lines.items = search rules in
    rw (← c.self.view_is) (ap (λ (wires : List WireLeft). record { wires = wires; given = s.given; room = s.room })
    (wire_changed s.lines.items c.args.wire c.index_mut.result.now c.shut.new.self with_shut
    place c.index_mut.ensures.value (ap (λ (l : LineLeft). l.wire) c.shut.ensures)))

pub returns-else-wire-len : goal.returns-else-wire-len
returns-else-wire-len c =
    let s = c.self.inside in
    let past : length s.lines.items ≤ c.args.wire = search rules in
    rw (← c.self.view_is) (ap (λ (wires : List WireLeft). record { wires = wires; given = s.given; room = s.room })
    (sym (none_changed (map wire_in s.lines.items) c.args.wire with_shut (omega (arith, past, length-map s.lines.items wire_in)))))
