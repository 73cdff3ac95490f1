use Rattle.std.proofs.Common.{arith, ap, ◌<◌, List, map, length}
use Rattle.std.proofs.lemmas.List.{length-map}
use Rattle.hw_door.specs.Lines.{LineLeft, wire_in}
use Rattle.hw_door.specs.Wires.{WireLeft, with_read}
use Rattle.hw_door.proofs.Places.{wire_changed}
use Rattle.hw_door.proofs.lines.Lines.read.Goals as goal

pub returns : goal.returns
returns c =
    let s = c.self.inside in
    let there : c.args.wire < length (map wire_in s.lines.items) = rw (← c.self.view_is) at c.requires in
    let place : c.args.wire < length s.lines.items = omega (arith, there, length-map s.lines.items wire_in) in
    rw (← c.self.view_is) (ap (λ (wires : List WireLeft). record { wires = wires; given = s.given; room = s.room })
    (wire_changed s.lines.items c.args.wire c.index_mut.result.now c.read.new.self (with_read c.args.count)
    place c.index_mut.ensures.value (ap (λ (l : LineLeft). l.wire) c.read.ensures)))
