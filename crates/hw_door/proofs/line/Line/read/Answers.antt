use Rattle.std.proofs.Common.{rules, ap, ◌-◌, ◌<◌, ◌≤◌, List}
use Rattle.hw_door.specs.declared.memory_wire.WireGiven.{WireGiven}
use Rattle.hw_door.specs.Wires.{first_size}
use Rattle.hw_door.proofs.Pieces.{part_read, first_read}
use Rattle.hw_door.proofs.line.Line.read.Goals as goal

pub returns-then-count-left : goal.returns-then-count-left
returns-then-count-left c =
    let s = c.self.inside in
    let few : c.args.count < first_size s.reads.items - s.begun = search rules in
    rw (← c.self.view_is) (ap (λ (reads : List WireGiven). record {
      wire = record { since = s.since; reads = reads; writes = s.writes.items; is_shut = s.is_shut; written = s.written.items };
      room = s.room;
    }) (part_read s.begun c.args.count s.reads.items few))

pub returns : goal.returns
returns c =
    let s = c.self.inside in
    let all : first_size s.reads.items - s.begun ≤ c.args.count = search rules in
    rw (← c.self.view_is, c.pop_front.ensures.rest) (ap (λ (reads : List WireGiven). record {
      wire = record { since = s.since; reads = reads; writes = s.writes.items; is_shut = s.is_shut; written = s.written.items };
      room = s.room;
    }) (first_read s.begun c.args.count s.reads.items all))
