use Rattle.std.proofs.Common.{rules, sym}
use Rattle.hw_net.specs.declared.numbers.LaneWire.{LaneWire}
use Rattle.hw_net.proofs.LaneNumbering.{no-wire, wire-at}
use Rattle.hw_net.proofs.numbers.wire_of.Goals as goal

pub returns-in-Some : goal.returns-in-Some
returns-in-Some c =
    let first : LaneWire = record { lane = 0; wire = 0 } in
    sym (wire-at c.args.lane c.args.numbers.now c.in-Some.index first (search rules))

pub returns-in-None : goal.returns-in-None
returns-in-None c = sym (no-wire c.args.lane c.args.numbers.now (search rules))
