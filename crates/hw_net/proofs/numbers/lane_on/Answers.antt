use Rattle.std.proofs.Common.{rules, sym}
use Rattle.hw_net.specs.declared.numbers.LaneWire.{LaneWire}
use Rattle.hw_net.proofs.LaneNumbering.{no-lane, lane-at}
use Rattle.hw_net.proofs.numbers.lane_on.Goals as goal

pub returns-in-Some : goal.returns-in-Some
returns-in-Some c =
    let first : LaneWire = record { lane = 0; wire = 0 } in
    sym (lane-at c.args.wire c.args.numbers.now c.in-Some.index first (search rules))

pub returns-in-None : goal.returns-in-None
returns-in-None c = sym (no-lane c.args.wire c.args.numbers.now (search rules))
