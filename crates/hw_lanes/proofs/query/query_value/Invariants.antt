use Rattle.std.proofs.Common.{◌≡◌}
use Rattle.form_urlencoded.specs.Parse.{raw_pairs_left}
use Rattle.hw_lanes.specs.Query.{value_in, query_value_of}
use Rattle.hw_lanes.proofs.query.query_value.Given as goal

abbrev pub invariant-loop-key : goal.invariant-loop-key
invariant-loop-key l =
    value_in l.name (raw_pairs_left l.key-iterator) ≡ query_value_of l.query l.name
