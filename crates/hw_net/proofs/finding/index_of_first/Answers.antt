use Rattle.std.proofs.Common.{rules, ltb}
use Rattle.std.proofs.lemmas.List.Sorted.{IsPartitionPoint-from_clause}
use Rattle.hw_net.specs.Lane.{Lane}
use Rattle.hw_net.proofs.Findings.{parted, first-from}
use Rattle.hw_net.proofs.finding.index_of_first.Goals as goal

pub returns : goal.returns
returns c =
    let cut = parted c.args.from c.requires.0 c.args.lanes.now c.requires.1 in
    let point = IsPartitionPoint-from_clause (λ (lane : Lane). ltb lane.wire c.args.from) _ _ c.partition_point.ensures.partitioned cut (λ a r q k. search rules) in
    first-from c.args.from c.args.lanes.now _ c.partition_point.ensures.bound point
