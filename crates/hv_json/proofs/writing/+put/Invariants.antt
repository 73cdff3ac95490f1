use Rattle.std.proofs.Common.{◌≡◌, ◌++◌, ◌*◌, ◌+◌, drop}
use Rattle.hv_value.specs.Tree.{depth, depth_of_all, depth_of_values, trees, pairs}
use Rattle.hv_value.specs.View.{tree, trees_of, entries}
use Rattle.hv_json.specs.Sent.{items_sent, members_sent, AllHaveWholes, PairsHaveWholes}
use Rattle.hv_json.proofs.writing.+put.Given as goal

abbrev pub invariant-put_items-loop-value : goal.invariant-put_items-loop-value
invariant-put_items-loop-value l = record {
  tokens : l.writer.tokens ++ items_sent (trees (trees_of (drop l.value-index l.values))) ≡ l.initial.writer.tokens ++ items_sent (trees (trees_of l.values));
  before : l.writer.before ≡ l.initial.writer.before;
  whole : AllHaveWholes (trees (trees_of (drop l.value-index l.values))) → AllHaveWholes (trees (trees_of l.values));
}

abbrev pub invariant-put_members-loop-key : goal.invariant-put_members-loop-key
invariant-put_members-loop-key l = record {
  tokens : l.writer.tokens ++ members_sent (pairs (entries (drop l.key-index l.members))) ≡ l.initial.writer.tokens ++ members_sent (pairs (entries l.members));
  before : l.writer.before ≡ l.initial.writer.before;
  whole : PairsHaveWholes (pairs (entries (drop l.key-index l.members))) → PairsHaveWholes (pairs (entries l.members));
}

abbrev pub decreases-put_value : goal.decreases-put_value
decreases-put_value l = 2 * depth (tree l.value.now)

abbrev pub decreases-put_items : goal.decreases-put_items
decreases-put_items l = 2 * depth_of_all (trees_of l.values.now) + 1

abbrev pub decreases-put_members : goal.decreases-put_members
decreases-put_members l = 2 * depth_of_values (entries l.members.now) + 1
