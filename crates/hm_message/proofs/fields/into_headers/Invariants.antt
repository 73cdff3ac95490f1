use Rattle.std.proofs.Common.{◌≡◌}
use Rattle.std.specs.Vec.Iter.{into_iter_items}
use Rattle.hv_value.specs.Tree.{pairs}
use Rattle.hv_value.specs.View.{tree, entries}
use Rattle.hm_message.specs.Fields.{all_headers, headers_in}
use Rattle.hm_message.proofs.Collected.{after}
use Rattle.hm_message.proofs.fields.into_headers.Given as goal

abbrev pub invariant-loop-key : goal.invariant-loop-key
invariant-loop-key l = after l.pairs.items (all_headers (pairs (entries (into_iter_items l.key-iterator)))) ≡ headers_in (tree l.fn.value)
