use Rattle.std.proofs.Common.{◌≡◌}
use Rattle.std.specs.Vec.Iter.{into_iter_items}
use Rattle.hv_value.specs.Tree.{trees}
use Rattle.hv_value.specs.View.{tree, trees_of}
use Rattle.hm_message.specs.Fields.{all_texts, texts_in}
use Rattle.hm_message.proofs.Collected.{after}
use Rattle.hm_message.proofs.fields.into_texts.Given as goal

abbrev pub invariant-loop-value : goal.invariant-loop-value
invariant-loop-value l = after l.texts.items (all_texts (trees (trees_of (into_iter_items l.value-iterator)))) ≡ texts_in (tree l.fn.value)
