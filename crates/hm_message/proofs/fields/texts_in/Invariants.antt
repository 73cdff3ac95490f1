use Rattle.std.proofs.Common.{◌≡◌, drop}
use Rattle.hv_value.specs.Tree.{trees}
use Rattle.hv_value.specs.View.{trees_of}
use Rattle.hm_message.specs.Fields.{all_texts}
use Rattle.hm_message.proofs.Collected.{after}
use Rattle.hm_message.proofs.fields.texts_in.Given as goal

abbrev pub invariant-loop-value : goal.invariant-loop-value
invariant-loop-value l = after l.texts.items (all_texts (trees (trees_of (drop l.value-index l.value-items)))) ≡ all_texts (trees (trees_of l.value-items))
