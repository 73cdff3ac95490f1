use Rattle.std.proofs.Common.{◌≡◌, drop}
use Rattle.hv_value.specs.Tree.{pairs}
use Rattle.hv_value.specs.View.{entries}
use Rattle.hm_message.specs.Fields.{all_headers}
use Rattle.hm_message.proofs.Collected.{after}
use Rattle.hm_message.proofs.fields.headers_in.Given as goal

abbrev pub invariant-loop-key : goal.invariant-loop-key
invariant-loop-key l = after l.pairs.items (all_headers (pairs (entries (drop l.key-index l.key-items)))) ≡ all_headers (pairs (entries l.key-items))
