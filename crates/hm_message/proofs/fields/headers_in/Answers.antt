use Rattle.std.proofs.Common.{◌≡◌, Some, [], drop, refl, ◌∙◌, sym, ap}
use Rattle.std.proofs.lemmas.List.{drop_all, append-nil}
use Rattle.hv_value.specs.Tree.{pairs}
use Rattle.hv_value.specs.View.{entries}
use Rattle.hm_message.specs.Fields.{all_headers}
use Rattle.hm_message.proofs.Collected.{IsHeaders-all_headers}
use Rattle.hm_message.proofs.fields.headers_in.Goals as goal

pub returns : goal.returns
returns c =
    let xs = c.pairs-key-items.result.now in
    let none : drop c.loop-key.key-index xs ≡ [] = drop_all c.loop-key.key-index xs c.loop-key-test.false in
    let found : all_headers (pairs (entries xs)) ≡ Some c.loop-key.pairs.items = sym (rw none at c.loop-key.invariant) ∙ ap Some (append-nil c.loop-key.pairs.items) in
    let here = rw c.pairs-key-items.ensures.pairs at found in
    let kept = c.in_ok-of.ensures.unchanged (IsHeaders-all_headers c.in-Map.entries c.loop-key.pairs.items c.pairs.ensures.in_order here) in
    rw (c.in-Map.is, kept, here) refl
