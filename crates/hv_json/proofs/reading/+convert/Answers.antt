use Rattle.std.proofs.Common.{◌≡◌, ◌∷◌, ◌+◌, drop, refl, sym, string_bytes, ◌∙◌}
use Rattle.std.proofs.lemmas.List.{drop_more}
use Rattle.serde_json.specs.View.{view, members_view}
use Rattle.hv_json.proofs.Steps.{items_step, pairs_step}
use Rattle.hv_json.proofs.reading.+convert.Goals as goal

pub convert_items-loop-item-preserved : goal.convert_items-loop-item-preserved
convert_items-loop-item-preserved t c =
    let xs = c.args.items.now in
    let more : drop c.loop-item.item-index xs ≡ c.item-item.result ∷ drop (c.loop-item.item-index + 1) xs =
    rw (drop_more xs c.loop-item.item-index c.item-item.result c.loop-item-test.true, ← c.item-item.is) refl in
    rw c.in_ok-push.ensures.items
    (items_step c.depth_of_one_more_item.ensures c.loop-item.values.items c.in_ok-convert.field-0 (view c.item-item.result) _ _ (rw more at c.loop-item.invariant) c.in_ok-convert.ensures.ok c.in_ok-convert.ensures.depth)

pub convert_members-loop-key-preserved : goal.convert_members-loop-key-preserved
convert_members-loop-key-preserved t c =
    let named : string_bytes c.in-Some.key.now ≡ c.in_ok-of.field-0 = sym (c.in_ok-of.ensures ∙ c.deref.ensures) in
    let one = rw c.in-Some.ensures.steps at c.loop-key.invariant in
    let begun = rw named at one in
    rw c.in_ok-push.ensures.items
    (pairs_step c.depth_of_one_more_pair.ensures c.loop-key.pairs.items c.in_ok-of.field-0 c.in_ok-convert.field-0 (view c.in-Some.member.now) (members_view c.next.new.self) (members_view c.args.members.now.entries) begun c.in_ok-convert.ensures.ok c.in_ok-convert.ensures.depth)
