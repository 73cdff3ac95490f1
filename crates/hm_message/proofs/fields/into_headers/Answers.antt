use Rattle.std.proofs.Common.{◌≡◌, Some, rules, sym, ap, ◌∙◌}
use Rattle.std.specs.Vec.Iter.{into_iter_items}
use Rattle.std.proofs.lemmas.List.{append-nil, nil_from_length}
use Rattle.hv_value.specs.Tree.{pairs}
use Rattle.hm_message.specs.Fields.{all_headers}
use Rattle.hm_message.proofs.Collected.{IsHeaders-all_headers}
use Rattle.hm_message.proofs.fields.into_headers.Goals as goal

pub in_order-requires : goal.in_order-requires
in_order-requires c =
    let none = nil_from_length (into_iter_items c.loop-key.key-iterator) (search rules) in
    let found : all_headers (pairs c.in-Map.entries) ≡ Some c.loop-key.pairs.items =
    sym (rw (none, c.in-Map.is) at c.loop-key.invariant) ∙ ap Some (append-nil c.loop-key.pairs.items) in
    IsHeaders-all_headers c.in-Map.entries c.loop-key.pairs.items c.into_pairs-members.ensures.in_order found
