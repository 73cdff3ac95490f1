use Rattle.std.proofs.Common.{[], subst, sym}
use Rattle.std.specs.List.Sorted.{IsStrictlySortedBy}
use Rattle.std.specs.Map.{keys_of}
use Rattle.hv_value.specs.Tree.{key_cmp}
use Rattle.hv_value.specs.View.{entries}
use Rattle.hv_value.proofs.Orders.{put_all-sorted}
use Rattle.hv_value.proofs.Puts.{keys-entries}
use Rattle.hv_value.proofs.value.merge.merged.Goals as goal

pub returns-then-are_in_order-clause-ok : goal.returns-then-are_in_order-clause-ok
returns-then-are_in_order-clause-ok c =
    let ps = c.args.pairs.items in
    let sorted : IsStrictlySortedBy key_cmp (keys_of ps) = subst (λ xs. IsStrictlySortedBy key_cmp (keys_of xs)) c.deref.ensures.value (c.are_in_order.ensures c.if-are_in_order.true) in
    sym (put_all-sorted [] (entries ps) (subst (λ ks. IsStrictlySortedBy key_cmp ks) (sym (keys-entries ps)) sorted))
