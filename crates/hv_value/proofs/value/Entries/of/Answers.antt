use Rattle.std.proofs.Common.{List, ◌≡◌, [], sym, subst, ap, arith}
use Rattle.std.specs.List.Sorted.{IsStrictlySortedBy}
use Rattle.std.specs.Map.{keys_of}
use Rattle.hv_value.specs.Tree.{Pair, depth_of_values, key_cmp, put_all}
use Rattle.hv_value.specs.View.{entries}
use Rattle.hv_value.proofs.Keys.{depth-put_all}
use Rattle.hv_value.proofs.value.Entries.of.Goals as goal

pub invariant_of-result : goal.invariant_of-result
invariant_of-result c =
    let given = entries c.args.pairs.items in
    let e : entries c.in_ok-pairs.pairs.items ≡ put_all [] given = c.in_ok-pairs.ensures.ok in
    let deep = rw c.deref.ensures.value at c.deepest_pair-depth.ensures.exact in
    let in_order = rw c.deref.ensures.value at c.deepest_pair-depth.ensures.in_order in
    let sorted : IsStrictlySortedBy key_cmp (keys_of (entries c.in_ok-pairs.pairs.items)) =
    subst (λ (es : List Pair). IsStrictlySortedBy key_cmp (keys_of es)) (sym e) (c.map_keys_are_in_order.ensures given) in
    (deep, omega (arith, deep, ap depth_of_values e, depth-put_all [] given), sorted, in_order)

pub returns-clause-shallow : goal.returns-clause-shallow
returns-clause-shallow c =
    let given = entries c.args.pairs.items in
    let e : entries c.in_ok-pairs.pairs.items ≡ put_all [] given = c.in_ok-pairs.ensures.ok in
    omega (arith, ap depth_of_values e, depth-put_all [] given)
