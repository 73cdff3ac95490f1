use Rattle.std.proofs.Common.{◌≡◌, ◌<◌, ◌+◌, ◌∷◌, ◌++◌, List, ℕ, length, take, drop, get_or, subst, sym, ap, ◌∙◌}
use Rattle.std.specs.BTreeMap.{insert_entry}
use Rattle.hv_value.specs.Tree.{key_cmp}
use Rattle.hv_value.specs.declared.value.Value.{Value}
use Rattle.hv_value.proofs.Places.{set_parts}
use Rattle.hv_value.proofs.value.merge.put.Goals as goal

pub returns-in-At-clause-ok : goal.returns-in-At-clause-ok
returns-in-At-clause-ok c =
    let ps = c.args.pairs.now.items in
    let i = c.in-At.i in
    let v = c.args.value in
    let found = c.index_mut.result.now in
    let below : i < length ps = subst (λ (xs : List (List ℕ × Value)). i < length xs) c.deref.ensures.value c.in-At.ensures.0 in
    let placed : insert_entry key_cmp ps c.args.key v ≡ take i ps ++ ((get_or ps i found).0, v) ∷ drop (i + 1) ps =
    subst (λ (xs : List (List ℕ × Value)). insert_entry key_cmp xs c.args.key v ≡ take i xs ++ ((get_or xs i found).0, v) ∷ drop (i + 1) xs) c.deref.ensures.value (c.in-At.ensures.1 found v) in
    set_parts ps i (found.0, v) below ∙ ap (λ (p : List ℕ × Value). take i ps ++ (p.0, v) ∷ drop (i + 1) ps) c.index_mut.ensures.value ∙ sym placed
