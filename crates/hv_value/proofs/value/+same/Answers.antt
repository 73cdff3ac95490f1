use Rattle.std.proofs.Common.{◌≡◌, ◌<◌, ◌∷◌, ◌+◌, Bool, true, false, not, length, drop, sym, ◌∙◌, refl, arith}
use Rattle.std.proofs.lemmas.List.{drop_more}
use Rattle.hv_value.specs.Same.{same_bytes, same_tree}
use Rattle.hv_value.specs.View.{tree}
use Rattle.hv_value.proofs.Lengths.{other_trees, other_pairs}
use Rattle.hv_value.proofs.value.+same.Goals as goal

pub same_all-returns-then-a-b : goal.same_all-returns-then-a-b
same_all-returns-then-a-b t c = sym (other_trees c.args.a.now c.args.b.now c.if-a-b.true)

pub same_members-returns-then-a-b : goal.same_members-returns-then-a-b
same_members-returns-then-a-b t c = sym (other_pairs c.args.a.now c.args.b.now c.if-a-b.true)

not_false : (b : Bool) → not b ≡ false → b ≡ true
not_false true e = refl
not_false false e = absurd cc

pub same_members-loop-i-preserved : goal.same_members-loop-i-preserved
same_members-loop-i-preserved t c =
    let in_a : c.loop-i.i < length c.args.a.now = omega arith in
    let in_b : c.loop-i.i < length c.args.b.now = omega arith in
    let a : drop c.loop-i.i c.args.a.now ≡ c.index-a-i.result ∷ drop (c.loop-i.i + 1) c.args.a.now = drop_more _ _ c.index-a-i.result in_a ∙ rw (← c.index-a-i.is) refl in
    let b : drop c.loop-i.i c.args.b.now ≡ c.index-b-i.result ∷ drop (c.loop-i.i + 1) c.args.b.now = drop_more _ _ c.index-b-i.result in_b ∙ rw (← c.index-b-i.is) refl in
    let keys : same_bytes c.index-a-i.result.0 c.index-b-i.result.0 ≡ true = not_false _ (sym c.ne.ensures ∙ c.if-ne.false) in
    let values : same_tree (tree c.index-a-i.result.1) (tree c.index-b-i.result.1) ≡ true = sym c.same.ensures ∙ c.if-not-same.false in
    rw (a, b, keys, values) at c.loop-i.invariant
