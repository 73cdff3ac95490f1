use Rattle.std.proofs.Common.{◌≡◌, ◌∷◌, ◌+◌, drop, refl, sym, ◌∙◌}
use Rattle.std.proofs.lemmas.List.{drop_more}
use Rattle.hs_shake.proofs.Lookups.{found, passed}
use Rattle.hs_shake.proofs.reading.property.Goals as goal

pub returns-then-eq : goal.returns-then-eq
returns-then-eq c =
    let xs = c.pairs-key-items.result.now in
    let more : drop c.loop-key.key-index xs ≡ c.loop-key-item.result ∷ drop (c.loop-key.key-index + 1) xs =
    rw (drop_more xs c.loop-key.key-index c.loop-key-item.result c.loop-key-test.true, ← c.loop-key-item.is) refl in
    let same = sym (rw c.as_str.ensures at c.eq.ensures) ∙ c.if-eq.true in
    rw (← c.name-name.ensures) (found c.name-name.result.now c.loop-key-item.result _ _ same (rw (more, c.pairs-key-items.ensures.pairs) at c.loop-key.invariant))

pub loop-key-preserved : goal.loop-key-preserved
loop-key-preserved c =
    let xs = c.pairs-key-items.result.now in
    let more : drop c.loop-key.key-index xs ≡ c.loop-key-item.result ∷ drop (c.loop-key.key-index + 1) xs =
    rw (drop_more xs c.loop-key.key-index c.loop-key-item.result c.loop-key-test.true, ← c.loop-key-item.is) refl in
    let other = sym (rw c.as_str.ensures at c.eq.ensures) ∙ c.if-eq.false in
    passed c.name-name.result.now c.loop-key-item.result _ _ other (rw more at c.loop-key.invariant)
