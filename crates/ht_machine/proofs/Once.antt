-- Numbers that stand in a list once.
use Rattle.std.proofs.Common.{◌≡◌, ℕ, false, ◌||◌, List, [], ◌∷◌, ◌++◌, nat_eq, refl, sym, ◌∙◌}
use Rattle.std.specs.Cmp.{nat_eq_equiv}
use Rattle.std.specs.List.{IsDistinct, list_any}
use Rattle.std.proofs.lemmas.Map.Keys.{IsDistinct-push}

flipped : (q : ℕ) (xs : List ℕ) → list_any (λ y. nat_eq y q) xs ≡ list_any (nat_eq q) xs
flipped q [] = refl
flipped q (x ∷ xs) = λ i. nat_eq_equiv.symm x q i || flipped q xs i

pub one_more : (xs : List ℕ) (q : ℕ) → IsDistinct nat_eq xs → list_any (λ y. nat_eq y q) xs ≡ false → IsDistinct nat_eq (xs ++ q ∷ [])
one_more xs q d f = IsDistinct-push nat_eq_equiv xs q d (sym (flipped q xs) ∙ f)

pub none : IsDistinct nat_eq []
unfolding IsDistinct
none = tt
