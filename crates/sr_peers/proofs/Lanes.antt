-- A link that a side has left.
use Rattle.std.proofs.Common.{inl, inr, ⊎_elim, ◌≡◌, ◌⊎◌, ℕ, zero, suc, ◌<◌, List, [], ◌∷◌, length, Option, Some, refl, sym, ap, ◌∙◌, subst, arith, slice_set, get_or, length-set}
use Rattle.std.proofs.lemmas.Option.{slice_get-get_or}
use Rattle.std.specs.Prelude.{slice_get}
use Rattle.hd_delivery.specs.declared.vocabulary.Side.{Side}
use Rattle.sr_peers.specs.declared.lane.LinkBytes.{LinkBytes}
use Rattle.sr_peers.specs.Follows.{HasLeft, IsLeft, said_by}

-- ---- lists

-- what an index gives is there
pub there : {A : Type 0} (xs : List A) (i : ℕ) (x : A) → i < length xs → x ≡ get_or xs i x → slice_get xs i ≡ Some x
there xs i x within e = slice_get-get_or xs i x within ∙ ap Some (sym e)

-- a list with another element
pub get_set : {A : Type 0} (xs : List A) (i : ℕ) (v : A) (j : ℕ) (y : A) → slice_get (slice_set xs i v) j ≡ Some y → ((j ≡ i) × (v ≡ y)) ⊎ ((j ≡ i → ⊥) × (slice_get xs j ≡ Some y))
get_set [] i v j y e = absurd (cc)
get_set (x ∷ xs) zero v zero y e = inl (refl, cc)
get_set (x ∷ xs) zero v (suc j) y e = inr ((λ f. omega (arith, f)), e)
get_set (x ∷ xs) (suc i) v zero y e = inr ((λ f. omega (arith, f)), e)
get_set (x ∷ xs) (suc i) v (suc j) y e = up (get_set xs i v j y e)
  where
    up : ((j ≡ i) × (v ≡ y)) ⊎ ((j ≡ i → ⊥) × (slice_get xs j ≡ Some y)) → ((suc j ≡ suc i) × (v ≡ y)) ⊎ ((suc j ≡ suc i → ⊥) × (slice_get xs j ≡ Some y))
    up (inl g) = inl (ap suc g.0, g.1)
    up (inr g) = inr ((λ f. g.0 (omega (arith, f))), g.1)

-- ---- lanes

-- nothing was forgotten
pub left_none : (side : Side) (link : Option ℕ) (lanes : List LinkBytes) → IsLeft side link lanes lanes
left_none side link lanes = record { many = refl; each = λ l lane at. (lane, (at, record { opened = refl; said = refl; heard = λ f. refl })) }

-- what came on this link was
pub left_one : (side : Side) (link : ℕ) (lanes : List LinkBytes) (was now : LinkBytes) → link < length lanes → was ≡ get_or lanes link was → now.opened ≡ was.opened
    → said_by side now ≡ said_by side was → IsLeft side (Some link) lanes (slice_set lanes link now)
left_one side link lanes was now within e opened said = record {
  many = length-set lanes link now;
  each = λ l lane at. ⊎_elim
      (λ here. (
        was,
        (
          ap (slice_get lanes) here.0 ∙ there lanes link was within e,
          subst (λ x. HasLeft side (Some link) l was x) here.1
              (record { opened = opened; said = said; heard = λ f. absurd (f (ap Some (sym here.0))) }),
        ),
      ))
      (λ away. (lane, (away.1, record { opened = refl; said = refl; heard = λ f. refl })))
      (get_set lanes link now l lane at);
}
