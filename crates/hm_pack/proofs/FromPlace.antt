-- Elements from a place on.
use Rattle.std.proofs.Common.{◌≡◌, ℕ, zero, suc, ◌+◌, ◌<◌, ◌≤◌, List, [], ◌∷◌, None, Some, length, drop, refl, ap, sym, ◌∙◌, add-one, arith, get_or}
use Rattle.std.specs.Prelude.{slice_get, slice_set}
use Rattle.std.proofs.lemmas.List.{drop-set-lt, map-set}
use Rattle.std.proofs.lemmas.Option.{slice_get-map, slice_get_read, slice_get_past}
use Rattle.hv_value.specs.Tree.{Tree}
use Rattle.hv_value.specs.View.{tree, trees_of}
use Rattle.hv_value.specs.declared.value.Value.{Value}

first_of : {A : Type 0} (xs : List A) (at : ℕ) → slice_get xs at ≡ slice_get (drop at xs) 0
first_of [] zero = refl
first_of [] (suc at) = refl
first_of (x ∷ xs) zero = refl
first_of (x ∷ xs) (suc at) = first_of xs at

next_of : {A : Type 0} (xs : List A) (at : ℕ) → drop (suc at) xs ≡ drop 1 (drop at xs)
next_of [] zero = refl
next_of [] (suc at) = refl
next_of (x ∷ xs) zero = refl
next_of (x ∷ xs) (suc at) = next_of xs at

-- lists that are the same from a place on have the same element there
same_element : {A : Type 0} (xs ys : List A) (at : ℕ) → drop at xs ≡ drop at ys → slice_get xs at ≡ slice_get ys at
same_element {A} xs ys at h = first_of xs at ∙ ap (λ (zs : List A). slice_get zs 0) h ∙ sym (first_of ys at)

-- and are the same from the next place on
pub same_rest : {A : Type 0} (xs ys : List A) (at : ℕ) → drop at xs ≡ drop at ys → drop (at + 1) xs ≡ drop (at + 1) ys
same_rest {A} xs ys at h = rw add-one (next_of xs at ∙ ap (λ (zs : List A). drop 1 zs) h ∙ sym (next_of ys at))

-- the value at a place is the tree's there
pub found_at : (vs : List Value) (ts : List Tree) (at n : ℕ) (v : Value) → n ≡ length vs → at < n → v ≡ get_or vs at v → drop at (trees_of vs) ≡ drop at ts → Some (tree v) ≡ slice_get ts at
found_at vs ts at n v e h g d =
    let here : slice_get vs at ≡ Some v = slice_get_read vs n at v e h g in
    sym (sym (same_element (trees_of vs) ts at d) ∙ slice_get-map tree vs at ∙ rw here refl)

-- no value, no tree
pub absent_at : (vs : List Value) (ts : List Tree) (at : ℕ) → length vs ≤ at → drop at (trees_of vs) ≡ drop at ts → None ≡ slice_get ts at
absent_at vs ts at h d =
    let here : slice_get vs at ≡ None = slice_get_past vs at h in
    sym (sym (same_element (trees_of vs) ts at d) ∙ slice_get-map tree vs at ∙ rw here refl)

-- another value at a place leaves what stands after it
pub rest_after : (vs : List Value) (ts : List Tree) (at : ℕ) (v : Value) → drop at (trees_of vs) ≡ drop at ts → drop (at + 1) (trees_of (slice_set vs at v)) ≡ drop (at + 1) ts
rest_after vs ts at v d =
    rw (map-set tree vs at v) (drop-set-lt (at + 1) (trees_of vs) at (tree v) (omega arith) ∙ same_rest (trees_of vs) ts at d)
