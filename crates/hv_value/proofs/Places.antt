-- The order of two keys of which one ends, and the place of a key among pairs.
use Rattle.std.proofs.Common.{◌≡◌, ℕ, ◌<◌, ◌≤◌, ◌+◌, List, [], ◌∷◌, ◌++◌, length, take, drop, set, refl, sym, ap, ◌∙◌, append_assoc, arith}
use Rattle.std.proofs.lemmas.List.{take_more_set, drop-set-lt, take-append-drop, get_or-map}
use Rattle.std.proofs.lemmas.Map.Entries.{length-keys_of}
use Rattle.std.proofs.lemmas.Map.Keys.{sorted_from_all_adjacent}
use Rattle.std.proofs.lemmas.Cmp.{nat_list_cmp_total}
use Rattle.std.specs.List.{AllAdjacentBelow}
use Rattle.std.specs.List.Sorted.{IsStrictlySortedBy}
use Rattle.std.specs.Map.{keys_of}
use Rattle.std.specs.declared.cmp.Ordering.TheVariants.{Less, Greater}
use Rattle.hv_value.specs.Tree.{key_cmp}
use Rattle.hv_value.specs.declared.value.Value.{Value}
use Rattle.hv_value.specs.declared.value.Value.TheVariants as value

-- ---- keys

pub first_ends : (xs ys : List ℕ) → length xs ≡ 0 → 0 < length ys → key_cmp xs ys ≡ Less
first_ends [] [] e h = absurd (omega arith)
first_ends [] (y ∷ ys) e h = refl
first_ends (x ∷ xs) ys e h = absurd (omega arith)

pub second_ends : (xs ys : List ℕ) → 0 < length xs → length ys ≡ 0 → key_cmp xs ys ≡ Greater
second_ends [] ys h e = absurd (omega arith)
second_ends (x ∷ xs) [] h e = refl
second_ends (x ∷ xs) (y ∷ ys) h e = absurd (omega arith)

-- ---- places

abbrev Entry : Type 0
Entry = List ℕ × Value

pub sorted_from_adjacent : (ps : List Entry) (n : ℕ) → length ps ≤ n → AllAdjacentBelow (λ p q. key_cmp p.0 q.0 ≡ Less) ps n → IsStrictlySortedBy key_cmp (keys_of ps)
sorted_from_adjacent ps n enough h =
    sorted_from_all_adjacent nat_list_cmp_total (keys_of ps) [] (λ k below.
    let inside : k + 1 < length ps = omega (arith, below, length-keys_of ps) in
    rw (get_or-map (λ (e : Entry). e.0) ps k ([], value.Null) [] (omega (arith, inside)), get_or-map (λ (e : Entry). e.0) ps (k + 1) ([], value.Null) [] inside) (h k ([], value.Null) (omega (arith, inside, enough))))

pub set_parts : (ps : List Entry) (i : ℕ) (p : Entry) → i < length ps → set ps i p ≡ take i ps ++ p ∷ drop (i + 1) ps
set_parts ps i p h =
    sym (take-append-drop (i + 1) (set ps i p))
    ∙ ap (λ (x : List Entry). x ++ drop (i + 1) (set ps i p)) (take_more_set ps i p h)
    ∙ append_assoc (take i ps) (p ∷ []) (drop (i + 1) (set ps i p))
    ∙ ap (λ (x : List Entry). take i ps ++ p ∷ x) (drop-set-lt (i + 1) ps i p (omega arith))
