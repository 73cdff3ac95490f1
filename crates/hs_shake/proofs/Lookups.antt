-- A property that is looked up among pairs.
use Rattle.std.proofs.Common.{◌≡◌, ℕ, true, false, List, ◌∷◌, Option, Some, sym, ◌∙◌}
use Rattle.std.specs.Prelude.{◌==◌}
use Rattle.std.specs.Cmp.Lexicographic.{pointwise, texts_ties}
use Rattle.hv_value.specs.Tree.{Tree, pairs, is_key, value_in}
use Rattle.hv_value.specs.View.{tree, entries}
use Rattle.hv_value.specs.declared.value.Value.{Value}

pub found : (name : List ℕ) (p : List ℕ × Value) (left : List (List ℕ × Value)) (all : Option Tree) → pointwise (λ x y. x == y) name p.0 ≡ true → value_in name (pairs (entries (p ∷ left))) ≡ all → Some (tree p.1) ≡ all
found name p left all e h =
    let here : is_key name p.0 ≡ true = sym (texts_ties name p.0) ∙ e in
    rw here at h

pub passed : (name : List ℕ) (p : List ℕ × Value) (left : List (List ℕ × Value)) (all : Option Tree) → pointwise (λ x y. x == y) name p.0 ≡ false → value_in name (pairs (entries (p ∷ left))) ≡ all → value_in name (pairs (entries left)) ≡ all
passed name p left all e h =
    let here : is_key name p.0 ≡ false = sym (texts_ties name p.0) ∙ e in
    rw here at h
