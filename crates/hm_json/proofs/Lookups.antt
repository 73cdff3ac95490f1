-- A property that is looked up among pairs.
use Rattle.std.proofs.Common.{◌≡◌, ℕ, ◌≤◌, max, Bool, true, false, cond, List, ◌∷◌, Option, Some, refl, sym, ◌∙◌, arith}
use Rattle.std.specs.Prelude.{◌==◌, option_map}
use Rattle.std.specs.Cmp.Lexicographic.{pointwise, texts_ties}
use Rattle.hv_value.specs.Tree.{Tree, null, boolean, int, text, bytes, list, map, Pairs, no_pairs, pair, pairs, depth, depths_of_pairs, is_key, value_in, value_at}
use Rattle.hv_value.specs.Image.{image, pairs_image}
use Rattle.hv_value.specs.View.{tree, entries}
use Rattle.hv_value.specs.declared.value.Value.{Value}

pub found : (name : List ℕ) (p : List ℕ × Value) (left : List (List ℕ × Value)) (all : Option Tree) → pointwise (λ x y. x == y) name p.0 ≡ true → value_in name (pairs (entries (p ∷ left))) ≡ all → Some (tree p.1) ≡ all
found name p left all e h =
    let here : is_key name p.0 ≡ true = sym (texts_ties name p.0) ∙ e in
    rw here at h

pub passed : (name : List ℕ) (p : List ℕ × Value) (left : List (List ℕ × Value)) (all : Option Tree) → pointwise (λ x y. x == y) name p.0 ≡ false → value_in name (pairs (entries (p ∷ left))) ≡ all → value_in name (pairs (entries left)) ≡ all
passed name p left all e h =
    let here : is_key name p.0 ≡ false = sym (texts_ties name p.0) ∙ e in
    rw here at h

-- ---- images

pub value_in-image : (k : List ℕ) (ps : Pairs) → value_in k (pairs_image ps) ≡ option_map image (value_in k ps)
value_in-image k no_pairs = refl
value_in-image k (pair l t ps) = go (is_key k l) (value_in-image k ps)
  where
    go : (b : Bool) → value_in k (pairs_image ps) ≡ option_map image (value_in k ps) → cond b (Some (image t)) (value_in k (pairs_image ps)) ≡ option_map image (cond b (Some t) (value_in k ps))
    go true rest = refl
    go false rest = rest

pub value_at-image : (k : List ℕ) (t : Tree) → value_at k (image t) ≡ option_map image (value_at k t)
value_at-image k null = refl
value_at-image k (boolean b) = refl
value_at-image k (int z) = refl
value_at-image k (text s) = refl
value_at-image k (bytes s) = refl
value_at-image k (list ts) = refl
value_at-image k (map ps) = value_in-image k ps

-- ---- depth

depth_in : (k : List ℕ) (ps : Pairs) (t : Tree) → value_in k ps ≡ Some t → depth t ≤ depths_of_pairs ps
depth_in k no_pairs t e = absurd cc
depth_in k (pair l u ps) t e = go (is_key k l) e (depth_in k ps t)
  where
    go : (b : Bool) → cond b (Some u) (value_in k ps) ≡ Some t → (value_in k ps ≡ Some t → depth t ≤ depths_of_pairs ps) → depth t ≤ max (depth u) (depths_of_pairs ps)
    go true e rest = let same : u ≡ t = cc in rw (← same) (omega arith)
    go false e rest = let below : depth t ≤ depths_of_pairs ps = rest e in omega arith

-- a property nests no deeper than the object's values
pub depth_at : (k : List ℕ) (ps : Pairs) (t : Tree) → value_at k (map ps) ≡ Some t → depth t ≤ depths_of_pairs ps
depth_at k ps t e = depth_in k ps t e
