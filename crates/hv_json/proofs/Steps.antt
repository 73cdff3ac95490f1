-- A list that is converted, as one more value joins it.
use Rattle.std.proofs.Common.{◌≡◌, ℕ, ◌≤◌, max, Bool, true, false, ◌||◌, List, [], ◌∷◌, ◌++◌, append_assoc, arith}
use Rattle.std.proofs.lemmas.List.{map_push}
use Rattle.serde_json.specs.Data.{Data, Items, item, Members, member, items_depth, members_depth, depth as nesting}
use Rattle.serde_json.specs.Written.{items_have_float, members_have_float}
use Rattle.hv_value.specs.Tree.{depth, depth_of_all, depth_of_values}
use Rattle.hv_value.specs.View.{tree, trees_of as values_of, entries}
use Rattle.hv_value.specs.declared.value.Value.{Value}
use Rattle.hv_json.specs.Reading.{tree_of, trees_of, pairs_of}
use Rattle.hv_value.specs.Laws.{DepthOfOneMoreItem, DepthOfOneMorePair}

-- the values stand for the front of all, and left is its rest
pub record Converts (vs : List Value) (left all : Items) : Type 0 where
  pub read : values_of vs ++ trees_of left ≡ trees_of all
  pub whole : items_have_float left ≡ false
  pub shallow : max (depth_of_all (values_of vs)) (items_depth left) ≤ items_depth all

pub record ConvertsPairs (ps : List (List ℕ × Value)) (left all : Members) : Type 0 where
  pub read : entries ps ++ pairs_of left ≡ pairs_of all
  pub whole : members_have_float left ≡ false
  pub shallow : max (depth_of_values (entries ps)) (members_depth left) ≤ members_depth all

second : (a b : Bool) → a || b ≡ false → b ≡ false
second true b e = absurd cc
second false b e = e

pub items_step : DepthOfOneMoreItem → (vs : List Value) (v : Value) (d : Data) (left all : Items) → Converts vs (item d left) all → tree v ≡ tree_of d → depth (tree v) ≤ nesting d → Converts (vs ++ v ∷ []) left all
items_step deepest_push vs v d left all h e deep = record {
  read = rw (map_push tree vs v, append_assoc (values_of vs) (tree v ∷ []) (trees_of left), e) h.read;
  whole = second _ _ h.whole;
  shallow = omega (arith, h.shallow, deepest_push vs v, deep);
}

pub pairs_step : DepthOfOneMorePair → (ps : List (List ℕ × Value)) (k : List ℕ) (v : Value) (d : Data) (left all : Members) → ConvertsPairs ps (member k d left) all → tree v ≡ tree_of d → depth (tree v) ≤ nesting d → ConvertsPairs (ps ++ (k, v) ∷ []) left all
pairs_step deepest_push_pair ps k v d left all h e deep = record {
  read = rw (map_push _ ps (k, v), append_assoc (entries ps) ((k, tree v) ∷ []) (pairs_of left), e) h.read;
  whole = second _ _ h.whole;
  shallow = omega (arith, h.shallow, deepest_push_pair ps (k, v), deep);
}
