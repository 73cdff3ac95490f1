-- What holds of all values and trees.
use Rattle.std.specs.Prelude.{◌≡◌, ◌≤◌, ◌<◌, ℕ, max, List, [], ◌∷◌, ◌++◌, length, get_or}
use Rattle.std.specs.Map.{keys_of}
use Rattle.std.specs.List.Sorted.{IsStrictlySortedBy}
use Rattle.hv_value.specs.Tree.{Tree, Pair, map, pairs, depth, depth_of_all, depth_of_values, key_cmp, map_of, put_all, value_at, last_of}
use Rattle.hv_value.specs.Order.{keys_of_pairs}
use Rattle.hv_value.specs.Image.{image, images}
use Rattle.hv_value.specs.View.{tree, trees_of, entries}
use Rattle.hv_value.specs.declared.value.Value.{Value}

-- no value of a list is deeper than the deepest of them
abbrev pub NoItemIsDeeper : Type 0
NoItemIsDeeper = (vs : List Value) (i : ℕ) (d : Value) → i < length vs → depth (tree (get_or vs i d)) ≤ depth_of_all (trees_of vs)

-- nor is the value of a pair
abbrev pub NoPairIsDeeper : Type 0
NoPairIsDeeper = (ps : List (List ℕ × Value)) (i : ℕ) (d : List ℕ × Value) → i < length ps → depth (tree (get_or ps i d).1) ≤ depth_of_values (entries ps)

-- values are as deep as the deeper of the last and those before it
abbrev pub DepthOfOneMoreItem : Type 0
DepthOfOneMoreItem = (vs : List Value) (v : Value) → depth_of_all (trees_of (vs ++ v ∷ [])) ≡ max (depth_of_all (trees_of vs)) (depth (tree v))

-- so are the values of pairs
abbrev pub DepthOfOneMorePair : Type 0
DepthOfOneMorePair = (ps : List (List ℕ × Value)) (p : List ℕ × Value) → depth_of_values (entries (ps ++ p ∷ [])) ≡ max (depth_of_values (entries ps)) (depth (tree p.1))

-- pairs with their keys in order are the pairs of their map
abbrev pub PairsInOrderAreTheirMap : Type 0
PairsInOrderAreTheirMap = (ps : List Pair) → IsStrictlySortedBy key_cmp (keys_of ps) → map_of ps ≡ map (pairs ps)

-- a map of these pairs has their keys
abbrev pub MapHasTheKeys : Type 0
MapHasTheKeys = (ps : List Pair) → keys_of_pairs (pairs ps) ≡ keys_of ps

-- an image is its own image
abbrev pub ImageIsItsOwn : Type 0
ImageIsItsOwn = (t : Tree) → image (image t) ≡ image t

-- an image nests as deep as its value, and so do several
pub record ImageIsAsDeep : Type 0 where
  pub of_one : (t : Tree) → depth (image t) ≡ depth t
  pub of_all : (ts : List Tree) → depth_of_all (images ts) ≡ depth_of_all ts

-- the keys of a map of pairs are distinct and in byte order
abbrev pub KeysOfAMapAreInOrder : Type 0
KeysOfAMapAreInOrder = (ps : List Pair) → IsStrictlySortedBy key_cmp (keys_of (put_all [] ps))

-- of the pairs with one key the last counts
abbrev pub LastPairCounts : Type 0
LastPairCounts = (ps : List Pair) (key : List ℕ) → value_at key (map_of ps) ≡ last_of key ps
