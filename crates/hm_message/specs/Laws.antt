-- What holds of all messages, types and values.
use Rattle.std.specs.Prelude.{◌≡◌, ℤ, List, ◌⊎◌, Some, None}
use Rattle.hv_value.specs.Tree.{Tree, Trees, trees}
use Rattle.hv_value.specs.View as seen
use Rattle.hv_value.specs.declared.value.Value.{Value}
use Rattle.hm_message.specs.Fields.{trees_in}
use Rattle.hm_message.specs.Kind.{number, kind_at, IsOfNoKind}
use Rattle.hm_message.specs.Message.{value_of, content_depth, message_image}
use Rattle.hm_message.specs.declared.kind.Kind.{Kind}
use Rattle.hm_message.specs.declared.message.Message.{Message}

-- A value and its tree determine each other, and so do a list of trees and its chain.
pub record ValuesAreTrees : Type 0 where
  pub value_of-tree : (v : Value) → value_of (seen.tree v) ≡ v
  pub tree-value_of : (t : Tree) → seen.tree (value_of t) ≡ t
  pub trees_in-trees : (ts : List Tree) → trees_in (trees ts) ≡ ts
  pub trees-trees_in : (ts : Trees) → trees (trees_in ts) ≡ ts

-- Each type has a number of its own, and every other number is of no type.
pub record KindsHaveNumbers : Type 0 where
  pub kind_at-number : (k : Kind) → kind_at (number k) ≡ Some k
  pub number-inj : (k l : Kind) → number k ≡ number l → k ≡ l
  pub number-known : (k : Kind) → IsOfNoKind (number k) → ⊥
  pub known_or_not : (z : ℤ) → ((k : Kind) × (z ≡ number k)) ⊎ (IsOfNoKind z × (kind_at z ≡ None))

-- A message's image is its own image.
abbrev pub ImageIsItsImage : Type 0
ImageIsItsImage = (m : Message) → message_image (message_image m) ≡ message_image m

-- A message's image nests as deep as the message.
abbrev pub ImageIsAsDeep : Type 0
ImageIsAsDeep = (m : Message) → content_depth (message_image m) ≡ content_depth m
