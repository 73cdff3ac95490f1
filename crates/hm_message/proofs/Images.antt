-- A value and its tree, and a message and its image.
use Rattle.std.proofs.Common.{◌≡◌, suc, List, [], ◌∷◌, ap, refl, sym, ◌∙◌}
use Rattle.hv_value.specs.Tree as tree
use Rattle.hv_value.specs.Tree.{Tree, Trees, no_trees, more, Pairs, no_pairs, pair, trees, pairs, depth}
use Rattle.hv_value.specs.Image.{image, images}
use Rattle.hv_value.specs.Laws as value_laws
use Rattle.hv_value.specs.Laws.{ImageIsItsOwn}
use Rattle.hv_value.specs.View as seen
use Rattle.hv_value.specs.declared.value.Value.{Value}
use Rattle.hv_value.specs.declared.value.Value.TheVariants as value
use Rattle.hm_message.specs.Fields.{trees_in, pairs_in}
use Rattle.hm_message.specs.Laws.{ValuesAreTrees, ImageIsItsImage, ImageIsAsDeep}
use Rattle.hm_message.specs.Message.{value_of, value_image, ending_depth, ending_image}
use Rattle.hm_message.specs.declared.message.Message.TheVariants.{Invocation, StreamItem, Completion, StreamInvocation, CancelInvocation, Ping, Close, Ack, Sequence}
use Rattle.hm_message.specs.declared.message.Ending.{Ending}
use Rattle.hm_message.specs.declared.message.Ending.TheVariants.{Void, Result, Error}
use Rattle.hm_message.proofs.Collected.{trees_in-trees, pairs_in-pairs}

pub value_of-tree : (v : Value) → value_of (seen.tree v) ≡ v
value_of-tree value.Null = refl
value_of-tree (value.Bool b) = refl
value_of-tree (value.Int z) = refl
value_of-tree (value.Text s) = refl
value_of-tree (value.Bytes s) = refl
value_of-tree (value.List ts) = ap value.List (trees_in-trees ts)
value_of-tree (value.Map ps) = ap value.Map (pairs_in-pairs ps)

trees-trees_in : (ts : Trees) → trees (trees_in ts) ≡ ts
trees-trees_in no_trees = refl
trees-trees_in (more t ts) = ap (λ (x : Trees). more t x) (trees-trees_in ts)

pairs-pairs_in : (ps : Pairs) → pairs (pairs_in ps) ≡ ps
pairs-pairs_in no_pairs = refl
pairs-pairs_in (pair k t ps) = ap (λ (x : Pairs). pair k t x) (pairs-pairs_in ps)

pub tree-value_of : (t : Tree) → seen.tree (value_of t) ≡ t
tree-value_of tree.null = refl
tree-value_of (tree.boolean b) = refl
tree-value_of (tree.int z) = refl
tree-value_of (tree.text s) = refl
tree-value_of (tree.bytes s) = refl
tree-value_of (tree.list ts) = ap tree.list (trees-trees_in ts)
tree-value_of (tree.map ps) = ap tree.map (pairs-pairs_in ps)

-- a value is known by its tree
pub tree-inj : (v w : Value) → seen.tree v ≡ seen.tree w → v ≡ w
tree-inj v w e = sym (value_of-tree v) ∙ ap value_of e ∙ value_of-tree w

pub values_are_trees : ValuesAreTrees
values_are_trees = record {
  value_of-tree = value_of-tree;
  tree-value_of = tree-value_of;
  trees_in-trees = trees_in-trees;
  trees-trees_in = trees-trees_in;
}

-- ---- images of messages

module _ (own : ImageIsItsOwn) where
  images-images : (ts : List Tree) → images (images ts) ≡ images ts
  images-images [] = refl
  images-images (t ∷ ts) = rw (own t, images-images ts) refl

  value_image-image : (v : Value) → value_image (value_image v) ≡ value_image v
  value_image-image v = rw (tree-value_of (image (seen.tree v)), own (seen.tree v)) refl

  ending_image-image : (e : Ending) → ending_image (ending_image e) ≡ ending_image e
  ending_image-image Void = refl
  ending_image-image (Result v) = ap Result (value_image-image v)
  ending_image-image (Error s) = refl

  pub image_is_its_image : ImageIsItsImage
  image_is_its_image (Invocation hs id s xs ids) = rw (images-images xs) refl
  image_is_its_image (StreamItem hs id v) = rw (value_image-image v) refl
  image_is_its_image (Completion hs id e) = rw (ending_image-image e) refl
  image_is_its_image (StreamInvocation hs id s xs ids) = rw (images-images xs) refl
  image_is_its_image (CancelInvocation hs id) = refl
  image_is_its_image Ping = refl
  image_is_its_image (Close e b) = refl
  image_is_its_image (Ack n) = refl
  image_is_its_image (Sequence n r) = refl

-- ---- they nest as deep as the messages

module _ (deep : value_laws.ImageIsAsDeep) where
  depth-value_image : (v : Value) → depth (seen.tree (value_image v)) ≡ depth (seen.tree v)
  depth-value_image v = ap depth (tree-value_of (image (seen.tree v))) ∙ deep.of_one (seen.tree v)

  ending_depth-image : (e : Ending) → ending_depth (ending_image e) ≡ ending_depth e
  ending_depth-image Void = refl
  ending_depth-image (Result v) = depth-value_image v
  ending_depth-image (Error s) = refl

  pub image_is_as_deep : ImageIsAsDeep
  image_is_as_deep (Invocation hs id s xs ids) = ap suc (deep.of_all xs)
  image_is_as_deep (StreamItem hs id v) = depth-value_image v
  image_is_as_deep (Completion hs id e) = ending_depth-image e
  image_is_as_deep (StreamInvocation hs id s xs ids) = ap suc (deep.of_all xs)
  image_is_as_deep (CancelInvocation hs id) = refl
  image_is_as_deep Ping = refl
  image_is_as_deep (Close e b) = refl
  image_is_as_deep (Ack n) = refl
  image_is_as_deep (Sequence n r) = refl
