-- An image is as deep as its value, has its keys and is its own image.
use Rattle.std.proofs.Common.{◌≡◌, ℕ, suc, max, List, [], ◌∷◌, ◌++◌, refl, ap, ◌∙◌}
use Rattle.std.specs.Map.{keys_of}
use Rattle.hv_value.specs.Tree.{Tree, null, boolean, int, text, bytes, list, map, Trees, no_trees, more, Pairs, no_pairs, pair, Pair, trees, pairs, depth, depths, depths_of_pairs, depth_of_all, depth_of_values}
use Rattle.std.proofs.lemmas.List.{map_push}
use Rattle.hv_value.specs.View.{tree, trees_of, entry, entries}
use Rattle.hv_value.specs.declared.value.Value.{Value}
use Rattle.hv_value.specs.Image.{image, trees_image, pairs_image, images, entry_images}

mutual
  pub depth-image : (t : Tree) → depth (image t) ≡ depth t
  depth-image null = refl
  depth-image (boolean b) = refl
  depth-image (int z) = refl
  depth-image (text s) = refl
  depth-image (bytes s) = refl
  depth-image (list ts) = ap suc (depths-image ts)
  depth-image (map ps) = ap suc (depths-pairs_image ps)

  pub depths-image : (ts : Trees) → depths (trees_image ts) ≡ depths ts
  depths-image no_trees = refl
  depths-image (more t ts) = λ i. max (depth-image t i) (depths-image ts i)

  pub depths-pairs_image : (ps : Pairs) → depths_of_pairs (pairs_image ps) ≡ depths_of_pairs ps
  depths-pairs_image no_pairs = refl
  depths-pairs_image (pair k t ps) = λ i. max (depth-image t i) (depths-pairs_image ps i)

mutual
  pub image-image : (t : Tree) → image (image t) ≡ image t
  image-image null = refl
  image-image (boolean b) = refl
  image-image (int z) = refl
  image-image (text s) = refl
  image-image (bytes s) = refl
  image-image (list ts) = ap list (trees_image-trees_image ts)
  image-image (map ps) = ap map (pairs_image-pairs_image ps)

  trees_image-trees_image : (ts : Trees) → trees_image (trees_image ts) ≡ trees_image ts
  trees_image-trees_image no_trees = refl
  trees_image-trees_image (more t ts) = λ i. more (image-image t i) (trees_image-trees_image ts i)

  pairs_image-pairs_image : (ps : Pairs) → pairs_image (pairs_image ps) ≡ pairs_image ps
  pairs_image-pairs_image no_pairs = refl
  pairs_image-pairs_image (pair k t ps) = λ i. pair k (image-image t i) (pairs_image-pairs_image ps i)

pub trees-images : (ts : List Tree) → trees (images ts) ≡ trees_image (trees ts)
trees-images [] = refl
trees-images (t ∷ ts) = ap (λ (x : Trees). more (image t) x) (trees-images ts)

pub pairs-images : (ps : List Pair) → pairs (entry_images ps) ≡ pairs_image (pairs ps)
pairs-images [] = refl
pairs-images (p ∷ ps) = ap (λ (x : Pairs). pair p.0 (image p.1) x) (pairs-images ps)

pub depth-images : (ts : List Tree) → depth_of_all (images ts) ≡ depth_of_all ts
depth-images ts = ap depths (trees-images ts) ∙ depths-image (trees ts)

pub depth-entry_images : (ps : List Pair) → depth_of_values (entry_images ps) ≡ depth_of_values ps
depth-entry_images ps = ap depths_of_pairs (pairs-images ps) ∙ depths-pairs_image (pairs ps)

pub keys-entry_images : (ps : List Pair) → keys_of (entry_images ps) ≡ keys_of ps
keys-entry_images [] = refl
keys-entry_images (p ∷ ps) = ap (λ (x : List (List ℕ)). p.0 ∷ x) (keys-entry_images ps)

pub images_push : (ts : List Tree) (t : Tree) → images (ts ++ t ∷ []) ≡ images ts ++ image t ∷ []
images_push [] t = refl
images_push (u ∷ ts) t = ap (λ (x : List Tree). image u ∷ x) (images_push ts t)

pub entry_images_push : (ps : List Pair) (p : Pair) → entry_images (ps ++ p ∷ []) ≡ entry_images ps ++ (p.0, image p.1) ∷ []
entry_images_push [] p = refl
entry_images_push (q ∷ ps) p = ap (λ (x : List Pair). (q.0, image q.1) ∷ x) (entry_images_push ps p)

-- ---- a list of images, as one more joins it

pub image_step : (vs done : List Value) (v w : Value) → trees_of vs ≡ images (trees_of done) → tree v ≡ image (tree w) → trees_of (vs ++ v ∷ []) ≡ images (trees_of (done ++ w ∷ []))
image_step vs done v w so_far e = rw (map_push tree vs v, map_push tree done w, images_push, so_far, e) refl

pub entry_image_step : (ps done : List (List ℕ × Value)) (p q : List ℕ × Value) → entries ps ≡ entry_images (entries done) → p.0 ≡ q.0 → tree p.1 ≡ image (tree q.1) → entries (ps ++ p ∷ []) ≡ entry_images (entries (done ++ q ∷ []))
entry_image_step ps done p q so_far k e = rw (map_push entry ps p, map_push entry done q, entry_images_push, so_far, k, e) refl
