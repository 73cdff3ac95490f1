-- A tree as JSON can hold it: bytes are the text of their base64.
use Rattle.std.specs.Prelude.{ℕ, List, [], ◌∷◌}
use Rattle.base64.specs.Engines.{standard}
use Rattle.base64.specs.GeneralPurpose.{encode_of}
use Rattle.hv_value.specs.Tree.{Tree, null, boolean, int, text, bytes, list, map, Trees, no_trees, more, Pairs, no_pairs, pair, Pair}

-- RFC 4648, section 4, with padding
unfoldable pub base64 : List ℕ → List ℕ
base64 s = encode_of standard s

abbrev mutual
  pub image : Tree → Tree
  image null = null
  image (boolean b) = boolean b
  image (int z) = int z
  image (text s) = text s
  image (bytes s) = text (base64 s)
  image (list ts) = list (trees_image ts)
  image (map ps) = map (pairs_image ps)

  pub trees_image : Trees → Trees
  trees_image no_trees = no_trees
  trees_image (more t ts) = more (image t) (trees_image ts)

  pub pairs_image : Pairs → Pairs
  pairs_image no_pairs = no_pairs
  pairs_image (pair k t ps) = pair k (image t) (pairs_image ps)

abbrev pub images : List Tree → List Tree
images [] = []
images (t ∷ ts) = image t ∷ images ts

abbrev pub entry_images : List Pair → List Pair
entry_images [] = []
entry_images (p ∷ ps) = (p.0, image p.1) ∷ entry_images ps
