-- What a message's fields are as trees. Each function has None where the tree is of another kind.
use Rattle.std.specs.Prelude.{ℕ, ℤ, pos, List, [], ◌∷◌, Option, None, Some, Bool, ◌^◌, nat_lt, if◌then◌else◌, option_map}
use Rattle.hv_value.specs.Tree.{Tree, boolean, int, text, list, map, Trees, no_trees, more, Pairs, no_pairs, pair, Pair}
use Rattle.hm_message.specs.Headers.{Header}

abbrev pub trees_in : Trees → List Tree
trees_in no_trees = []
trees_in (more t ts) = t ∷ trees_in ts

abbrev pub pairs_in : Pairs → List Pair
pairs_in no_pairs = []
pairs_in (pair key t ps) = (key, t) ∷ pairs_in ps

abbrev pub text_in : Tree → Option (List ℕ)
text_in (text s) = Some s
text_in t = None

abbrev pub items_in : Tree → Option (List Tree)
items_in (list ts) = Some (trees_in ts)
items_in t = None

abbrev pub flag_in : Tree → Option Bool
flag_in (boolean b) = Some b
flag_in t = None

abbrev pub whole_in : Tree → Option ℤ
whole_in (int z) = Some z
whole_in t = None

-- a whole number from 0 to 2^64 - 1
abbrev pub number_in : Tree → Option ℕ
number_in (int (pos n)) = if nat_lt n (2 ^ 64) then Some n else None
number_in t = None

-- one more at the front, where both are there
abbrev pub with : {A : Type 0} → Option A → Option (List A) → Option (List A)
with (Some x) (Some xs) = Some (x ∷ xs)
with x xs = None

abbrev pub all_texts : Trees → Option (List (List ℕ))
all_texts no_trees = Some []
all_texts (more t ts) = with (text_in t) (all_texts ts)

-- a list of texts
abbrev pub texts_in : Tree → Option (List (List ℕ))
texts_in (list ts) = all_texts ts
texts_in t = None

abbrev pub all_headers : Pairs → Option (List Header)
all_headers no_pairs = Some []
all_headers (pair key t ps) = with (option_map (λ s. (key, s)) (text_in t)) (all_headers ps)

-- a map whose values are texts
abbrev pub headers_in : Tree → Option (List Header)
headers_in (map ps) = all_headers ps
headers_in t = None
