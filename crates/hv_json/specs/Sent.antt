-- The tokens that are written for a value, and what lets them be read again.
use Rattle.std.specs.Prelude.{List}
use Rattle.std.specs.Str.{IsUtf8}
use Rattle.json.specs.Token.{Token}
use Rattle.json.specs.Tree.{json_tokens, items_tokens, members_tokens}
use Rattle.serde_json.specs.Written.{outline, items_outline, members_outline}
use Rattle.hv_value.specs.Tree.{Tree, null, boolean, int, text, bytes, list, map, Trees, no_trees, more, Pairs, no_pairs, pair}
use Rattle.hv_value.specs.Whole.{IsWhole}
use Rattle.hv_json.specs.Writing.{json_of, items_of, members_of}

-- the tokens of a value's image
abbrev pub sent : Tree → List Token
sent t = json_tokens (outline (json_of t))

-- those of values, with the closing bracket
abbrev pub items_sent : Trees → List Token
items_sent ts = items_tokens (items_outline (items_of ts))

-- those of pairs, with the closing bracket
abbrev pub members_sent : Pairs → List Token
members_sent ps = members_tokens (members_outline (members_of ps))

-- each number is one that a value can hold
abbrev mutual
  pub HasWholes : Tree → Type 0
  HasWholes null = Unit {0}
  HasWholes (boolean b) = Unit {0}
  HasWholes (int z) = IsWhole z
  HasWholes (text s) = Unit {0}
  HasWholes (bytes s) = Unit {0}
  HasWholes (list ts) = AllHaveWholes ts
  HasWholes (map ps) = PairsHaveWholes ps

  pub AllHaveWholes : Trees → Type 0
  AllHaveWholes no_trees = Unit {0}
  AllHaveWholes (more t ts) = HasWholes t × AllHaveWholes ts

  pub PairsHaveWholes : Pairs → Type 0
  PairsHaveWholes no_pairs = Unit {0}
  PairsHaveWholes (pair k t ps) = HasWholes t × PairsHaveWholes ps

-- each text and each key is UTF-8
abbrev mutual
  pub HasUtf8 : Tree → Type 0
  HasUtf8 null = Unit {0}
  HasUtf8 (boolean b) = Unit {0}
  HasUtf8 (int z) = Unit {0}
  HasUtf8 (text s) = IsUtf8 s
  HasUtf8 (bytes s) = Unit {0}
  HasUtf8 (list ts) = AllHaveUtf8 ts
  HasUtf8 (map ps) = PairsHaveUtf8 ps

  pub AllHaveUtf8 : Trees → Type 0
  AllHaveUtf8 no_trees = Unit {0}
  AllHaveUtf8 (more t ts) = HasUtf8 t × AllHaveUtf8 ts

  pub PairsHaveUtf8 : Pairs → Type 0
  PairsHaveUtf8 no_pairs = Unit {0}
  PairsHaveUtf8 (pair k t ps) = IsUtf8 k × HasUtf8 t × PairsHaveUtf8 ps
