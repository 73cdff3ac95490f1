-- The text of a value.
use Rattle.std.specs.Prelude.{ℕ, List}
use Rattle.serde_json.specs.Data as json
use Rattle.serde_json.specs.Data.{Data, Items, Members}
use Rattle.serde_json.specs.Find.{of_integer}
use Rattle.serde_json.specs.Written.{compact_text}
use Rattle.hv_value.specs.Image.{base64}
use Rattle.hv_value.specs.Tree.{Tree, null, boolean, int, text, bytes, list, map, Trees, no_trees, more, Pairs, no_pairs, pair}

-- The value as JSON: a map is an object with its pairs as members, in their order,
-- and bytes are the string of their base64.
abbrev mutual
  pub json_of : Tree → Data
  json_of null = json.null
  json_of (boolean b) = json.boolean b
  json_of (int z) = json.number (of_integer z)
  json_of (text s) = json.string s
  json_of (bytes s) = json.string (base64 s)
  json_of (list ts) = json.array (items_of ts)
  json_of (map ps) = json.object (members_of ps)

  pub items_of : Trees → Items
  items_of no_trees = json.no_items
  items_of (more t ts) = json.item (json_of t) (items_of ts)

  pub members_of : Pairs → Members
  members_of no_pairs = json.no_members
  members_of (pair k t ps) = json.member k (json_of t) (members_of ps)

-- RFC 8259 text with no space between tokens. Serde_json chooses which characters of a
-- string are escaped, and how.
unfoldable pub json_text : Tree → List ℕ
json_text t = compact_text (json_of t)
