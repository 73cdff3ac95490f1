-- The object that a handshake's frame is, and its properties.
use Rattle.std.specs.Prelude.{◌≡◌, ℕ, List, Option, Ok}
use Rattle.hv_value.specs.Tree.{Tree, map, Pairs, value_in}
use Rattle.hv_json.specs.Reading.{reading}
use Rattle.hm_message.specs.Name.{field_name}
use Rattle.hm_message.specs.declared.message.Field.{Field}

-- the frame is the JSON text of the object of these pairs, which has each key once: of members with one name the last counts
abbrev pub IsObjectOf : List ℕ → Pairs → Type 0
IsObjectOf frame ps = reading frame ≡ Ok (map ps)

-- the frame is the text of no object
abbrev pub IsNoObject : List ℕ → Type 0
IsNoObject frame = (ps : Pairs) → IsObjectOf frame ps → ⊥

-- the value of a property
abbrev pub property : Field → Pairs → Option Tree
property field ps = value_in (field_name field) ps
