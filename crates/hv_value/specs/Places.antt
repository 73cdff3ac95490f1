-- Where a key belongs among pairs.
use Rattle.std.specs.Prelude.{◌≡◌, ◌<◌, ◌≤◌, ℕ, ◌+◌, List, ◌∷◌, ◌++◌, length, take, drop, get_or}
use Rattle.std.specs.BTreeMap.{insert_entry}
use Rattle.hv_value.specs.Tree.{key_cmp}
use Rattle.hv_value.specs.declared.value.Value.{Value}
use Rattle.hv_value.specs.declared.value.merge.Place.{Place}
use Rattle.hv_value.specs.declared.value.merge.Place.TheVariants.{At, Before}

-- a value that is put in under the key goes there
abbrev pub IsPlace : List (List ℕ × Value) → List ℕ → Place → Type 0
IsPlace ps key (At i) = (i < length ps) × ((d : List ℕ × Value) (v : Value) → insert_entry key_cmp ps key v ≡ take i ps ++ ((get_or ps i d).0, v) ∷ drop (i + 1) ps)
IsPlace ps key (Before i) = (i ≤ length ps) × ((v : Value) → insert_entry key_cmp ps key v ≡ take i ps ++ (key, v) ∷ drop i ps)
