-- A refusal in words.
use Rattle.std.specs.Prelude.{ℕ, List, ◌++◌, codes}
use Rattle.hm_message.specs.Name.{field_name}
use Rattle.hm_json.specs.declared.refusal.Refusal.{Refusal}
use Rattle.hm_json.specs.declared.refusal.Refusal.TheVariants.{NotJson, Fraction, TooDeep, NotObject, Missing, Wrong, Both, NoMemory}

abbrev pub refusal_words : Refusal → List ℕ
refusal_words NotJson = codes "NotJson"
refusal_words Fraction = codes "Fraction"
refusal_words TooDeep = codes "TooDeep"
refusal_words NotObject = codes "NotObject"
refusal_words (Missing field) = codes "Missing " ++ field_name field
refusal_words (Wrong field) = codes "Wrong " ++ field_name field
refusal_words Both = codes "Both"
refusal_words NoMemory = codes "NoMemory"
