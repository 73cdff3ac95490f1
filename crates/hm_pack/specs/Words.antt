-- A refusal in words.
use Rattle.std.specs.Prelude.{ℕ, List, ◌++◌, codes}
use Rattle.std.specs.Fmt.{decimal, signed_decimal}
use Rattle.hm_message.specs.Name.{field_name}
use Rattle.hv_pack.specs.Words.{error_words}
use Rattle.hm_pack.specs.declared.refusal.PackRefusal.{PackRefusal}
use Rattle.hm_pack.specs.declared.refusal.PackRefusal.TheVariants.{Value, Trailing, NotArray, Missing, Wrong, ResultKind, NoMemory}

-- the name of the refusal, and the place, the field or the number that it tells
abbrev pub refusal_words : PackRefusal → List ℕ
refusal_words (Value e) = error_words e
refusal_words (Trailing at) = codes "Trailing " ++ decimal at
refusal_words NotArray = codes "NotArray"
refusal_words (Missing field) = codes "Missing " ++ field_name field
refusal_words (Wrong field) = codes "Wrong " ++ field_name field
refusal_words (ResultKind n) = codes "ResultKind " ++ signed_decimal n
refusal_words NoMemory = codes "NoMemory"
