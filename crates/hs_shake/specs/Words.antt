-- The words of a report for a refused handshake.
use Rattle.std.specs.Prelude.{ℕ, List, ◌++◌, codes}
use Rattle.std.specs.Fmt.{signed_decimal}
use Rattle.hm_message.specs.Name.{field_name}
use Rattle.hs_shake.specs.declared.shake.ShakeError.{ShakeError}
use Rattle.hs_shake.specs.declared.shake.ShakeError.TheVariants.{NotJson, Missing, Wrong, Unspoken, Version, Refused, NoMemory}

-- the name of the refusal, and the field or the number that it tells; the text of one that was read is left out
abbrev pub shake_words : ShakeError → List ℕ
shake_words NotJson = codes "NotJson"
shake_words (Missing field) = codes "Missing " ++ field_name field
shake_words (Wrong field) = codes "Wrong " ++ field_name field
shake_words Unspoken = codes "Unspoken"
shake_words (Version n) = codes "Version " ++ signed_decimal n
shake_words (Refused s) = codes "Refused"
shake_words NoMemory = codes "out of memory"
