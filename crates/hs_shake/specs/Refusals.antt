-- Refusals of what isn't a value's text, and out of memory.
use Rattle.hv_json.specs.declared.reading.JsonError.{JsonError}
use Rattle.hv_json.specs.declared.reading.JsonError.TheVariants as text
use Rattle.hs_shake.specs.declared.shake.ShakeError.{ShakeError}
use Rattle.hs_shake.specs.declared.shake.ShakeError.TheVariants.{NotJson, NoMemory}

-- the refusal of bytes that are no value's text
abbrev pub of_text : JsonError → ShakeError
of_text text.NotJson = NotJson
of_text text.Fraction = NotJson
of_text text.TooDeep = NotJson
of_text text.NoMemory = NoMemory

-- the error is out of memory, or this holds
abbrev pub MemoryOr : ShakeError → Type 0 → Type 0
MemoryOr NoMemory P = Unit {0}
MemoryOr e P = P
