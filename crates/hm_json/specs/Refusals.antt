-- Refusals of what isn't a value's text, and of what want of memory stopped.
use Rattle.hv_json.specs.declared.reading.JsonError.{JsonError}
use Rattle.hv_json.specs.declared.reading.JsonError.TheVariants as text
use Rattle.hm_json.specs.declared.refusal.Refusal.{Refusal}
use Rattle.hm_json.specs.declared.refusal.Refusal.TheVariants.{NotJson, Fraction, TooDeep, NoMemory}

abbrev pub of_text : JsonError → Refusal
of_text text.NotJson = NotJson
of_text text.Fraction = Fraction
of_text text.TooDeep = TooDeep
of_text text.NoMemory = NoMemory

-- the refusal is of this fact's reason, or want of memory
abbrev pub MemoryOr : Refusal → Type 0 → Type 0
MemoryOr NoMemory p = Unit {0}
MemoryOr e p = p
