-- Refusals of what is no value, and of what want of memory stopped.
use Rattle.hv_pack.specs.declared.error.PackError.{PackError}
use Rattle.hv_pack.specs.declared.error.PackError.TheVariants as errors
use Rattle.hm_pack.specs.declared.refusal.PackRefusal.{PackRefusal}
use Rattle.hm_pack.specs.declared.refusal.PackRefusal.TheVariants.{Value, NoMemory}

abbrev pub of_value : PackError → PackRefusal
of_value errors.NoMemory = NoMemory
of_value e = Value e

-- the refusal is of this fact's reason, or want of memory
abbrev pub MemoryOr : PackRefusal → Type 0 → Type 0
MemoryOr NoMemory p = Unit {0}
MemoryOr e p = p
