-- Why a call begins no job, and why an input isn't taken, in words.
use Rattle.std.specs.Prelude.{ℕ, List, ◌++◌, codes}
use Rattle.hj_jobs.specs.declared.errors.AcceptError.{AcceptError}
use Rattle.hj_jobs.specs.declared.errors.AcceptError.TheVariants as accept
use Rattle.hj_jobs.specs.declared.errors.InputError.{InputError}
use Rattle.hj_jobs.specs.declared.errors.InputError.TheVariants as input

-- the name, and the id that is in use
abbrev pub accept_words : AcceptError → List ℕ
accept_words (accept.InUse id) = codes "InUse " ++ id
accept_words accept.TooMany = codes "TooMany"
accept_words accept.NoMemory = codes "out of memory"

abbrev pub input_words : InputError → List ℕ
input_words input.UnknownId = codes "UnknownId"
input_words input.Flood = codes "Flood"
input_words input.NoMemory = codes "out of memory"
