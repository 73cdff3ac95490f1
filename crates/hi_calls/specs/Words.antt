-- Why a call isn't begun, in words.
use Rattle.std.specs.Prelude.{ℕ, List, codes}
use Rattle.hi_calls.specs.declared.errors.CallError.{CallError}
use Rattle.hi_calls.specs.declared.errors.CallError.TheVariants.{TooMany, Spent, UnknownId, NoMemory}

abbrev pub call_words : CallError → List ℕ
call_words TooMany = codes "TooMany"
call_words Spent = codes "Spent"
call_words UnknownId = codes "UnknownId"
call_words NoMemory = codes "out of memory"
