-- Why a task was not done, in words.
use Rattle.std.specs.Prelude.{ℕ, List, codes}
use Rattle.sr_check.specs.declared.task.Stop.{Stop}
use Rattle.sr_check.specs.declared.task.Stop.TheVariants.{Refused, ReadFault, WriteFault, NoMemory}

-- the words for a stop
abbrev pub stop_words : Stop → List ℕ
stop_words Refused = codes "the input is refused"
stop_words ReadFault = codes "the input failed"
stop_words WriteFault = codes "the output failed"
stop_words NoMemory = codes "out of memory"
