-- Why no report or no trace was written whole, in words.
use Rattle.std.specs.Prelude.{ℕ, List, codes}
use Rattle.sr_replay.specs.declared.replaying.ReplayError.{ReplayError}
use Rattle.sr_replay.specs.declared.replaying.ReplayError.TheVariants.{Write, NoMemory}
use Rattle.sr_replay.specs.declared.recording.RecordError.{RecordError}
use Rattle.sr_replay.specs.declared.recording.RecordError.TheVariants as record_error

abbrev pub replay_error_words : ReplayError → List ℕ
replay_error_words Write = codes "the output failed"
replay_error_words NoMemory = codes "out of memory"

-- and why no trace was
abbrev pub record_error_words : RecordError → List ℕ
record_error_words record_error.Peers = codes "the script has peers"
record_error_words record_error.Write = codes "the output failed"
record_error_words record_error.NoMemory = codes "out of memory"
