-- What a failed parse says of the words.
use Rattle.clap.specs.declared.error.kind.ErrorKind.{ErrorKind}
use Rattle.clap.specs.declared.error.kind.ErrorKind.TheVariants.{OutOfMemory}
use Rattle.sr_words.specs.declared.error.WordsError.{WordsError}
use Rattle.sr_words.specs.declared.error.WordsError.TheVariants.{NoCommand, NoMemory}

abbrev pub of_kind : ErrorKind → WordsError
of_kind OutOfMemory = NoMemory
of_kind _ = NoCommand
