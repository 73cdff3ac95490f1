-- Why there is no request, in words.
use Rattle.std.specs.Prelude.{ℕ, List, ◌++◌, codes}
use Rattle.std.specs.Fmt.{decimal}
use Rattle.hh_http.specs.declared.error.HttpError.{HttpError}
use Rattle.hh_http.specs.declared.error.HttpError.TheVariants.{Refused, NoMemory}

-- the name, and the status that says so to the peer
abbrev pub error_words : HttpError → List ℕ
error_words (Refused refusal) = codes "Refused " ++ decimal refusal.status
error_words NoMemory = codes "out of memory"
