-- Why no connection is made, in words.
use Rattle.std.specs.Prelude.{ℕ, List, codes}
use Rattle.hn_server_front.specs.declared.errors.FrontError.{FrontError}
use Rattle.hn_server_front.specs.declared.errors.FrontError.TheVariants.{Busy, NoMemory}

abbrev pub front_words : FrontError → List ℕ
front_words Busy = codes "Busy"
front_words NoMemory = codes "out of memory"
