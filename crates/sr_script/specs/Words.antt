-- Why no script was read, in words.
use Rattle.std.specs.Prelude.{ℕ, List, ◌++◌, codes}
use Rattle.std.specs.Fmt.{decimal}
use Rattle.sr_script.specs.declared.script.ScriptError.{ScriptError}
use Rattle.sr_script.specs.declared.script.ScriptError.TheVariants.{Line, NoMemory}

-- the number of the line that is refused
abbrev pub script_error_words : ScriptError → List ℕ
script_error_words (Line number) = codes "line " ++ decimal number ++ codes " is none of a script"
script_error_words NoMemory = codes "out of memory"
