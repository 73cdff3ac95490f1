-- A refusal in words.
use Rattle.std.specs.Prelude.{ℕ, List, ◌++◌, codes}
use Rattle.std.specs.Fmt.{decimal}
use Rattle.hv_pack.specs.declared.error.PackError.{PackError}
use Rattle.hv_pack.specs.declared.error.PackError.TheVariants.{Short, Never, Fraction, Ext, Key, NotUtf8, TooDeep, NoMemory}

-- the name of the reason, and the place
abbrev pub error_words : PackError → List ℕ
error_words (Short at) = codes "Short " ++ decimal at
error_words (Never at) = codes "Never " ++ decimal at
error_words (Fraction at) = codes "Fraction " ++ decimal at
error_words (Ext at) = codes "Ext " ++ decimal at
error_words (Key at) = codes "Key " ++ decimal at
error_words (NotUtf8 at) = codes "NotUtf8 " ++ decimal at
error_words (TooDeep at) = codes "TooDeep " ++ decimal at
error_words NoMemory = codes "NoMemory"
