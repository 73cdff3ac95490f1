-- The refusals in words.
use Rattle.std.specs.Prelude.{ℕ, List, ◌++◌, codes}
use Rattle.std.specs.Fmt.{decimal}
use Rattle.hq_resend.specs.declared.refusals.PushError.{PushError}
use Rattle.hq_resend.specs.declared.refusals.PushError.TheVariants.{Full, Exhausted}
use Rattle.hq_resend.specs.declared.refusals.Beyond.{Beyond}
use Rattle.hq_resend.specs.declared.refusals.Gap.{Gap}

-- the name, and if there is no room how many frames and bytes are held and the size of the frame
abbrev pub push_words : PushError → List ℕ
push_words (Full held bytes size) = codes "Full " ++ decimal held ++ codes " " ++ decimal bytes ++ codes " " ++ decimal size
push_words Exhausted = codes "Exhausted"

-- the name, what came, and the most that could have come
abbrev pub beyond_words : Beyond → List ℕ
beyond_words beyond = codes "Beyond " ++ decimal beyond.got ++ codes " " ++ decimal beyond.most

abbrev pub gap_words : Gap → List ℕ
gap_words gap = codes "Gap " ++ decimal gap.got ++ codes " " ++ decimal gap.most
