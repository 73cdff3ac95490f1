-- The words of a report for what is no message.
use Rattle.std.specs.Prelude.{ℕ, List, codes}
use Rattle.hf_split.specs.Words.{fault_words}
use Rattle.hm_json.specs.Words as json
use Rattle.hm_pack.specs.Words as pack
use Rattle.hm_codec.specs.declared.why.FrameWhy.{FrameWhy}
use Rattle.hm_codec.specs.declared.why.FrameWhy.TheVariants.{Split, Json, Pack}
use Rattle.hm_codec.specs.declared.why.FrameError.{FrameError}
use Rattle.hm_codec.specs.declared.why.FrameError.TheVariants.{Refused, NoMemory}

-- the words for a reason
abbrev pub why_words : FrameWhy → List ℕ
why_words (Split fault) = fault_words fault
why_words (Json refusal) = json.refusal_words refusal
why_words (Pack refusal) = pack.refusal_words refusal

-- the words for an error
abbrev pub error_words : FrameError → List ℕ
error_words (Refused why) = why_words why
error_words NoMemory = codes "out of memory"
