-- Words and lines: the letters of the sides, and what a frame gave, told in words.
use Rattle.std.specs.Prelude.{◌≢◌, ℕ, List, ◌∷◌, [], ◌++◌, codes, All, Some, None}
use Rattle.std.specs.Fmt.{decimal, signed_decimal}
use Rattle.hv_value.specs.Tree as tree
use Rattle.hv_json.specs.Writing.{json_text}
use Rattle.hm_json.specs.Frame.{frame_of}
use Rattle.hd_delivery.specs.declared.vocabulary.Got.{Got}
use Rattle.hd_delivery.specs.declared.vocabulary.Got.TheVariants as gives
use Rattle.hd_delivery.specs.declared.vocabulary.Why.TheVariants.{Duplicate, Unknown, BeforeSequence, NotUsed}
use Rattle.hd_delivery.specs.declared.vocabulary.Side.{Side}
use Rattle.hd_delivery.specs.declared.vocabulary.Side.TheVariants.{Client, Server}

-- without a space (32)
abbrev pub IsWord : List ℕ → Type 0
IsWord bytes = All (λ b. b ≢ 32) bytes

-- the letter of a side
abbrev pub letter : Side → List ℕ
letter Client = codes "c"
letter Server = codes "s"

-- a line, which LF (10) ends
abbrev pub line : List ℕ → List ℕ
line words = words ++ 10 ∷ []

-- a line about an end
abbrev pub line_at : Side → List ℕ → List ℕ
line_at side words = line (letter side ++ (codes " " ++ words))

-- what a frame gave, in words; a message has this number
abbrev pub got_words : ℕ → Got → List ℕ
got_words number (gives.Shaken codec version) = codes "shaken"
got_words number (gives.Message m) = codes "got " ++ (decimal number ++ (codes " " ++ frame_of m))
got_words number (gives.Acked upto) = codes "acked " ++ decimal upto
got_words number (gives.Sequenced first) = codes "sequence " ++ decimal first
got_words number (gives.Resumed first received) = codes "resumed " ++ (decimal first ++ (codes " " ++ decimal received))
got_words number gives.Ping = codes "ping"
got_words number (gives.Skipped (Duplicate n)) = codes "skipped duplicate " ++ decimal n
got_words number (gives.Skipped (Unknown n)) = codes "skipped unknown " ++ signed_decimal n
got_words number (gives.Skipped BeforeSequence) = codes "skipped before-sequence"
got_words number (gives.Skipped NotUsed) = codes "skipped not-used"
got_words number (gives.Closed None allow) = codes "closed -"
got_words number (gives.Closed (Some error) allow) = codes "closed " ++ json_text (tree.text error)
