-- How the verdict on a trace is spelled, as one line.
use Rattle.std.specs.Prelude.{ℕ, Bool, true, false, List, [], ◌++◌, codes}
use Rattle.std.specs.Fmt.{decimal}
use Rattle.hd_delivery.specs.declared.vocabulary.Side.{Side}
use Rattle.hd_trace.specs.declared.trace.Rule.{Rule}
use Rattle.hd_trace.specs.declared.trace.Rule.TheVariants.{Link, State, Bytes, Due, Took, Room}
use Rattle.hd_trace.specs.declared.verdict.Counts.{Counts}
use Rattle.hd_trace.specs.declared.verdict.Verdict.{Verdict}
use Rattle.hd_trace.specs.declared.verdict.Verdict.TheVariants as both
use Rattle.hd_trace.specs.declared.verdict.VerdictAlone.{VerdictAlone}
use Rattle.hd_trace.specs.declared.verdict.VerdictAlone.TheVariants as alone
use Rattle.sr_notation.specs.Words.{letter}

abbrev pub rule_word : Rule → List ℕ
rule_word Link = codes "link"
rule_word State = codes "state"
rule_word Bytes = codes "bytes"
rule_word Due = codes "due"
rule_word Took = codes "took"
rule_word Room = codes "room"

-- the line of this number is the first that can't come next, by this rule
abbrev pub breaks_line : ℕ → Rule → List ℕ
breaks_line number rule = codes "line " ++ (decimal number ++ (codes " breaks " ++ (rule_word rule ++ codes "\n")))

abbrev pub still_words : Bool → List ℕ
still_words true = codes " still"
still_words false = []

abbrev pub world_line : Counts → Counts → Bool → List ℕ
world_line client server still =
    codes "world client sent " ++ (decimal client.sent ++ (codes " processed " ++ (decimal client.processed
    ++ (codes " server sent " ++ (decimal server.sent ++ (codes " processed " ++ (decimal server.processed ++ (still_words still ++ codes "\n"))))))))

abbrev pub history_line : Side → Counts → List ℕ
history_line side counts =
    codes "history " ++ (letter side ++ (codes " sent " ++ (decimal counts.sent
    ++ (codes " processed " ++ (decimal counts.processed ++ codes "\n")))))

-- the verdict on a trace of two ends
abbrev pub verdict_line : Verdict → List ℕ
verdict_line (both.World client server still) = world_line client server still
verdict_line (both.Breaks number rule) = breaks_line number rule

-- the verdict on the trace of this end alone
abbrev pub verdict_alone_line : Side → VerdictAlone → List ℕ
verdict_alone_line side (alone.History counts) = history_line side counts
verdict_alone_line side (alone.Breaks number rule) = breaks_line number rule
