-- The refusals in words.
use Rattle.std.specs.Prelude.{ℕ, List, ◌++◌, codes}
use Rattle.std.specs.Fmt.{decimal}
use Rattle.hs_shake.specs.Words.{shake_words}
use Rattle.hm_codec.specs.Words.{why_words}
use Rattle.he_end.specs.declared.session.AttachError.{AttachError}
use Rattle.he_end.specs.declared.session.AttachError.TheVariants as attach
use Rattle.he_end.specs.declared.errors.NextError.{NextError}
use Rattle.he_end.specs.declared.errors.NextError.TheVariants as next
use Rattle.he_end.specs.declared.errors.SendError.{SendError}
use Rattle.he_end.specs.declared.errors.SendError.TheVariants as send

-- a fault of the link, with its numbers
abbrev pub next_words : NextError → List ℕ
next_words (next.Frame link at why) = codes "frame " ++ decimal link ++ codes " " ++ decimal at ++ codes " " ++ why_words why
next_words (next.Shake e) = codes "shake " ++ shake_words e
next_words (next.Gap got most) = codes "gap " ++ decimal got ++ codes " " ++ decimal most
next_words (next.AckBeyond got most) = codes "ack " ++ decimal got ++ codes " " ++ decimal most
next_words next.NoMemory = codes "out of memory"

-- why a message isn't sent, with its numbers
abbrev pub send_words : SendError → List ℕ
send_words send.Opening = codes "Opening"
send_words send.Closed = codes "Closed"
send_words (send.TooLong size) = codes "TooLong " ++ decimal size
send_words (send.Full held bytes size) = codes "Full " ++ decimal held ++ codes " " ++ decimal bytes ++ codes " " ++ decimal size
send_words send.Exhausted = codes "Exhausted"
send_words send.NoMemory = codes "out of memory"

-- why no link is taken
abbrev pub attach_words : AttachError → List ℕ
attach_words attach.Closed = codes "Closed"
attach_words attach.NotGranted = codes "NotGranted"
