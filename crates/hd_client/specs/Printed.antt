-- What a client prints: the lines of its peer's moves, and of what that refuses.
use Rattle.std.specs.Prelude.{ℕ, List, [], ◌∷◌, ◌++◌, codes, Option, Some, None, if◌then◌else◌}
use Rattle.std.specs.Fmt.{decimal}
use Rattle.hm_message.specs.Same.{same_text}
use Rattle.hm_message.specs.declared.message.Ending.{Ending}
use Rattle.hm_message.specs.declared.message.Ending.TheVariants as ending
use Rattle.hd_delivery.specs.declared.vocabulary.Got.TheVariants as gives
use Rattle.hd_delivery.specs.Histories.{Attached, Detached, Took, Silenced, first_link}
use Rattle.hd_delivery.specs.Sending as sending
use Rattle.hd_delivery.specs.Sending.{SendRefusal}
use Rattle.hd_delivery.specs.Bytes.{Does as Step_of}
use Rattle.hd_calls.specs.Hubs.{Invoked, Item, End}
use Rattle.hd_calls.specs.Peers.{Begins, Brings, PeerEvent, Plain, Calls, Handles, Loses, Settings, steps}
use Rattle.hd_calls.specs.Rules.{CallRefusal, TooManyLive, Spent, Unknown, TooDeep, Unsent}
use Rattle.hd_client.specs.Events.{ClientEvent, Makes, Declines, settings_of, moves}
use Rattle.hd_client.specs.Setups.{Words, Setup}

abbrev pub line : List ℕ → List ℕ
line words = words ++ 10 ∷ []

abbrev pub counted : List ℕ → ℕ → List ℕ
counted word n = word ++ (codes " " ++ decimal n)

abbrev pub closed_words : Words → Option (List ℕ) → List ℕ
closed_words w None = codes "closed -"
closed_words w (Some error) = codes "closed " ++ w.text error

abbrev pub ending_words : Words → Ending → List ℕ
ending_words w ending.Void = codes "void"
ending_words w (ending.Result v) = codes "result " ++ w.value v
ending_words w (ending.Error why) = codes "error " ++ w.text why

abbrev pub refusal_words : SendRefusal → List ℕ
refusal_words sending.Opening = codes "Opening"
refusal_words sending.Closed = codes "Closed"
refusal_words (sending.TooLong size) = counted (codes "TooLong") size
refusal_words (sending.Full held bytes size) = counted (counted (counted (codes "Full") held) bytes) size
refusal_words sending.Exhausted = codes "Exhausted"

abbrev pub why_words : CallRefusal → List ℕ
why_words TooManyLive = codes "TooMany"
why_words Spent = codes "Spent"
why_words Unknown = codes "UnknownId"
why_words TooDeep = codes "TooDeep"
why_words (Unsent why) = refusal_words why

-- a call of the other side; what is asked to be confirmed has no line
abbrev pub got_line : Words → Invoked → List ℕ
got_line w c = if same_text c.target (codes "Confirm") then [] else line (codes "got " ++ (c.target ++ (codes " " ++ w.list c.arguments)))

-- a later link is up
abbrev pub again_line : Option ℕ → List ℕ
again_line None = []
again_line (Some first) = line (codes "again")

-- the line of a move after others: most have none
abbrev pub move_line : Words → Settings → List PeerEvent → PeerEvent → List ℕ
move_line w t h (Plain (Step_of (Took (gives.Shaken codec version)))) = line (codes "shaken")
move_line w t h (Plain (Step_of (Took (gives.Closed error allow)))) = line (closed_words w error)
move_line w t h (Plain (Step_of (Attached link now))) = again_line (first_link (steps t h))
move_line w t h (Plain (Step_of (Detached now))) = line (codes "lost")
move_line w t h (Plain (Step_of (Silenced now))) = line (codes "lost")
move_line w t h (Calls None n c) = line (counted (codes "call") n)
move_line w t h (Handles m (Begins c now floods)) = got_line w c
move_line w t h (Handles m (Brings n (Item v) floods)) = line (counted (codes "item") n ++ (codes " " ++ w.value v))
move_line w t h (Handles m (Brings n (End e) floods)) = line (counted (codes "ended") n ++ (codes " " ++ ending_words w e))
move_line w t h (Loses n) = line (counted (codes "ended") n ++ codes " gone")
move_line w t h d = []

abbrev pub line_with : Words → Option Settings → List PeerEvent → PeerEvent → List ℕ
line_with w None h d = []
line_with w (Some t) h d = move_line w t h d

-- all that is printed, in order
abbrev pub printed : Setup → List ClientEvent → List ℕ
printed s [] = []
printed s (Makes m ∷ h) = printed s h ++ line_with s.words (settings_of s h) (moves h) m
printed s (Declines why ∷ h) = printed s h ++ line (codes "refused " ++ why_words why)
printed s (_ ∷ h) = printed s h
