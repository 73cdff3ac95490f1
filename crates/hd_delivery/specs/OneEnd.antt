-- Worked cases of one end: what it makes of a frame that no other end of this kind says, and what it says then. Each list has the oldest
-- step first.
use Rattle.std.specs.Prelude.{◌≡◌, ℕ, pos, Bool, true, false, List, [], ◌∷◌, ◌++◌, map, reverse, codes, Option, Some, None}
use Rattle.hm_message.specs.declared.message.Codec.TheVariants.{Json}
use Rattle.hd_delivery.specs.declared.vocabulary.Got.TheVariants.{Shaken, Sequenced, Resumed, Skipped}
use Rattle.hd_delivery.specs.declared.vocabulary.Reason.TheVariants.{Done, Slow}
use Rattle.hd_delivery.specs.declared.vocabulary.Side.{Side}
use Rattle.hd_delivery.specs.declared.vocabulary.Reason.{Reason}
use Rattle.hd_delivery.specs.declared.vocabulary.Side.TheVariants.{Client}
use Rattle.hd_delivery.specs.declared.vocabulary.State.{State}
use Rattle.hd_delivery.specs.declared.vocabulary.Why.TheVariants.{Unknown, NotUsed}
use Rattle.hd_delivery.specs.declared.vocabulary.Got.TheVariants as gives
use Rattle.hd_delivery.specs.Frames.{LinkFrame, Request, Response, Refusal, Numbered, Ack, Sequence, Ping, Close, Foreign, Strange, Unreadable}
use Rattle.hd_delivery.specs.Histories.{Fault, Shake, Gap, EndEvent, Attached, Detached, Fed, Took, Failed, Sent, Lent, Ticked, Silenced, Closed, state, is_silence}
use Rattle.hd_delivery.specs.Due.{due}
use Rattle.hd_delivery.specs.Processes.{processes}
use Rattle.hd_delivery.specs.Worlds.{config}
use Rattle.hd_delivery.specs.Examples.{a, b, c, terms}

-- the steps of the handshake
abbrev pub opened_client : ℕ → List EndEvent
opened_client version = Attached 0 0 ∷ Lent (Request Json version) ∷ Fed (Response ∷ []) ∷ Took (Shaken Json version) ∷ []

-- the same at a server
abbrev pub opened_server : ℕ → List EndEvent
opened_server version = Attached 0 0 ∷ Fed (Request Json version ∷ []) ∷ Took (Shaken Json version) ∷ Lent Response ∷ []

-- ---- numbers

-- a Sequence that leaves a gap, on the second link
abbrev pub gap : List EndEvent
gap =
    opened_server 2
    ++ Fed (Numbered a ∷ Numbered b ∷ Numbered c ∷ []) ∷ Took (gives.Message a) ∷ Took (gives.Message b) ∷ Took (gives.Message c)
    ∷ Attached 1 0 ∷ Fed (Sequence 5 None ∷ []) ∷ []

-- the end is closed: its opening and its Close come, and no Ack
abbrev pub gap_failed : List EndEvent
gap_failed = gap ++ Failed (Gap 5 4) ∷ []

-- with its opening said
abbrev pub gap_opened : List EndEvent
gap_opened = gap_failed ++ Lent (Sequence 1 None) ∷ []

-- with its Close said
abbrev pub gap_told : List EndEvent
gap_told = gap_opened ++ Lent (Close (Some (codes "Protocol error.")) false) ∷ []

-- a Sequence of 0, and the message after it
abbrev pub from_zero : List EndEvent
from_zero = opened_server 2 ++ Attached 1 0 ∷ Fed (Sequence 0 None ∷ Numbered a ∷ []) ∷ []

-- the Sequence is taken
abbrev pub from_zero_on : List EndEvent
from_zero_on = from_zero ++ Took (Sequenced 0) ∷ []

-- the same eight times
abbrev pub eight : {A : Type 0} → A → List A
eight x = x ∷ x ∷ x ∷ x ∷ x ∷ x ∷ x ∷ x ∷ []

-- an Ack of nine messages, where eight were lent
abbrev pub beyond : List EndEvent
beyond = opened_server 2 ++ map Sent (eight a) ++ map Lent (eight (Numbered a)) ++ Fed (Ack 9 ∷ []) ∷ []

-- at version 3 the same is told as received
abbrev pub received_beyond : List EndEvent
received_beyond = opened_server 3 ++ Attached 1 0 ∷ Fed (Sequence 1 (Some 1) ∷ []) ∷ []

-- a gap comes before that
abbrev pub gap_beyond : List EndEvent
gap_beyond = opened_server 3 ++ Attached 1 0 ∷ Fed (Sequence 9 (Some 9) ∷ []) ∷ []

-- a later link on which a message comes before any Sequence
abbrev pub early : List EndEvent
early = opened_server 2 ++ Attached 1 0 ∷ Fed (Numbered a ∷ []) ∷ []

-- at version 3 a message that comes before this end has lent its own opening
abbrev pub early_three : List EndEvent
early_three = opened_server 3 ++ Attached 1 0 ∷ Fed (Sequence 1 (Some 0) ∷ Numbered a ∷ []) ∷ Took (Resumed 1 0) ∷ []

-- an Ack, a Sequence and a message on a plain connection
abbrev pub plain_ack : List EndEvent
plain_ack = opened_server 1 ++ Fed (Ack 9 ∷ Sequence 5 None ∷ Numbered a ∷ []) ∷ []

-- the Ack is passed over
abbrev pub plain_sequence : List EndEvent
plain_sequence = plain_ack ++ Took (Skipped NotUsed) ∷ []

-- so is the Sequence
abbrev pub plain_message : List EndEvent
plain_message = plain_sequence ++ Took (Skipped NotUsed) ∷ []

-- a message that was fed and isn't taken
abbrev pub not_taken : List EndEvent
not_taken = opened_server 2 ++ Fed (Numbered a ∷ []) ∷ []

-- the message is taken
abbrev pub taken_now : List EndEvent
taken_now = not_taken ++ Took (gives.Message a) ∷ []

-- at version 3, a later link on which the other end's opening isn't read
abbrev pub waits : List EndEvent
waits = opened_server 3 ++ Sent a ∷ Attached 1 0 ∷ Lent (Sequence 1 (Some 0)) ∷ []

-- it is read
abbrev pub waits_no_more : List EndEvent
waits_no_more = waits ++ Fed (Sequence 1 (Some 0) ∷ []) ∷ Took (Resumed 1 0) ∷ []

-- ---- the handshake

-- a handshake and a Ping in one piece
abbrev pub at_once : List EndEvent
at_once = Attached 0 0 ∷ Fed (Request Json 1 ∷ Ping ∷ []) ∷ []

-- the handshake is taken
abbrev pub pinged : List EndEvent
pinged = at_once ++ Took (Shaken Json 1) ∷ []

-- a first frame that is refused
abbrev pub strange : LinkFrame
strange = Strange (codes "Version 9") (codes "The version is not known.")

-- a Ping comes behind it
abbrev pub refused_request : List EndEvent
refused_request = Attached 0 0 ∷ Fed (strange ∷ Ping ∷ []) ∷ []

-- what it is refused as
abbrev pub unknown_version : Fault
unknown_version = Shake (codes "Version 9") (Some (codes "The version is not known."))

-- it is refused
abbrev pub refused_failed : List EndEvent
refused_failed = refused_request ++ Failed unknown_version ∷ []

-- the answer is said
abbrev pub refused_answered : List EndEvent
refused_answered = refused_failed ++ Lent (Refusal (codes "The version is not known.")) ∷ []

-- a client answers nothing
abbrev pub refused_response : List EndEvent
refused_response = Attached 0 0 ∷ Lent (Request Json 2) ∷ Fed (strange ∷ []) ∷ []

-- it is refused
abbrev pub refused_unanswered : List EndEvent
refused_unanswered = refused_response ++ Failed (Shake (codes "Version 9") None) ∷ []

-- a server that is closed before it takes a request
abbrev pub closed_unasked : List EndEvent
closed_unasked = Attached 0 0 ∷ Fed (Request Json 2 ∷ []) ∷ Closed Done false ∷ []

-- a client that is closed before it asks
abbrev pub closed_unsaid : List EndEvent
closed_unsaid = Attached 0 0 ∷ Closed Done false ∷ []

-- a client that is closed after it asked: no Close comes before the handshake is complete
abbrev pub closed_asked : List EndEvent
closed_asked = Attached 0 0 ∷ Lent (Request Json 2) ∷ Closed Done false ∷ []

-- a client that took a response before it asked, and was closed then: nothing comes before the opening
abbrev pub closed_unopened : List EndEvent
closed_unopened = Attached 0 0 ∷ Fed (Response ∷ []) ∷ Took (Shaken Json 2) ∷ Sent a ∷ Closed Done false ∷ []

-- a link that is lost before the handshake is complete
abbrev pub lost_early : List EndEvent
lost_early = Attached 0 0 ∷ Detached 0 ∷ []

-- the same by a silence
abbrev pub silent_early : List EndEvent
silent_early = Attached 0 0 ∷ Silenced 30000 ∷ []

-- on the first link one of another kind, at either side
abbrev pub first_fed : LinkFrame → List EndEvent
first_fed f = Attached 0 0 ∷ Fed (f ∷ []) ∷ []

-- what these are refused as: no words of a report stand for them
abbrev pub no_handshake : Fault
no_handshake = Shake [] None

-- ---- frames that can't be read

-- on the second link, a frame of a type that no message has, and one that can't be read
abbrev pub odd : List EndEvent
odd = opened_server 2 ++ Attached 7 0 ∷ Fed (Foreign (pos 10) ∷ Unreadable 20 (codes "NotJson") ∷ []) ∷ []

-- the first of them is passed over
abbrev pub odd_skipped : List EndEvent
odd_skipped = odd ++ Took (Skipped (Unknown (pos 10))) ∷ []

-- a handshake that comes again
abbrev pub request_again : List EndEvent
request_again = opened_server 2 ++ Fed (Request Json 2 ∷ []) ∷ []

-- ---- the Close

-- closed for a reason: what was sent comes first
abbrev pub slow : List EndEvent
slow = opened_server 2 ++ Sent a ∷ Closed Slow false ∷ []

-- what was sent is said
abbrev pub slow_last : List EndEvent
slow_last = slow ++ Lent (Numbered a) ∷ []

-- the Close is said
abbrev pub slow_told : List EndEvent
slow_told = slow_last ++ Lent (Close (Some (codes "Too slow.")) false) ∷ []

-- closed by the other end's Close: what was sent comes, and no Close
abbrev pub left : List EndEvent
left = opened_client 2 ++ Sent a ∷ Fed (Close None false ∷ []) ∷ Took (gives.Closed None false) ∷ []

-- what was sent is said
abbrev pub left_told : List EndEvent
left_told = left ++ Lent (Numbered a) ∷ []

-- closed for this reason, with nothing else to say
abbrev pub closed_for : Reason → List EndEvent
closed_for reason = opened_server 2 ++ Closed reason false ∷ []

-- at version 3, closed on a later link on which the other end's opening isn't read
abbrev pub closed_waiting : List EndEvent
closed_waiting = opened_server 3 ++ Sent a ∷ Attached 1 0 ∷ Closed Done false ∷ []

-- its opening is said
abbrev pub closed_opened : List EndEvent
closed_opened = closed_waiting ++ Lent (Sequence 1 (Some 0)) ∷ []

-- its Close is said
abbrev pub closed_told : List EndEvent
closed_told = closed_opened ++ Lent (Close None false) ∷ []

-- ---- moments

-- after the handshake nothing was lent
abbrev pub quiet_until : ℕ → List EndEvent
quiet_until now = opened_client 2 ++ Ticked now ∷ []

-- the Ping is said
abbrev pub quiet_pinged : List EndEvent
quiet_pinged = quiet_until 15000 ++ Lent Ping ∷ []

-- the handshake isn't complete
abbrev pub quiet_opening : List EndEvent
quiet_opening = Attached 0 0 ∷ Lent (Request Json 2) ∷ Ticked 15000 ∷ []

-- the end is closed
abbrev pub quiet_closed : List EndEvent
quiet_closed = quiet_until 15000 ++ Closed Done false ∷ []

-- on the next link, before its opening is said
abbrev pub quiet_attached : List EndEvent
quiet_attached = quiet_until 15000 ++ Attached 1 20000 ∷ []

-- an empty piece counts as heard
abbrev pub heard_nothing : List EndEvent
heard_nothing = quiet_until 0 ++ Fed [] ∷ []

-- ---- what is said of them: the end is begun with reconnect, and asks for version 2

-- after these steps the next frame makes this step
abbrev pub NextStep : Side → List EndEvent → Option EndEvent → Type 0
NextStep side steps step = processes (config side (terms 2 true)) (reverse steps) ≡ step

-- after these steps this frame is due
abbrev pub NextDue : Side → List EndEvent → Option LinkFrame → Type 0
NextDue side steps frame = due (config side (terms 2 true)) (reverse steps) ≡ frame

-- after these steps a client's tick at this moment is a silence, or isn't
abbrev pub SilentAt : List EndEvent → ℕ → Bool → Type 0
SilentAt steps now silent = is_silence (config Client (terms 2 true)) now (reverse steps) ≡ silent

-- after these steps a client's state is this
abbrev pub StateIs : List EndEvent → State → Type 0
StateIs steps s = state (config Client (terms 2 true)) (reverse steps) ≡ s
