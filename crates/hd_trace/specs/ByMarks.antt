-- What the marks of an end say of its next step: its state, silences, whether it may begin a link, what is due, and what a frame gives.
use Rattle.std.specs.Prelude.{◌≡◌, ◌⊎◌, ◌≤◌, ℕ, suc, ◌+◌, max, Bool, true, false, not, ◌&&◌, ◌||◌, ◌==◌, nat_lt, nat_le, List, Option, Some, None, is_some, option_map, slice_get, if◌then◌else◌}
use Rattle.hm_message.specs.declared.message.Message.{Message}
use Rattle.hd_delivery.specs.declared.vocabulary.Got.{Got}
use Rattle.hd_delivery.specs.declared.vocabulary.Got.TheVariants as gives
use Rattle.hd_delivery.specs.declared.vocabulary.Got.TheVariants.{Shaken, Acked, Sequenced, Resumed, Skipped}
use Rattle.hd_delivery.specs.declared.vocabulary.Side.{Side}
use Rattle.hd_delivery.specs.declared.vocabulary.Side.TheVariants.{Client, Server}
use Rattle.hd_delivery.specs.declared.vocabulary.State.{State}
use Rattle.hd_delivery.specs.declared.vocabulary.Why.TheVariants.{Duplicate, Unknown, BeforeSequence, NotUsed}
use Rattle.hd_delivery.specs.Numbers.{most_messages}
use Rattle.hd_delivery.specs.Frames.{LinkFrame, Request, Response, Numbered, Ack, Sequence, Ping, Close, Foreign, received_of, error_of}
use Rattle.hd_delivery.specs.Histories.{EndEvent, Took, Config, is_this, first_of, is_late, state_of}
use Rattle.hd_delivery.specs.Due.{is_ready}
use Rattle.hd_trace.specs.declared.marks.Marks.{Marks}
use Rattle.hd_trace.specs.declared.marks.Farewell.{Farewell}
use Rattle.hd_trace.specs.Marks.{place_by}

-- whether a tick at this moment is a silence
abbrev pub is_silence_by : ℕ → Marks → Bool
is_silence_by now m = (is_some m.link && not m.closed) && is_late now m.heard

abbrev pub state_by : Marks → State
state_by m = state_of m.closed m.shaken m.link

-- the end may begin a link at this moment: it isn't closed, and it never had one or its connection outlives them
pub record MayBeginBy (now : ℕ) (m : Marks) : Type 0 where
  pub unclosed : m.closed ≡ false
  pub granted : (m.first ≡ None) ⊎ (m.resumable ≡ true)
  pub in_time : m.moment ≤ now

-- ---- what is due

-- of these messages, which are all that were sent, the next one that is held and isn't lent on the link
abbrev pub next_by : Marks → List Message → Option Message
next_by m sent = slice_get sent (max m.acked m.written)

-- the handshake, of a side that is closed or not, and shaken or not
abbrev pub handshake_by : Side → Config → Bool → Bool → Option LinkFrame
handshake_by Client c closed shaken = if closed then None else Some (Request c.codec c.version)
handshake_by Server c closed shaken = if shaken then Some Response else None

-- the first frame of this link
abbrev pub opening_by : Config → Marks → ℕ → Option LinkFrame
opening_by c m l = if is_this l m.first then handshake_by c.side c m.closed m.shaken else Some (Sequence (suc m.acked) (if m.three then Some m.processed else None))

-- a further Sequence
abbrev pub sequence_by : Marks → List Message → Option LinkFrame
sequence_by m sent = if not m.three && (is_some (next_by m sent) && not (is_this (place_by m) m.said)) then Some (Sequence (place_by m) None) else None

abbrev pub ack_by : Marks → Option LinkFrame
ack_by m = if (m.resumable && not m.closed) && nat_lt m.reported m.processed then Some (Ack m.processed) else None

-- the next message, where this link may have it
abbrev pub message_by : Marks → List Message → ℕ → Option LinkFrame
message_by m sent l = if not m.three || (is_this l m.first || m.resumed) then option_map Numbered (next_by m sent) else None

abbrev pub ping_by : Marks → Option LinkFrame
ping_by m = if is_ready (state_by m) && m.quiet then Some Ping else None

-- the Close that a farewell is
abbrev pub close_of : Farewell → LinkFrame
close_of f = Close (error_of f.reason) f.allow

abbrev pub close_by : Marks → Option LinkFrame
close_by m = if m.shaken && not m.parted then option_map close_of m.farewell else None

-- on this link, where it is one
abbrev pub due_there_by : Config → Marks → List Message → Option ℕ → Option LinkFrame
due_there_by c m sent None = None
due_there_by c m sent (Some l) = if m.opened
    then first_of (sequence_by m sent) (first_of (ack_by m) (first_of (message_by m sent l) (first_of (ping_by m) (close_by m))))
    else opening_by c m l

-- what is due, where these messages were sent
abbrev pub due_by : Config → Marks → List Message → Option LinkFrame
due_by c m sent = due_there_by c m sent m.link

-- ---- what the next frame gives

-- the number of a sequenced message that comes next on this link
abbrev pub next_number_by : Marks → ℕ → Option ℕ
next_number_by m l = if m.three || not m.resumable
    then (if is_some m.next && (is_this l m.first || m.opened) then Some (suc m.processed) else None)
    else m.next

-- what a step gave, if it took something
abbrev pub got_of : EndEvent → Option Got
got_of (Took got) = Some got
got_of s = None

-- what a handshake gives
abbrev pub greets_by : Side → Config → LinkFrame → Option Got
greets_by Client c Response = Some (Shaken c.codec c.version)
greets_by Server c (Request codec version) = Some (Shaken codec version)
greets_by side c f = None

-- what a message of this number gives, where so many are processed
abbrev pub message_given : ℕ → Option ℕ → Message → Option Got
message_given processed None msg = Some (Skipped BeforeSequence)
message_given processed (Some n) msg = if n == most_messages + 1 then None else (if n == suc processed then Some (gives.Message msg) else Some (Skipped (Duplicate n)))

abbrev pub ack_given : Marks → ℕ → Option Got
ack_given m n = if nat_le n m.furthest then Some (Acked n) else None

abbrev pub sequence_given : Marks → ℕ → ℕ → Option Got
sequence_given m first received = if nat_le first (suc m.processed) then (if m.three then (if nat_le received m.furthest then Some (Resumed first received) else None) else Some (Sequenced first)) else None

-- what a frame gives after the handshake, where a sequenced message has this number
abbrev pub frame_given : Marks → Option ℕ → LinkFrame → Option Got
frame_given m n (Numbered msg) = message_given m.processed n msg
frame_given m n (Ack upto) = if m.resumable then ack_given m upto else Some (Skipped NotUsed)
frame_given m n (Sequence first received) = if m.resumable then sequence_given m first (received_of received) else Some (Skipped NotUsed)
frame_given m n Ping = Some gives.Ping
frame_given m n (Close error allow) = Some (gives.Closed error allow)
frame_given m n (Foreign k) = Some (Skipped (Unknown k))
frame_given m n f = None

-- what a frame gives, and nothing where it is a fault
abbrev pub given_by : Config → Marks → Option ℕ → LinkFrame → Option Got
given_by c m n f = if m.shaken then frame_given m n f else greets_by c.side c f
