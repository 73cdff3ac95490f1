-- The step that the next frame of a link makes.
-- HubProtocol.md, "Overview", has the messages, and that a message which comes again after a Sequence is passed over. This project's own
-- rules: a later link's messages before its first Sequence are passed over; a Sequence past the next number, and a count of messages that
-- were never lent, end the connection; the greatest number; version 3, in which each message that is taken is the next one.
use Rattle.std.specs.Prelude.{ℕ, suc, ◌+◌, Bool, true, false, not, ◌||◌, ◌&&◌, ◌==◌, nat_le, List, [], ◌∷◌, length, Option, Some, None, is_some, option_map, slice_get, if◌then◌else◌}
use Rattle.hm_message.specs.declared.message.Message.{Message}
use Rattle.hd_delivery.specs.declared.vocabulary.Got.TheVariants.{Shaken, Acked, Sequenced, Resumed, Skipped}
use Rattle.hd_delivery.specs.declared.vocabulary.Side.{Side}
use Rattle.hd_delivery.specs.declared.vocabulary.Side.TheVariants.{Client, Server}
use Rattle.hd_delivery.specs.declared.vocabulary.Why.TheVariants.{Duplicate, Unknown, BeforeSequence, NotUsed}
use Rattle.hd_delivery.specs.declared.vocabulary.Got.TheVariants as gives
use Rattle.hd_delivery.specs.Numbers.{most_messages}
use Rattle.hd_delivery.specs.Frames.{LinkFrame, Request, Response, Numbered, Ack, Sequence, Ping, Close, Foreign, Strange, Unreadable, number, received_of}
use Rattle.hd_delivery.specs.Histories.{Unread, Shake, Gap, AckBeyond, EndEvent, Took, Failed, Config, is_this, present_link, first_link, own_number, fed_frames, lent_frames, taken_count, read_frames, processed_messages, most_lent, is_shaken, is_resumable, is_closed, is_three}

-- the first frame of the first link; a server answers what it refuses. No reader of handshakes gives a frame of the last case
abbrev pub reads_handshake : Side → Config → List EndEvent → LinkFrame → EndEvent
reads_handshake Client c h Response = Took (Shaken c.codec c.version)
reads_handshake Server c h (Request codec version) = Took (Shaken codec version)
reads_handshake Client c h (Strange why text) = Failed (Shake why None)
reads_handshake Server c h (Strange why text) = Failed (Shake why (Some text))
reads_handshake side c h (Unreadable at why) = Failed (Unread (own_number h) at why)
reads_handshake side c h _ = Failed (Shake [] None)

-- a sequenced message, by its number, where p are processed
abbrev pub reads_message : ℕ → Option ℕ → Message → EndEvent
reads_message p None m = Took (Skipped BeforeSequence)
reads_message p (Some n) m =
    if n == most_messages + 1 then Failed (Gap (most_messages + 1) most_messages)
    else (if n == suc p then Took (gives.Message m) else Took (Skipped (Duplicate n)))

-- whether anything was said
abbrev pub has_frames : List LinkFrame → Bool
has_frames [] = false
has_frames (f ∷ frames) = true

-- the number of a sequenced message that comes next on the link. At version 3 and on a plain connection it is the one after those
-- processed, on a later link once the other end's opening was read and the end's own was lent
abbrev pub next_number : Config → List EndEvent → ℕ → Option ℕ
next_number c h l =
    if is_three h || not (is_resumable c h)
    then (if is_some (number (read_frames l h)) && (is_this l (first_link h) || has_frames (lent_frames l h)) then Some (suc (length (processed_messages h))) else None)
    else number (read_frames l h)

-- an Ack of messages that were lent
abbrev pub reads_ack : List EndEvent → ℕ → EndEvent
reads_ack h n = if nat_le n (most_lent h) then Took (Acked n) else Failed (AckBeyond n (most_lent h))

-- a Sequence that leaves no gap
abbrev pub resumes : List EndEvent → ℕ → ℕ → EndEvent
resumes h first received =
    if is_three h
    then (if nat_le received (most_lent h) then Took (Resumed first received) else Failed (AckBeyond received (most_lent h)))
    else Took (Sequenced first)

-- a Sequence, of the next number at most
abbrev pub reads_sequence : List EndEvent → ℕ → ℕ → EndEvent
reads_sequence h first received =
    if nat_le first (suc (length (processed_messages h))) then resumes h first received else Failed (Gap first (suc (length (processed_messages h))))

-- a frame after the handshake, where the connection is kept or not and a sequenced message has this number. No reader gives a handshake there
abbrev pub reads_frame : Bool → List EndEvent → Option ℕ → LinkFrame → EndEvent
reads_frame keeps h n (Numbered m) = reads_message (length (processed_messages h)) n m
reads_frame keeps h n (Ack upto) = if keeps then reads_ack h upto else Took (Skipped NotUsed)
reads_frame keeps h n (Sequence first received) = if keeps then reads_sequence h first (received_of received) else Took (Skipped NotUsed)
reads_frame keeps h n Ping = Took gives.Ping
reads_frame keeps h n (Close error allow) = Took (gives.Closed error allow)
reads_frame keeps h n (Foreign k) = Took (Skipped (Unknown k))
reads_frame keeps h n (Unreadable at why) = Failed (Unread (own_number h) at why)
reads_frame keeps h n _ = Failed (Unread (own_number h) 0 [])

-- the step that a frame makes, where a sequenced message has this number
abbrev pub reads : Config → List EndEvent → Option ℕ → LinkFrame → EndEvent
reads c h n f = if is_shaken h then reads_frame (is_resumable c h) h n f else reads_handshake c.side c h f

-- the step that the next frame of this link makes
abbrev pub next_frame : Config → List EndEvent → Option ℕ → Option EndEvent
next_frame c h None = None
next_frame c h (Some l) = option_map (reads c h (next_number c h l)) (slice_get (fed_frames l h) (taken_count l h))

-- the step that the next frame of the present link makes, where there is one and the end isn't closed
abbrev pub processes : Config → List EndEvent → Option EndEvent
processes c h = if is_closed c h then None else next_frame c h (present_link h)
