-- What an end has to say next on its link: the first of a list of things that are due.
-- HubProtocol.md, "Overview", has the handshake, the Sequence that opens a later link, the Acks, the Ping and the Close. This project's
-- own rules: the order of what is due; that nothing is due before the opening of a link; a further Sequence on the same link; version 3,
-- in which each end waits for the other's opening; a Ping after 15,000 ms; what a closed end still says.
use Rattle.std.specs.Prelude.{ℕ, suc, ◌+◌, max, Bool, true, false, not, ◌&&◌, ◌||◌, nat_lt, nat_le, List, [], ◌∷◌, length, Option, Some, None, is_some, option_map, slice_get, if◌then◌else◌}
use Rattle.hm_message.specs.declared.message.Message.{Message}
use Rattle.hd_delivery.specs.declared.vocabulary.Reason.TheVariants.{Protocol}
use Rattle.hd_delivery.specs.declared.vocabulary.Side.{Side}
use Rattle.hd_delivery.specs.declared.vocabulary.Side.TheVariants.{Client, Server}
use Rattle.hd_delivery.specs.declared.vocabulary.State.{State}
use Rattle.hd_delivery.specs.declared.vocabulary.State.TheVariants.{Ready}
use Rattle.hd_delivery.specs.Numbers.{ping_after}
use Rattle.hd_delivery.specs.Frames.{LinkFrame, Request, Response, Refusal, Numbered, Ack, Sequence, Ping, Close, error_of, number, most_told}
use Rattle.hd_delivery.specs.Histories.{Shake, EndEvent, Attached, Failed, Lent, Ticked, Closed, Config, is_this, first_of, present_link, first_link, lent_frames, sent_messages, processed_messages, acked_count, written_place, next_place, is_shaken, is_three, is_resumable, is_closed, state, is_resumed, heard_moment, written_moment, is_silence}

-- the handshake: a client asks at once, unless it is closed; a server answers once it took the request, closed or not
abbrev pub handshake : Side → Config → List EndEvent → Option LinkFrame
handshake Client c h = if is_closed c h then None else Some (Request c.codec c.version)
handshake Server c h = if is_shaken h then Some Response else None

-- the first frame of a link: on a later one, the number of the first message that is held; at version 3 also how many were processed
abbrev pub opening : Config → List EndEvent → ℕ → Option LinkFrame
opening c h l = if is_this l (first_link h) then handshake c.side c h else Some (Sequence (suc (acked_count h)) (if is_three h then Some (length (processed_messages h)) else None))

-- the next message that is held and isn't lent on the present link
abbrev pub next_message : List EndEvent → Option Message
next_message h = slice_get (sent_messages h) (max (acked_count h) (written_place h))

-- up to version 2, a further Sequence, where the other end would count the next message as another number than its place
abbrev pub sequence_due : List EndEvent → List LinkFrame → Option LinkFrame
sequence_due h said = if not (is_three h) && (is_some (next_message h) && not (is_this (next_place h) (number said))) then Some (Sequence (next_place h) None) else None

-- of a kept end that isn't closed: how many messages were processed, where that isn't told on this link yet
abbrev pub ack_due : Config → List EndEvent → List LinkFrame → Option LinkFrame
ack_due c h said = if (is_resumable c h && not (is_closed c h)) && nat_lt (most_told said) (length (processed_messages h)) then Some (Ack (length (processed_messages h))) else None

-- at version 3 a later link has messages only once the other end said how much it has processed
abbrev pub may_write : List EndEvent → ℕ → Bool
may_write h l = not (is_three h) || (is_this l (first_link h) || is_resumed h)

-- the next message, where the link may have it
abbrev pub message_due : List EndEvent → ℕ → Option LinkFrame
message_due h l = if may_write h l then option_map Numbered (next_message h) else None

-- since the last lent step of the present link, or its beginning, a tick came `ping_after` milliseconds or more after it
abbrev pub is_quiet : List EndEvent → Bool
is_quiet [] = false
is_quiet (Attached l now ∷ h) = false
is_quiet (Lent f ∷ h) = false
is_quiet (Ticked now ∷ h) = nat_le (written_moment h + ping_after) now || is_quiet h
is_quiet (_ ∷ h) = is_quiet h

-- a tick at this moment changes nothing but the moment: it is no silence, it is known when the link was heard, and no Ping is due by it that
-- isn't due without it
abbrev pub is_unseen : Config → ℕ → List EndEvent → Bool
is_unseen c now h = (is_some (heard_moment h) && not (is_silence c now h)) && (is_quiet h || nat_lt now (written_moment h + ping_after))

-- the state is Ready
abbrev pub is_ready : State → Bool
is_ready Ready = true
is_ready _ = false

-- a Ping of an end that is Ready and was quiet
abbrev pub ping_due : Config → List EndEvent → Option LinkFrame
ping_due c h = if is_ready (state c h) && is_quiet h then Some Ping else None

-- the Close of an end that its own side closed, or that met a fault of another kind than a refused handshake
abbrev pub farewell : List EndEvent → Option LinkFrame
farewell [] = None
farewell (Closed reason allow ∷ h) = Some (Close (error_of reason) allow)
farewell (Failed (Shake why answer) ∷ h) = farewell h
farewell (Failed fault ∷ h) = Some (Close (error_of Protocol) false)
farewell (_ ∷ h) = farewell h

-- whether a Close was said
abbrev pub has_close : List LinkFrame → Bool
has_close [] = false
has_close (Close error allow ∷ frames) = true
has_close (_ ∷ frames) = has_close frames

-- after the handshake, the Close, once
abbrev pub close_due : List EndEvent → List LinkFrame → Option LinkFrame
close_due h said = if is_shaken h && not (has_close said) then farewell h else None

-- what is due on the link, after what was said there: its opening comes before all else
abbrev pub due_after : Config → List EndEvent → ℕ → List LinkFrame → Option LinkFrame
due_after c h l [] = opening c h l
due_after c h l (f ∷ frames) =
    first_of (sequence_due h (f ∷ frames))
    (first_of (ack_due c h (f ∷ frames))
    (first_of (message_due h l)
    (first_of (ping_due c h)
    (close_due h (f ∷ frames)))))

-- the text that answers a request that was refused
abbrev pub answer : List EndEvent → Option (List ℕ)
answer [] = None
answer (Failed (Shake why text) ∷ h) = text
answer (_ ∷ h) = answer h

-- once, and nothing after it
abbrev pub answer_due : List ℕ → List LinkFrame → Option LinkFrame
answer_due text [] = Some (Refusal text)
answer_due text (f ∷ frames) = None

-- on this link, where a request was refused with this text or none was
abbrev pub due_there : Config → List EndEvent → ℕ → Option (List ℕ) → Option LinkFrame
due_there c h l None = due_after c h l (lent_frames l h)
due_there c h l (Some text) = answer_due text (lent_frames l h)

-- nothing without a link
abbrev pub due_on : Config → List EndEvent → Option ℕ → Option LinkFrame
due_on c h None = None
due_on c h (Some l) = due_there c h l (answer h)

-- what an end lends next, if anything is due
abbrev pub due : Config → List EndEvent → Option LinkFrame
due c h = due_on c h (present_link h)
