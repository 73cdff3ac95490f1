-- What an end did, step by step, and what is read off that.
-- Whole lists of messages and frames stand here. HubProtocol.md, "Overview", has the Ack; that it takes out what the sender keeps is
-- its meaning there. This project's own rules: the versions in which a connection is kept, what closes an end, and silences.
use Rattle.std.specs.Prelude.{ℕ, suc, ◌+◌, ◌-◌, min, max, Bool, true, false, not, ◌&&◌, ◌||◌, ◌==◌, List, [], ◌∷◌, ◌++◌, take, drop, Option, Some, None, is_some, nat_le, if◌then◌else◌}
use Rattle.hm_message.specs.declared.message.Codec.{Codec}
use Rattle.hm_message.specs.declared.message.Message.{Message}
use Rattle.hm_message.specs.Message.{Fits}
use Rattle.hd_delivery.specs.declared.vocabulary.Side.{Side}
use Rattle.hd_delivery.specs.declared.vocabulary.State.{State}
use Rattle.hd_delivery.specs.declared.vocabulary.State.TheVariants as states
use Rattle.hd_delivery.specs.declared.vocabulary.Reason.{Reason}
use Rattle.hd_delivery.specs.declared.vocabulary.Got.{Got}
use Rattle.hd_delivery.specs.declared.vocabulary.Got.TheVariants as gives
use Rattle.hd_delivery.specs.declared.vocabulary.Got.TheVariants.{Shaken, Acked, Resumed}
use Rattle.hd_delivery.specs.Numbers.{most_of_64_bits, silence_after}
use Rattle.hd_delivery.specs.Frames.{LinkFrame, Numbered}

-- how an end is begun. A server takes codec and version from the request
pub record Config : Type 0 where
  pub side : Side
  pub codec : Codec
  pub version : ℕ
  pub reconnect : Bool

-- why a frame can't be taken
pub data Fault : Type 0 where
  Unread : (link at : ℕ) → (why : List ℕ) → Fault  -- on the end's link of this number from 0, at this place
  Shake : (why : List ℕ) → (answer : Option (List ℕ)) → Fault
  Gap : (got most : ℕ) → Fault
  AckBeyond : (got most : ℕ) → Fault

-- one step of an end
pub data EndEvent : Type 0 where
  Attached : (link now : ℕ) → EndEvent
  Detached : (now : ℕ) → EndEvent
  Fed : (piece : List LinkFrame) → EndEvent
  Took : (got : Got) → EndEvent
  Failed : (fault : Fault) → EndEvent
  Sent : (m : Message) → EndEvent  -- as the other end reads it
  Lent : (f : LinkFrame) → EndEvent
  Ticked : (now : ℕ) → EndEvent
  Silenced : (now : ℕ) → EndEvent  -- a tick that ended the link
  Closed : (reason : Reason) → (allow : Bool) → EndEvent

-- A history is a list of steps, the latest one first.

-- the number stands there
abbrev pub is_this : ℕ → Option ℕ → Bool
is_this n None = false
is_this n (Some k) = n == k

-- the first one that is there
abbrev pub first_of : {A : Type 0} → Option A → Option A → Option A
first_of None o = o
first_of (Some x) o = Some x

-- ---- links

-- the link on which the end stands
abbrev pub present_link : List EndEvent → Option ℕ
present_link [] = None
present_link (Attached l now ∷ h) = Some l
present_link (Detached now ∷ h) = None
present_link (Silenced now ∷ h) = None
present_link (_ ∷ h) = present_link h

-- whether the end stands on the link
abbrev pub stands_on : ℕ → List EndEvent → Bool
stands_on l h = is_this l (present_link h)

-- whether the end ever stood on the link
abbrev pub was_on : ℕ → List EndEvent → Bool
was_on l [] = false
was_on l (Attached k now ∷ h) = (l == k) || was_on l h
was_on l (_ ∷ h) = was_on l h

-- the link on which the end stood first
abbrev pub first_link : List EndEvent → Option ℕ
first_link [] = None
first_link (Attached l now ∷ h) = first_of (first_link h) (Some l)
first_link (_ ∷ h) = first_link h

-- on how many links the end stood
abbrev pub link_count : List EndEvent → ℕ
link_count [] = 0
link_count (Attached l now ∷ h) = suc (link_count h)
link_count (_ ∷ h) = link_count h

-- a number as 64 bits can tell it
abbrev pub as_told : ℕ → ℕ
as_told n = min n most_of_64_bits

-- the end's own number of its present link, from 0
abbrev pub own_number : List EndEvent → ℕ
own_number h = as_told (link_count h - 1)

-- the frames fed on a link
abbrev pub fed_frames : ℕ → List EndEvent → List LinkFrame
fed_frames l [] = []
fed_frames l (Fed piece ∷ h) = if stands_on l h then fed_frames l h ++ piece else fed_frames l h
fed_frames l (_ ∷ h) = fed_frames l h

-- the frames lent on a link
abbrev pub lent_frames : ℕ → List EndEvent → List LinkFrame
lent_frames l [] = []
lent_frames l (Lent f ∷ h) = if stands_on l h then lent_frames l h ++ f ∷ [] else lent_frames l h
lent_frames l (_ ∷ h) = lent_frames l h

-- how many frames of a link were dealt with
abbrev pub taken_count : ℕ → List EndEvent → ℕ
taken_count l [] = 0
taken_count l (Took got ∷ h) = if stands_on l h then suc (taken_count l h) else taken_count l h
taken_count l (Failed fault ∷ h) = if stands_on l h then suc (taken_count l h) else taken_count l h
taken_count l (_ ∷ h) = taken_count l h

-- the frames of a link that were dealt with
abbrev pub read_frames : ℕ → List EndEvent → List LinkFrame
read_frames l h = take (taken_count l h) (fed_frames l h)

-- ---- messages

-- the messages that were sent, the first first
abbrev pub sent_messages : List EndEvent → List Message
sent_messages [] = []
sent_messages (Sent m ∷ h) = sent_messages h ++ m ∷ []
sent_messages (_ ∷ h) = sent_messages h

-- the messages of the other end that were handed out
abbrev pub processed_messages : List EndEvent → List Message
processed_messages [] = []
processed_messages (Took (gives.Message m) ∷ h) = processed_messages h ++ m ∷ []
processed_messages (_ ∷ h) = processed_messages h

-- how many of the messages sent the other end is known to have processed: the most that was told
abbrev pub acked_count : List EndEvent → ℕ
acked_count [] = 0
acked_count (Took (Acked n) ∷ h) = max n (acked_count h)
acked_count (Took (Resumed first n) ∷ h) = max n (acked_count h)
acked_count (_ ∷ h) = acked_count h

-- the greatest place in `sent` of a message that was lent on the present link. A message that is lent is the first past it that is held
abbrev pub written_place : List EndEvent → ℕ
written_place [] = 0
written_place (Attached l now ∷ h) = 0
written_place (Lent (Numbered m) ∷ h) = suc (max (acked_count h) (written_place h))
written_place (_ ∷ h) = written_place h

-- the place of the next message that is to be lent on the present link
abbrev pub next_place : List EndEvent → ℕ
next_place h = suc (max (acked_count h) (written_place h))

-- the greatest place that was ever lent
abbrev pub most_lent : List EndEvent → ℕ
most_lent [] = 0
most_lent (Lent (Numbered m) ∷ h) = max (next_place h) (most_lent h)
most_lent (_ ∷ h) = most_lent h

-- a message that is handed out fits: it can be written
abbrev pub HasFit : Got → Type 0
HasFit (gives.Message m) = Fits m
HasFit got = Unit {0}

-- ---- the handshake and the state

-- whether the handshake is complete
abbrev pub is_shaken : List EndEvent → Bool
is_shaken [] = false
is_shaken (Took (Shaken codec version) ∷ h) = true
is_shaken (_ ∷ h) = is_shaken h

-- the version that the handshake gave, or 0
abbrev pub agreed_version : List EndEvent → ℕ
agreed_version [] = 0
agreed_version (Took (Shaken codec version) ∷ h) = version
agreed_version (_ ∷ h) = agreed_version h

-- version 3, in which each later link begins after what was received
abbrev pub is_three : List EndEvent → Bool
is_three h = agreed_version h == 3

-- the codec in which the end writes and reads
abbrev pub codec_of : Config → List EndEvent → Codec
codec_of c [] = c.codec
codec_of c (Took (Shaken codec version) ∷ h) = codec
codec_of c (_ ∷ h) = codec_of c h

-- the versions in which a connection can be kept across links
abbrev pub can_keep : ℕ → Bool
can_keep version = (version == 2) || (version == 3)

-- the connection is kept across links; else it is plain
abbrev pub is_resumable : Config → List EndEvent → Bool
is_resumable c [] = false
is_resumable c (Took (Shaken codec version) ∷ h) = c.reconnect && can_keep version
is_resumable c (_ ∷ h) = is_resumable c h

-- closed for good: by its own side, by a fault, by the other end's Close, or by the loss of a link that isn't survived
abbrev pub is_closed : Config → List EndEvent → Bool
is_closed c [] = false
is_closed c (Closed reason allow ∷ h) = true
is_closed c (Failed fault ∷ h) = true
is_closed c (Took (gives.Closed error allow) ∷ h) = true
is_closed c (Detached now ∷ h) = if is_resumable c h then is_closed c h else true
is_closed c (Silenced now ∷ h) = if is_resumable c h then is_closed c h else true
is_closed c (_ ∷ h) = is_closed c h

-- by whether it is closed, whether the handshake is complete, and the link
abbrev pub state_of : Bool → Bool → Option ℕ → State
state_of true s l = states.Closed
state_of false false l = states.Opening
state_of false true None = states.Away
state_of false true (Some l) = states.Ready

-- the state of an end
abbrev pub state : Config → List EndEvent → State
state c h = state_of (is_closed c h) (is_shaken h) (present_link h)

-- whether the other end has said on the present link how much it has processed (version 3)
abbrev pub is_resumed : List EndEvent → Bool
is_resumed [] = false
is_resumed (Attached l now ∷ h) = false
is_resumed (Took (Resumed first n) ∷ h) = true
is_resumed (_ ∷ h) = is_resumed h

-- the messages that the end has to keep: those that the other end may not have; on a plain connection, those that aren't lent yet
abbrev pub held_messages : Config → List EndEvent → List Message
held_messages c h = if is_resumable c h then drop (acked_count h) (sent_messages h) else drop (most_lent h) (sent_messages h)

-- ---- moments, in milliseconds

-- the greatest moment so far
abbrev pub moment : List EndEvent → ℕ
moment [] = 0
moment (Attached l now ∷ h) = max now (moment h)
moment (Detached now ∷ h) = max now (moment h)
moment (Ticked now ∷ h) = max now (moment h)
moment (Silenced now ∷ h) = max now (moment h)
moment (_ ∷ h) = moment h

-- when the present link was last heard, as ticks tell it: the moment of the first tick after what was fed last, and none before that
-- tick; where nothing was fed, the moment of the link's beginning
abbrev pub heard_moment : List EndEvent → Option ℕ
heard_moment [] = None
heard_moment (Attached l now ∷ h) = Some (max now (moment h))
heard_moment (Fed piece ∷ h) = None
heard_moment (Ticked now ∷ h) = first_of (heard_moment h) (Some (max now (moment h)))
heard_moment (_ ∷ h) = heard_moment h

-- the moment of what was lent last on the present link, or of the link's beginning
abbrev pub written_moment : List EndEvent → ℕ
written_moment [] = 0
written_moment (Attached l now ∷ h) = max now (moment h)
written_moment (Lent f ∷ h) = moment h
written_moment (_ ∷ h) = written_moment h

-- the moment, where there is one, is `silence_after` milliseconds or more ago
abbrev pub is_late : ℕ → Option ℕ → Bool
is_late now None = false
is_late now (Some moment) = nat_le (moment + silence_after) now

-- a tick at this moment is a silence: an end that isn't closed heard nothing on its link for `silence_after` milliseconds, as its ticks tell
abbrev pub is_silence : Config → ℕ → List EndEvent → Bool
is_silence c now h = (is_some (present_link h) && not (is_closed c h)) && is_late now (heard_moment h)
