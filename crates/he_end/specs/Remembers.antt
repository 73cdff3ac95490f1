-- What a session remembers of its history.
use Rattle.std.specs.Prelude.{◌≡◌, ℕ, pos, suc, ◌-◌, ◌≤◌, max, Bool, true, false, not, ◌||◌, List, map, length, Option, Some, None, is_some, option_map, if◌then◌else◌}
use Rattle.hm_codec.specs.Frames.{framed}
use Rattle.hm_message.specs.declared.message.Field.TheVariants.{Protocol}
use Rattle.hs_shake.specs.declared.shake.ShakeError.TheVariants as refusals
use Rattle.hs_shake.specs.Responses.{refusal_text}
use Rattle.hd_delivery.specs.declared.vocabulary.Reason.TheVariants as reasons
use Rattle.hd_delivery.specs.Frames.{LinkFrame, Close, error_of, number, most_told}
use Rattle.hd_delivery.specs.Histories.{Config, EndEvent, is_this, present_link, first_link, link_count, as_told, fed_frames, lent_frames, taken_count, read_frames, sent_messages, processed_messages, acked_count, written_place, most_lent, is_shaken, is_three, codec_of, is_resumable, is_closed, is_resumed, held_messages, moment, heard_moment, written_moment}
use Rattle.hd_delivery.specs.Due.{is_quiet, farewell, answer, has_close}
use Rattle.hd_delivery.specs.Processes.{has_frames}
use Rattle.hq_resend.specs.Buffers.{Buffer, after_ack}
use Rattle.he_end.specs.declared.session.Session.{Session}
use Rattle.he_end.specs.declared.link.Agreed.{Agreed}
use Rattle.he_end.specs.declared.link.Answer.{Answer}
use Rattle.he_end.specs.declared.link.Answer.TheVariants as answers
use Rattle.he_end.specs.declared.link.Link.{Link}
use Rattle.he_end.specs.declared.link.Farewell.{Farewell}

-- the Close that a farewell is
abbrev pub close_of : Farewell → LinkFrame
close_of f = Close (error_of f.reason) f.allow

-- whether the handshake is complete, the connection kept, and its version 3
abbrev pub Agrees : Option Agreed → Config → List EndEvent → Type 0
Agrees None c k = (is_shaken k ≡ false) × (is_resumable c k ≡ false) × (is_three k ≡ false)
Agrees (Some a) c k = (is_shaken k ≡ true) × (a.kept ≡ is_resumable c k) × (a.three ≡ is_three k)

-- what a refused request is answered
abbrev pub answer_text : Answer → List ℕ
answer_text answers.NotJson = refusal_text refusals.NotJson
answer_text answers.LacksField = refusal_text (refusals.Missing Protocol)
answer_text answers.Unspoken = refusal_text refusals.Unspoken
answer_text answers.UnknownVersion = refusal_text (refusals.Version (pos 0))

-- ---- the present link

-- the number of the next message on the link, as the receiving counter has it: at version 3 and on a plain connection, once it has one, the
-- number after those processed
abbrev pub next_counted : Config → List EndEvent → ℕ → Option ℕ
next_counted c k l =
    if is_three k || not (is_resumable c k)
    then (if is_some (number (read_frames l k)) then Some (suc (length (processed_messages k))) else None)
    else number (read_frames l k)

-- what is remembered of the link l
pub record OfLink (s : Session) (c : Config) (k : List EndEvent) (x : Link) (l : ℕ) : Type 0 where
  pub first : x.first ≡ is_this l (first_link k)
  pub opened : x.opened ≡ has_frames (lent_frames l k)
  pub said : is_three k ≡ false → x.said ≡ number (lent_frames l k)
  pub told : x.told ≡ most_told (lent_frames l k)
  pub resumed : x.resumed ≡ is_resumed k
  pub parted : x.parted ≡ has_close (lent_frames l k)
  pub quiet : x.quiet ≡ is_quiet k
  pub wrote : x.wrote ≡ written_moment k
  pub heard : x.heard ≡ heard_moment k
  pub within : taken_count l k ≤ length (fed_frames l k)
  pub counted : is_shaken k ≡ true → is_closed c k ≡ false → s.intake.next ≡ next_counted c k l
  pub greets : is_shaken k ≡ false → is_closed c k ≡ false → taken_count l k ≡ 0
  pub alone : is_resumable c k ≡ false → is_closed c k ≡ false → x.first ≡ true
  pub numbered : is_shaken k ≡ true → is_resumable c k ≡ false → is_closed c k ≡ false → is_some (number (read_frames l k)) ≡ true

-- the same link on both sides, of which this holds, or none
abbrev pub OnLink : Option Link → Option ℕ → (Link → ℕ → Type 0) → Type 0
OnLink None None Holds = Unit {0}
OnLink (Some x) (Some l) Holds = Holds x l
OnLink x l Holds = ⊥

-- ---- all of it

-- the session's number of its latest link, from 0
abbrev pub latest_number : List EndEvent → Option ℕ
latest_number k = if is_some (first_link k) then Some (as_told (link_count k - 1)) else None

-- what the ring holds of the messages that were sent
pub record HoldsOf (b : Buffer) (c : Config) (k : List EndEvent) : Type 0 where
  pub keeps : b.keeps ≡ is_resumable c k
  pub sent : b.sent ≡ length (sent_messages k)
  pub acked : b.acked ≡ acked_count k
  pub written : b.written ≡ max (acked_count k) (written_place k)
  pub furthest : b.furthest ≡ most_lent k
  pub held : b.held ≡ map (framed (codec_of c k)) (held_messages c k)

-- the session is what this history makes of one that was begun so
pub record Remembers (c : Config) (s : Session) (k : List EndEvent) : Type 0 where
  pub side : s.side ≡ c.side
  pub codec : s.codec ≡ codec_of c k
  pub version : s.version ≡ c.version
  pub reconnect : s.reconnect ≡ c.reconnect
  pub agreed : Agrees s.agreed c k
  pub closed : s.closed ≡ is_closed c k
  pub farewell : option_map close_of s.farewell ≡ farewell k
  pub answer : option_map answer_text s.answer ≡ answer k
  pub live : is_closed c k ≡ false → (s.farewell ≡ None) × (s.answer ≡ None)
  pub number : s.number ≡ latest_number k
  pub link : OnLink s.link (present_link k) (OfLink s c k)
  pub ring : HoldsOf s.ring c k
  pub processed : s.intake.processed ≡ length (processed_messages k)
  pub moment : s.moment ≡ moment k
  pub begun : is_shaken k ≡ true → is_some (first_link k) ≡ true
  pub unshaken : is_shaken k ≡ false → (s.ring.sent ≡ 0) × (s.intake.processed ≡ 0) × (s.intake.next ≡ Some 1) × (link_count k ≤ 1)

-- ---- the link begins, or ends by a fault

-- a link on which nothing was said, that begins at this moment
abbrev pub begun : Bool → ℕ → Link
begun first now = record { first = first; opened = false; said = None; told = 0; resumed = false; parted = false; quiet = false; wrote = now; heard = Some now }

-- the session is closed for a fault of what it read
abbrev pub after_fault : Session → Session
after_fault s = record s { closed = true; farewell = Some (record { reason = reasons.Protocol; allow = false }) }

-- ---- a later link at version 3

abbrev pub as_resumed : Link → Link
as_resumed x = record x { resumed = true }

-- the other end told how much it has received, and goes on with the message after those processed here
abbrev pub after_resume : Session → ℕ → Session
after_resume s received = record s { ring = after_ack s.ring received; intake = record s.intake { next = Some (suc s.intake.processed) }; link = option_map as_resumed s.link }
