-- What is due, as the session names it, and what a frame that was read makes.
use Rattle.std.specs.Prelude.{◌≡◌, ◌≤◌, ◌⊎◌, ℕ, Bool, true, false, not, ◌&&◌, ◌||◌, List, ◌∷◌, Option, Some, None, Result, Ok, Err, slice_get}
use Rattle.hm_message.specs.declared.message.Message.{Message}
use Rattle.hm_message.specs.declared.message.Read.{Read}
use Rattle.hm_message.specs.declared.message.Read.TheVariants as read
use Rattle.hd_delivery.specs.declared.vocabulary.Got.{Got}
use Rattle.hd_delivery.specs.declared.vocabulary.Got.TheVariants as gives
use Rattle.hd_delivery.specs.declared.vocabulary.Got.TheVariants.{Skipped}
use Rattle.hd_delivery.specs.declared.vocabulary.Why.TheVariants.{Duplicate, BeforeSequence}
use Rattle.hd_delivery.specs.declared.vocabulary.Side.{Side}
use Rattle.hd_delivery.specs.declared.vocabulary.Side.TheVariants.{Client, Server}
use Rattle.hd_delivery.specs.Frames.{LinkFrame, Request, Response, Refusal, Numbered, Ack, Sequence, Ping, Foreign, frame_of}
use Rattle.hd_delivery.specs.Histories.{Config, EndEvent, Took, Failed, Fault, Gap, AckBeyond, is_this, present_link, first_link, lent_frames, fed_frames, taken_count, is_shaken, is_three, is_closed}
use Rattle.hd_delivery.specs.Due.{answer, next_message}
use Rattle.hd_delivery.specs.Processes.{has_frames, processes}
use Rattle.hq_resend.specs.declared.intake.Counted.{Counted}
use Rattle.hq_resend.specs.declared.intake.Counted.TheVariants as counted
use Rattle.he_end.specs.declared.session.Session.{Session}
use Rattle.he_end.specs.declared.next_frame.NextFrame.{NextFrame}
use Rattle.he_end.specs.declared.next_frame.NextFrame.TheVariants as kind
use Rattle.he_end.specs.declared.taking.Refused.{Refused}
use Rattle.he_end.specs.declared.taking.Refused.TheVariants as refused
use Rattle.he_end.specs.Remembers.{Remembers, close_of}

-- the frame is what is due, where this is what the session names
abbrev pub IsDue : Config → List EndEvent → Option LinkFrame → Option NextFrame → Type 0
IsDue c k f None = f ≡ None
IsDue c k f (Some kind.Request) = (c.side ≡ Client) × (f ≡ Some (Request c.codec c.version))
IsDue c k f (Some kind.Response) = f ≡ Some Response
IsDue c k f (Some kind.Refusal) = (text : List ℕ) × ((answer k ≡ Some text) × (f ≡ Some (Refusal text)))
IsDue c k f (Some (kind.Sequence first received)) = f ≡ Some (Sequence first received)
IsDue c k f (Some (kind.Ack upto)) = f ≡ Some (Ack upto)
IsDue c k f (Some kind.Message) = (m : Message) × ((next_message k ≡ Some m) × (f ≡ Some (Numbered m)))
IsDue c k f (Some kind.Ping) = f ≡ Some Ping
IsDue c k f (Some (kind.Close farewell)) = f ≡ Some (close_of farewell)

-- at a server the answer is owed
abbrev pub answer_at : Side → List ℕ → Option (List ℕ)
answer_at Client text = None
answer_at Server text = Some text

-- this comes next on the present link of a session that isn't closed
pub record Awaits (c : Config) (k : List EndEvent) (f : LinkFrame) : Type 0 where
  pub link : ℕ
  pub at : present_link k ≡ Some link
  pub live : is_closed c k ≡ false
  pub next : slice_get (fed_frames link k) (taken_count link k) ≡ Some f

-- the frame that was read
abbrev pub frame_read : Read → LinkFrame
frame_read (read.Message m) = frame_of m
frame_read (read.Unknown n) = Foreign n

-- the fault that the session names
abbrev pub fault_of : Refused → Fault
fault_of (refused.Gap gap) = Gap gap.got gap.most
fault_of (refused.AckBeyond beyond) = AckBeyond beyond.got beyond.most

-- at version 3 a message on this link is early: this end's own opening of a later link wasn't said
abbrev pub is_early : List EndEvent → ℕ → Bool
is_early k l = is_three k && not (is_this l (first_link k) || has_frames (lent_frames l k))

-- the step that a message makes, as it is counted
abbrev pub step_counted : Message → Result Counted Refused → EndEvent
step_counted m (Ok (counted.Fresh n)) = Took (gives.Message m)
step_counted m (Ok (counted.Duplicate n)) = Took (Skipped (Duplicate n))
step_counted m (Ok counted.Early) = Took (Skipped BeforeSequence)
step_counted m (Err e) = Failed (fault_of e)

-- the step that what came makes
abbrev pub step_made : Result Got Refused → EndEvent
step_made (Ok got) = Took got
step_made (Err e) = Failed (fault_of e)

-- what came makes this step, and the session remembers it
abbrev pub Makes : Config → Session → List EndEvent → Result Got Refused → Type 0
Makes c s k result = (processes c k ≡ Some (step_made result)) × Remembers c s (step_made result ∷ k)

-- after the handshake this frame, where it comes next, is taken from one session to the other with this result
abbrev pub Takes : Session → LinkFrame → Session → Result Got Refused → Type 0
Takes s f t result = (c : Config) (k : List EndEvent) → Remembers c s k → is_shaken k ≡ true → Awaits c k f → Makes c t k result

-- the handshake of this side, where this frame comes next, gives this
abbrev pub Shakes : Session → Side → LinkFrame → Session → Got → Type 0
Shakes s side f t got = (c : Config) (k : List EndEvent) → Remembers c s k → is_shaken k ≡ false → c.side ≡ side → Awaits c k f
    → (processes c k ≡ Some (Took got)) × Remembers c t (Took got ∷ k)

-- ---- messages

-- no message can be said: there is no link, or none waits
abbrev pub HasNoMessage : Session → Type 0
HasNoMessage s = (s.link ≡ None) ⊎ (s.ring.sent ≤ s.ring.written)
