-- What the actions of a script make of two ends and the links between them.
use Rattle.std.specs.Prelude.{◌≡◌, ◌⊎◌, ◌+◌, ℕ, false, not, ◌&&◌, List, [], ◌∷◌, ◌++◌, length, take, map, codes, Option, Some, None, is_some, if◌then◌else◌}
use Rattle.hm_message.specs.declared.message.Message.{Message}
use Rattle.hm_codec.specs.Frames.{said_again}
use Rattle.hd_delivery.specs.declared.vocabulary.Reason.TheVariants as reason
use Rattle.hd_delivery.specs.declared.vocabulary.Side.{Side}
use Rattle.hd_delivery.specs.declared.vocabulary.Side.TheVariants.{Client, Server}
use Rattle.hd_delivery.specs.Histories as of
use Rattle.hd_delivery.specs.Histories.{EndEvent, Attached, Detached, Sent, Ticked, Silenced, Closed, present_link, was_on, first_link, codec_of, is_resumable, is_closed, is_silence}
use Rattle.hd_delivery.specs.Sending.{SendRefusal, IsRefusedToSend}
use Rattle.hd_delivery.specs.Worlds.{Limits, MaySend, Terms, config, Event, ByClient, ByServer}
use Rattle.hd_delivery.specs.Bytes.{Wire, sizes_of, ByteStep, Does, bytes_on, lent_bytes}
use Rattle.sr_script.specs.declared.action.Count.{Count}
use Rattle.sr_script.specs.declared.action.Count.TheVariants.{UpTo, Everything}
use Rattle.sr_script.specs.declared.action.Action.{Action}
use Rattle.sr_script.specs.declared.action.Action.TheVariants.{Open, Accept, Lose, Write, Read, Close, Send, Tick, Call, Item, Done, Cancel, Round}
use Rattle.sr_lines.specs.Lines.{refusal_words}
use Rattle.sr_script.specs.Script.{opened, moment_after, most_of}
use Rattle.hd_delivery.specs.Following.{FollowAll, FollowUpTo}
use Rattle.hd_delivery.specs.Sides.{by, history, other, frames_at}
use Rattle.hd_delivery.specs.Alone.{writing, reading}

-- ---- what one end does

-- an end made a step, or refused a call with these words
pub data Doing : Type 0 where
  Makes : (s : ByteStep) → Doing
  Refuses : (words : List ℕ) → Doing

-- a run is a list of what the two ends did, the latest first
abbrev pub Run : Type 0
Run = List (Event Doing)

-- the steps alone
abbrev pub steps_of : List Doing → List ByteStep
steps_of [] = []
steps_of (Makes s ∷ ds) = s ∷ steps_of ds
steps_of (Refuses words ∷ ds) = steps_of ds

-- the steps of both ends, in the order in which they were made: the world of the run
abbrev pub world_of : Run → List (Event ByteStep)
world_of [] = []
world_of (ByClient (Makes s) ∷ r) = ByClient s ∷ world_of r
world_of (ByServer (Makes s) ∷ r) = ByServer s ∷ world_of r
world_of (ByClient (Refuses words) ∷ r) = world_of r
world_of (ByServer (Refuses words) ∷ r) = world_of r

-- an attach. A closed end refuses it, and so does an end that isn't kept and had a link before
abbrev pub attaching : of.Config → List EndEvent → ℕ → ℕ → Doing
attaching c k link now =
    if is_closed c k then Refuses (codes "Closed")
    else (if is_some (first_link k) && not (is_resumable c k) then Refuses (codes "NotGranted") else Makes (Does (Attached link now)))

-- the loss of a link, if there is one
abbrev pub losing : List EndEvent → ℕ → List Doing
losing k now = if is_some (present_link k) then Makes (Does (Detached now)) ∷ [] else []

-- a close, of an end that isn't closed
abbrev pub closing : of.Config → List EndEvent → List Doing
closing c k = if is_closed c k then [] else Makes (Does (Closed reason.Done false)) ∷ []

-- a tick, which may be a silence
abbrev pub ticking : of.Config → List EndEvent → ℕ → Doing
ticking c k now = Makes (Does (if is_silence c now k then Silenced now else Ticked now))

-- a message is sent as the other end reads it, or refused
abbrev pub Sending : Limits → Wire → of.Config → List EndEvent → Message → Doing → Type 0
Sending limits wire c k m d =
    (MaySend limits (sizes_of wire) c k (said_again (codec_of c k) m) × (d ≡ Makes (Does (Sent (said_again (codec_of c k) m)))))
    ⊎ ((why : SendRefusal) × (IsRefusedToSend limits (sizes_of wire) c k (said_again (codec_of c k) m) why × (d ≡ Refuses (refusal_words why))))

-- ---- what an action does

-- the bytes of a link up to where the end reads, of which it read `before` earlier
abbrev pub read_in_all : Count → ℕ → List ℕ → List ℕ
read_in_all Everything before bytes = bytes
read_in_all (UpTo n) before bytes = take (before + n) bytes

-- these steps of a side
abbrev pub made_by : Side → List ByteStep → Run
made_by side ss = map (λ s. by side (Makes s)) ss

-- what the other end said on the end's link, up to where the end reads
abbrev pub to_be_read : Wire → Terms → List (Event ByteStep) → Side → Count → Option ℕ → List ℕ
to_be_read wire t w side count None = []
to_be_read wire t w side count (Some link) =
    read_in_all count (length (bytes_on link (history side w))) (lent_bytes wire (config (other side) t) link (history (other side) w))

-- After these actions and their run the action makes this. No call goes between ends alone.
abbrev pub Acts : Limits → Wire → Terms → List Action → Run → Action → Run → Type 0
Acts limits wire t before r Open new =
    new ≡ by Client (attaching (config Client t) (frames_at wire t (world_of r) Client) (opened before) (moment_after before)) ∷ []
Acts limits wire t before r (Accept link) new =
    new ≡ (if was_on link (frames_at wire t (world_of r) Client) then by Server (attaching (config Server t) (frames_at wire t (world_of r) Server) link (moment_after before)) ∷ [] else [])
Acts limits wire t before r (Lose side) new = new ≡ map (by side) (losing (frames_at wire t (world_of r) side) (moment_after before))
Acts limits wire t before r (Write side count) new =
    (ss : List ByteStep) × (FollowUpTo (most_of count) (writing wire (config side t)) (history side (world_of r)) ss × (new ≡ made_by side ss))
Acts limits wire t before r (Read side count) new =
    (ss : List ByteStep) × (FollowAll (reading limits wire (config side t) (to_be_read wire t (world_of r) side count (present_link (frames_at wire t (world_of r) side))))
    (history side (world_of r)) ss × (new ≡ made_by side ss))
Acts limits wire t before r (Close side) new = new ≡ map (by side) (closing (config side t) (frames_at wire t (world_of r) side))
Acts limits wire t before r (Send side m) new =
    (d : Doing) × (Sending limits wire (config side t) (frames_at wire t (world_of r) side) m d × (new ≡ by side d ∷ []))
Acts limits wire t before r (Tick now) new =
    new ≡ by Server (ticking (config Server t) (frames_at wire t (world_of r) Server) now) ∷ by Client (ticking (config Client t) (frames_at wire t (world_of r) Client) now) ∷ []
Acts limits wire t before r (Call side a) new = ⊥
Acts limits wire t before r (Item side call value) new = ⊥
Acts limits wire t before r (Done side call) new = ⊥
Acts limits wire t before r (Cancel side call) new = ⊥
Acts limits wire t before r (Round side) new = ⊥

-- the run of these actions, the latest of which comes first
abbrev pub Runs : Limits → Wire → Terms → List Action → Run → Type 0
Runs limits wire t [] r = r ≡ []
Runs limits wire t (a ∷ before) r =
    (mid : Run) × (new : Run) × (Runs limits wire t before mid × Acts limits wire t before mid a new × (r ≡ new ++ mid))
