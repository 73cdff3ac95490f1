-- The rules by what an auditor keeps of both ends: marks, the lines that tell what each end said on a link, and sums.
-- What an end was fed needn't be read: each line of the other end's that tells what it said is one frame.
use Rattle.std.specs.Prelude.{◌≡◌, ◌↔◌, ◌≤◌, ◌<◌, ◌+◌, ℕ, suc, true, false, nat_le, List, [], ◌∷◌, length, take, drop, sum_by, slice_get, Option, Some, None, if◌then◌else◌}
use Rattle.hd_facts.specs.Prefixes.{IsPrefix}
use Rattle.hd_delivery.specs.declared.vocabulary.Got.{Got}
use Rattle.hd_delivery.specs.declared.vocabulary.Side.{Side}
use Rattle.hd_delivery.specs.declared.vocabulary.Side.TheVariants.{Client, Server}
use Rattle.hd_delivery.specs.declared.vocabulary.State.TheVariants.{Ready}
use Rattle.hd_delivery.specs.Numbers.{most_framing}
use Rattle.hd_delivery.specs.Frames.{LinkFrame}
use Rattle.hd_delivery.specs.Histories.{Config, EndEvent, Attached, Took, present_link, was_on, fed_frames, lent_frames, taken_count, sent_messages, codec_of, is_resumable, is_closed, acked_count, most_lent, state}
use Rattle.hd_delivery.specs.Due.{due}
use Rattle.hd_delivery.specs.Processes.{processes}
use Rattle.hd_delivery.specs.Worlds.{Limits, Sizes, HasRoom, config, Event, alike, client_of, server_of}
use Rattle.hd_delivery.specs.Bytes.{ByteStep, Bytes, Does, bytes_on, lent_bytes, unread_count, IsSoundWire, IsWorldOverBytes, StillOverBytes}
use Rattle.hd_delivery.specs.Sides.{other, history}
use Rattle.hd_trace.specs.declared.marks.Marks.{Marks}
use Rattle.hd_trace.specs.Traces.{Setup, frames_beside, IsFaithfulTo, MayBeside}
use Rattle.hd_trace.specs.Marks.{marks_of}
use Rattle.hd_trace.specs.Alone.{frames_alone, MayAlone}
use Rattle.hd_trace.specs.Laws.{AreNamedAlone}
use Rattle.hd_trace.specs.ByMarks.{MayBeginBy, next_number_by, given_by}

-- a world over bytes whose readers are faithful to what is sent in it
pub record IsFaithfulWorld (x : Setup) (w : List (Event ByteStep)) : Type 0 where
  pub faithful : IsFaithfulTo x w
  pub is_world : IsWorldOverBytes (alike x.limits) x.wire x.terms w

-- this side stands on the link, and isn't closed
pub record IsOpenOn (x : Setup) (side : Side) (w : List (Event ByteStep)) (l : ℕ) : Type 0 where
  pub here : present_link (frames_beside x side w) ≡ Some l
  pub unclosed : is_closed (config side x.terms) (frames_beside x side w) ≡ false

-- ---- links

-- the link that an end began last
abbrev pub last_link : List EndEvent → Option ℕ
last_link [] = None
last_link (Attached l now ∷ k) = Some l
last_link (_ ∷ k) = last_link k

-- the name is above that of this link, where there is one
abbrev pub IsAbove : Option ℕ → ℕ → Type 0
IsAbove None l = Unit {0}
IsAbove (Some last) l = last < l

-- the link is new to this side: to the client by its name, and to the server as one of the client's on which it never stood
abbrev pub IsNewBeside : Setup → Side → List (Event ByteStep) → ℕ → Type 0
IsNewBeside x Client w l = IsAbove (last_link (frames_beside x Client w)) l
IsNewBeside x Server w l = (was_on l (frames_beside x Client w) ≡ true) × (was_on l (frames_beside x Server w) ≡ false)

-- exactly such a link may be begun, where the marks let the end begin one
abbrev pub AttachesByNumbers : Type 0
AttachesByNumbers = (x : Setup) (side : Side) (w : List (Event ByteStep)) (l now : ℕ) → IsWorldOverBytes (alike x.limits) x.wire x.terms w
    → MayBeside x side w (Does (Attached l now))
    ↔ (MayBeginBy now (marks_of (config side x.terms) (frames_beside x side w)) × IsNewBeside x side w l)

-- the link is new to an end alone
abbrev pub IsNewAlone : Setup → Side → List ByteStep → ℕ → Type 0
IsNewAlone x Client h l = IsAbove (last_link (frames_alone x Client h)) l
IsNewAlone x Server h l = was_on l (frames_alone x Server h) ≡ false

-- exactly such a link may be begun there
abbrev pub AttachesAloneByNumbers : Type 0
AttachesAloneByNumbers = (x : Setup) (side : Side) (h : List ByteStep) (l now : ℕ) → AreNamedAlone x side h
    → MayAlone x side h (Does (Attached l now))
    ↔ (MayBeginBy now (marks_of (config side x.terms) (frames_alone x side h)) × IsNewAlone x side h l)

-- ---- bytes

-- what the other end said on a link, in bytes
abbrev pub said_there : Setup → Side → List (Event ByteStep) → ℕ → List ℕ
said_there x side w l = lent_bytes x.wire (config (other side) x.terms) l (history (other side) w)

-- the piece begins what the other end said there and this one wasn't fed yet, and leaves no more than a frame and its framing unread
pub record IsNextThere (x : Setup) (side : Side) (w : List (Event ByteStep)) (l : ℕ) (piece : List ℕ) : Type 0 where
  pub front : IsPrefix piece (drop (length (bytes_on l (history side w))) (said_there x side w l))
  pub few : unread_count x.wire (config side x.terms) l (history side w) + length piece ≤ x.limits.frame + most_framing

-- exactly then it may be fed
abbrev pub FeedsByNumbers : Type 0
FeedsByNumbers = (x : Setup) (side : Side) (w : List (Event ByteStep)) (l : ℕ) (piece : List ℕ) → IsSoundWire x.limits x.wire
    → IsWorldOverBytes (alike x.limits) x.wire x.terms w → IsOpenOn x side w l
    → MayBeside x side w (Bytes piece) ↔ IsNextThere x side w l piece

-- how many bytes the frames have that this side took on the link, as the other end said them
abbrev pub read_there : Setup → Side → List (Event ByteStep) → ℕ → ℕ
read_there x side w l =
    sum_by (λ f. length (x.wire.spell x.terms.codec f)) (take (taken_count l (frames_beside x side w)) (lent_frames l (frames_beside x (other side) w)))

-- the others of those that it was fed are unread
abbrev pub UnreadByNumbers : Type 0
UnreadByNumbers = (x : Setup) (side : Side) (w : List (Event ByteStep)) (l : ℕ) → IsSoundWire x.limits x.wire → IsFaithfulWorld x w
    → present_link (frames_beside x side w) ≡ Some l
    → unread_count x.wire (config side x.terms) l (history side w) + read_there x side w l ≡ length (bytes_on l (history side w))

-- ---- what is taken

-- of these frames of a link, the one of this place, where so many bytes were fed and all of its own are among them
abbrev pub frame_there : (LinkFrame → List ℕ) → List LinkFrame → ℕ → ℕ → Option LinkFrame
frame_there spell frames place fed = if nat_le (sum_by (λ f. length (spell f)) (take (suc place) frames)) fed then slice_get frames place else None

-- what a frame gives, where there is one
abbrev pub taken_by : Config → Marks → ℕ → Option LinkFrame → Option Got
taken_by c m l None = None
taken_by c m l (Some f) = given_by c m (next_number_by m l) f

-- the next frame that the other end said there, once all bytes of it were fed
abbrev pub next_there : Setup → Side → List (Event ByteStep) → ℕ → Option LinkFrame
next_there x side w l =
    frame_there (x.wire.spell x.terms.codec) (lent_frames l (frames_beside x (other side) w)) (taken_count l (frames_beside x side w)) (length (bytes_on l (history side w)))

-- it is the next one that this side was fed
abbrev pub NextIsFed : Type 0
NextIsFed = (x : Setup) (side : Side) (w : List (Event ByteStep)) (l : ℕ) → IsFaithfulWorld x w → present_link (frames_beside x side w) ≡ Some l
    → slice_get (fed_frames l (frames_beside x side w)) (taken_count l (frames_beside x side w)) ≡ next_there x side w l

-- no more frames were taken there than the other end said
abbrev pub TakenAreLent : Type 0
TakenAreLent = (x : Setup) (side : Side) (w : List (Event ByteStep)) (l : ℕ) → IsFaithfulWorld x w → present_link (frames_beside x side w) ≡ Some l
    → taken_count l (frames_beside x side w) ≤ length (lent_frames l (frames_beside x (other side) w))

-- exactly what it gives is taken
abbrev pub TakesByLines : Type 0
TakesByLines = (x : Setup) (side : Side) (w : List (Event ByteStep)) (l : ℕ) (got : Got) → IsFaithfulWorld x w → IsOpenOn x side w l
    → (processes (config side x.terms) (frames_beside x side w) ≡ Some (Took got))
    ↔ (taken_by (config side x.terms) (marks_of (config side x.terms) (frames_beside x side w)) l (next_there x side w l) ≡ Some got)

-- ---- room

-- up to this place the messages that were sent aren't held any more
abbrev pub released : Config → List EndEvent → ℕ
released c k = if is_resumable c k then acked_count k else most_lent k

-- there is room exactly if the sums up to the last message and up to those that aren't held are near enough
abbrev pub RoomByNumbers : Type 0
RoomByNumbers = (limits : Limits) (sizes : Sizes) (c : Config) (k : List EndEvent) (size : ℕ) → released c k ≤ length (sent_messages k)
    → HasRoom limits sizes c k size
    ↔ ((length (sent_messages k) < limits.count + released c k)
    × (sum_by (sizes.framed (codec_of c k)) (sent_messages k) + size ≤ limits.bytes + sum_by (sizes.framed (codec_of c k)) (take (released c k) (sent_messages k))))

-- ---- stillness

-- on this link a side is Ready, was fed as many bytes as the other end said there, took as many frames, and owes nothing
pub record IsStillAt (x : Setup) (side : Side) (w : List (Event ByteStep)) (l : ℕ) : Type 0 where
  pub here : present_link (frames_beside x side w) ≡ Some l
  pub ready : state (config side x.terms) (frames_beside x side w) ≡ Ready
  pub fed : length (bytes_on l (history side w)) ≡ length (said_there x side w l)
  pub took : taken_count l (frames_beside x side w) ≡ length (lent_frames l (frames_beside x (other side) w))
  pub owes_nothing : due (config side x.terms) (frames_beside x side w) ≡ None

-- two ends are still exactly if both are so on one link
abbrev pub StillByNumbers : Type 0
StillByNumbers = (x : Setup) (w : List (Event ByteStep)) → IsFaithfulWorld x w
    → StillOverBytes x.wire (config Client x.terms) (config Server x.terms) (client_of w) (server_of w)
    ↔ ((l : ℕ) × IsStillAt x Client w l × IsStillAt x Server w l)
