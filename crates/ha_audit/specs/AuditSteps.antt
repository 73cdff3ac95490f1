-- What a line that is judged makes of what is kept of its end, without a world.
use Rattle.std.specs.Prelude.{◌≡◌, ◌⊎◌, ◌≤◌, ◌<◌, ◌+◌, ◌-◌, ◌==◌, ℕ, suc, Bool, true, false, List, [], ◌∷◌, ◌++◌, length, drop, slice_get, Option, Some, None, option_map, if◌then◌else◌}
use Rattle.hd_facts.specs.Prefixes.{IsPrefix}
use Rattle.hm_message.specs.declared.message.Message.{Message}
use Rattle.hm_codec.specs.Frames.{frame_of, IsSaid}
use Rattle.hd_delivery.specs.declared.vocabulary.Got.{Got}
use Rattle.hd_delivery.specs.declared.vocabulary.Side.{Side}
use Rattle.hd_delivery.specs.Numbers.{most_messages}
use Rattle.hd_delivery.specs.Frames.{LinkFrame}
use Rattle.hd_delivery.specs.Histories.{Config}
use Rattle.hd_delivery.specs.Sides.{other}
use Rattle.hd_delivery.specs.Worlds.{Limits, IsAsRead}
use Rattle.hs_shake.specs.declared.shake.Shake.{Shake}
use Rattle.he_wire.specs.Spelling.{spelling}
use Rattle.sr_notation.specs.Words.{got_words}
use Rattle.hd_trace.specs.declared.marks.Marks.{Marks}
use Rattle.hd_trace.specs.declared.trace.Rule.{Rule}
use Rattle.hd_trace.specs.declared.trace.Rule.TheVariants as rule
use Rattle.hd_trace.specs.Marks.{attached, heard_something, lent, sent_one, took}
use Rattle.hd_trace.specs.ByMarks.{due_by}
use Rattle.hd_trace.specs.declared.given.Given.{Given}
use Rattle.hd_trace.specs.Given.{given_got}
use Rattle.hd_trace.specs.ByNumbers.{taken_by}
use Rattle.ha_audit.specs.declared.auditor.Audit.{Audit}
use Rattle.ha_audit.specs.declared.auditor.audited_end.AuditedEnd.{AuditedEnd}
use Rattle.ha_audit.specs.declared.auditor.said.SaidFrame.{SaidFrame}
use Rattle.ha_audit.specs.declared.auditor.said.SaidOnLink.{SaidOnLink}
use Rattle.ha_audit.specs.declared.auditor.sent.SentMessage.{SentMessage}
use Rattle.ha_audit.specs.AuditState.{messages_of, framed_size, Links, said_on, has_link, bytes_of, frames_of, frame_said, whole_frame, size_of_first, sum_of_first}
use Rattle.ha_audit.specs.AuditKeeps.{end_of}

-- ---- both ends

-- all but what is kept of this side's end stays as it is
pub record StepsAt (side : Side) (old new : Audit) (end : AuditedEnd) : Type 0 where
  pub head : new.head ≡ old.head
  pub here : end_of side new ≡ end
  pub there : end_of (other side) new ≡ end_of (other side) old

-- ---- links

-- there is one link more, on which nothing was said
pub record Opens (old new : Links) (l : ℕ) : Type 0 where
  pub said : SaidOnLink
  pub no_bytes : said.bytes.items ≡ []
  pub no_frames : said.frames.items ≡ []
  pub links : (m : ℕ) → said_on new m ≡ (if m == l then Some said else said_on old m)

-- the end stands on the new link
pub record Attaches (old new : AuditedEnd) (l now : ℕ) : Type 0 where
  pub marks : new.marks ≡ attached l now old.marks
  pub sent : new.sent ≡ old.sent
  pub links : Opens old.links new.links l
  pub last : new.last ≡ Some l
  pub fed : new.fed ≡ 0
  pub taken : new.taken ≡ 0

-- ---- bytes that are fed

-- the piece begins what the other end said on the link and this one wasn't fed yet, and leaves at most so many bytes unread
pub record IsNextOf (end there : AuditedEnd) (l most : ℕ) (piece : List ℕ) : Type 0 where
  pub front : IsPrefix piece (drop end.fed (bytes_of (said_on there.links l)))
  pub few : (end.fed - size_of_first (frames_of (said_on there.links l)) end.taken) + length piece ≤ most

-- the end stands on this link, and isn't closed
pub record IsOpenAt (m : Marks) (l : ℕ) : Type 0 where
  pub here : m.link ≡ Some l
  pub unclosed : m.closed ≡ false

-- what comes of a piece that is fed: no rule is broken, or this one
abbrev pub FeedsSo : AuditedEnd → AuditedEnd → AuditedEnd → ℕ → List ℕ → Option Rule → Type 0
FeedsSo old new there most piece None = (l : ℕ) × (IsOpenAt old.marks l × IsNextOf old there l most piece
    × (new ≡ record old { marks = heard_something old.marks; fed = old.fed + length piece }))
FeedsSo old new there most piece (Some rule.Link) = old.marks.link ≡ None
FeedsSo old new there most piece (Some rule.State) = (l : ℕ) × ((old.marks.link ≡ Some l) × (old.marks.closed ≡ true))
FeedsSo old new there most piece (Some rule.Bytes) = (l : ℕ) × (IsOpenAt old.marks l × (IsNextOf old there l most piece → ⊥))
FeedsSo old new there most piece (Some r) = ⊥

-- ---- messages that are sent

-- up to this place the messages that were sent aren't held any more
abbrev pub released_by : Marks → ℕ
released_by m = if m.resumable then m.acked else m.furthest

-- the message can be sent now
pub record HasRoomFor (end : AuditedEnd) (limits : Limits) (m : Message) : Type 0 where
  pub few : end.marks.sent < most_messages
  pub short : length (frame_of end.marks.codec m) ≤ limits.frame
  pub of_count : end.marks.sent < limits.count + released_by end.marks
  pub of_bytes : sum_of_first end.sent.items (length end.sent.items) + framed_size end.marks.codec m
      ≤ limits.bytes + sum_of_first end.sent.items (released_by end.marks)

-- the end has sent one message more
pub record SendsOne (old new : AuditedEnd) (m : Message) : Type 0 where
  pub marks : new.marks ≡ sent_one old.marks
  pub last : SentMessage
  pub message : last.message ≡ m
  pub sum : last.sum ≡ sum_of_first old.sent.items (length old.sent.items) + framed_size old.marks.codec m
  pub sent : new.sent.items ≡ old.sent.items ++ last ∷ []
  pub links : new.links ≡ old.links
  pub last_is : new.last ≡ old.last
  pub fed : new.fed ≡ old.fed
  pub taken : new.taken ≡ old.taken
  pub is_said : IsSaid old.marks.codec m
  pub as_read : IsAsRead old.marks.codec m

-- the handshake is complete, and the end isn't closed
pub record CanSend (m : Marks) : Type 0 where
  pub unclosed : m.closed ≡ false
  pub shaken : m.shaken ≡ true

-- what comes of a message that is sent
abbrev pub SendsSo : AuditedEnd → AuditedEnd → Limits → Message → Option Rule → Type 0
SendsSo old new limits m None = CanSend old.marks × HasRoomFor old limits m × SendsOne old new m
SendsSo old new limits m (Some rule.State) = (old.marks.closed ≡ true) ⊎ (old.marks.shaken ≡ false)
SendsSo old new limits m (Some rule.Room) = CanSend old.marks × (HasRoomFor old limits m → ⊥)
SendsSo old new limits m (Some r) = ⊥

-- ---- frames that are said

-- on this link one frame more was said, in these bytes
pub record Adds (old new : Links) (l : ℕ) (s : SaidFrame) (bytes : List ℕ) : Type 0 where
  pub names : (m : ℕ) → has_link new m ≡ has_link old m
  pub bytes_are : (m : ℕ) → bytes_of (said_on new m) ≡ (if m == l then bytes_of (said_on old m) ++ bytes else bytes_of (said_on old m))
  pub frames_are : (m : ℕ) → frames_of (said_on new m) ≡ (if m == l then frames_of (said_on old m) ++ s ∷ [] else frames_of (said_on old m))
  pub few : length (frames_of (said_on old l)) < most_messages

-- the end said this frame on its link, which it began
pub record Says (c : Config) (old new : AuditedEnd) (l : ℕ) (f : LinkFrame) (bytes : List ℕ) : Type 0 where
  pub frame : SaidFrame
  pub is_frame : frame_said c (messages_of old.sent.items) frame ≡ Some f
  pub ends : frame.end ≡ length (bytes_of (said_on old.links l)) + length bytes
  pub links : has_link old.links l ≡ true → Adds old.links new.links l frame bytes
  pub marks : new.marks ≡ lent f old.marks
  pub sent : new.sent ≡ old.sent
  pub last : new.last ≡ old.last
  pub fed : new.fed ≡ old.fed
  pub taken : new.taken ≡ old.taken

-- what comes of bytes that are said by an end which was begun so
abbrev pub LendsSo : Config → AuditedEnd → AuditedEnd → List ℕ → Option Rule → Type 0
LendsSo c old new bytes None = (l : ℕ) × (f : LinkFrame) × ((old.marks.link ≡ Some l)
    × (due_by c old.marks (messages_of old.sent.items) ≡ Some f) × (spelling old.marks.codec f ≡ bytes) × Says c old new l f bytes)
LendsSo c old new bytes (Some rule.Link) = old.marks.link ≡ None
LendsSo c old new bytes (Some rule.Due) = (l : ℕ) × ((old.marks.link ≡ Some l)
    × (option_map (spelling old.marks.codec) (due_by c old.marks (messages_of old.sent.items)) ≡ Some bytes → ⊥))
LendsSo c old new bytes (Some r) = ⊥

-- ---- frames that are taken

-- the end is begun to ask for these, or to be asked
pub record IsBegunLike (c : Config) (shake : Shake) (reconnect : Bool) : Type 0 where
  pub codec : c.codec ≡ shake.codec
  pub version : c.version ≡ shake.version
  pub keeps : c.reconnect ≡ reconnect

-- each frame that is kept of an end which was begun so is one: if it carries a message, this was sent
abbrev pub HasFrames : Config → AuditedEnd → Type 0
HasFrames c end = (l n : ℕ) (s : SaidFrame) → slice_get (frames_of (said_on end.links l)) n ≡ Some s
    → (f : LinkFrame) × (frame_said c (messages_of end.sent.items) s ≡ Some f)

-- the next frame that the other end said on the link, once all its bytes were fed
abbrev pub next_of : AuditedEnd → AuditedEnd → ℕ → Option SaidFrame
next_of end there l = whole_frame (slice_get (frames_of (said_on there.links l)) end.taken) end.fed

-- of an end that was begun as c, beside one begun as oc: the next frame is this one, which gives this, and is told in these words
pub record IsTakenSo (c oc : Config) (end there : AuditedEnd) (l : ℕ) (words : List ℕ) (f : LinkFrame) (got : Got) : Type 0 where
  pub said : SaidFrame
  pub next : next_of end there l ≡ Some said
  pub is_frame : frame_said oc (messages_of there.sent.items) said ≡ Some f
  pub gives : taken_by c end.marks l (Some f) ≡ Some got
  pub words_are : got_words (suc end.marks.processed) got ≡ words

-- it is one of what frames give that such ends say
abbrev pub IsGot : Config → Config → Got → Type 0
IsGot c oc got = (msg : Message) × ((given : Given) × (got ≡ given_got c oc msg given))

-- what comes of words that tell what was taken
abbrev pub TakesSo : Config → Config → AuditedEnd → AuditedEnd → AuditedEnd → List ℕ → Option Rule → Type 0
TakesSo c oc old new there words None = (l : ℕ) × (f : LinkFrame) × (got : Got) × (IsOpenAt old.marks l × IsTakenSo c oc old there l words f got × IsGot c oc got
    × (new ≡ record old { marks = took c.reconnect f got old.marks; taken = suc old.taken }))
TakesSo c oc old new there words (Some rule.Link) = old.marks.link ≡ None
TakesSo c oc old new there words (Some rule.State) = (l : ℕ) × ((old.marks.link ≡ Some l) × (old.marks.closed ≡ true))
TakesSo c oc old new there words (Some rule.Took) = (l : ℕ) × (IsOpenAt old.marks l × ((f : LinkFrame) (got : Got) → IsTakenSo c oc old there l words f got → ⊥))
TakesSo c oc old new there words (Some r) = ⊥
