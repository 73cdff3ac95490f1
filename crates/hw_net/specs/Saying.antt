-- What a lane writes.
use Rattle.std.specs.Prelude.{◌≡◌, ◌≢◌, ◌==◌, ◌||◌, ◌-◌, ℕ, Bool, true, false, not, nat_le, nat_lt, List, [], ◌∷◌, ◌++◌, length}
use Rattle.hw_door.specs.Traffic.{Answer, bytes_out, write_failed, was_shut}
use Rattle.hw_net.specs.declared.limits.TheConstants.{MOST_CLOSING, MOST_GATHERED_BYTES, MOST_UNWRITTEN}
use Rattle.hw_net.specs.declared.protocol.Protocol.{Protocol}
use Rattle.hw_net.specs.declared.protocol.Protocol.TheVariants.{Http, Response, Socket}
use Rattle.hw_net.specs.declared.protocol.Stage.{Stage}
use Rattle.hw_net.specs.declared.protocol.Stage.TheVariants.{Live, Lost, Closing, Over}
use Rattle.hw_net.specs.Trace.{Chooses}
use Rattle.hw_net.specs.Lane.{Lane, waits, after_end, full_after_write}

-- writes on the wire took the front of what waits, until nothing waits, or the wire took nothing or failed: what is left then, and
-- whether it didn't fail
abbrev pub Writes : ℕ → List ℕ → List Answer → List ℕ → Bool → Type 0
Writes wire waits [] left is_whole = (waits ≡ []) × (left ≡ []) × (is_whole ≡ true)
Writes wire waits (bytes_out at [] ∷ []) left is_whole = (at ≡ wire) × (waits ≢ []) × (left ≡ waits) × (is_whole ≡ true)
Writes wire waits (bytes_out at (b ∷ bs) ∷ answers) left is_whole =
    (at ≡ wire) × ((rest : List ℕ) × (waits ≡ (b ∷ bs) ++ rest) × Writes wire rest answers left is_whole)
Writes wire waits (write_failed at ∷ []) left is_whole = (at ≡ wire) × (waits ≢ []) × (left ≡ waits) × (is_whole ≡ false)
Writes wire waits _ left is_whole = ⊥

-- the same but for the frames that are to be written
abbrev pub SpeaksAs : Protocol → Protocol → Type 0
SpeaksAs (Http before) (Http after) = after ≡ before
SpeaksAs (Response before) (Response after) = after ≡ before
SpeaksAs (Socket before) (Socket after) =
    after ≡ record before { lane = record before.lane { out = record before.lane.out { bytes = after.lane.out.bytes } } }
SpeaksAs _ _ = ⊥

-- the lane but for what waits to be written, and for its stage
pub record IsLaneStill (before after : Lane) : Type 0 where
  pub wire : after.wire ≡ before.wire
  pub since : after.since ≡ before.since
  pub protocol : SpeaksAs before.protocol after.protocol

-- more waits than may
abbrev pub is_too_much : ℕ → Bool
is_too_much left = nat_lt MOST_UNWRITTEN left

-- the wire is shut after the writes: it failed, too much is left, or a lane that is heard no more has nothing left
abbrev pub must_end : Stage → ℕ → Bool → Bool
must_end Live left is_whole = not is_whole || is_too_much left
must_end Lost left is_whole = false
must_end Closing left is_whole = not is_whole || (left == 0) || is_too_much left
must_end Over left is_whole = false

-- what waits is written, and then the wire is shut if it must be
pub record WritesOut (before after : Lane) (answers : List Answer) : Type 0 where
  pub sent : List Answer
  pub is_whole : Bool
  pub writes : Writes before.wire (waits before) sent (waits after) is_whole
  pub still : IsLaneStill before after
  pub full : after.full ≡ full_after_write (nat_lt (length (waits after)) (length (waits before))) before.full
  pub ends : must_end before.stage (length (waits after)) is_whole ≡ true
      → (answers ≡ sent ++ was_shut before.wire ∷ []) × (after.stage ≡ after_end before.stage)
  pub stays : must_end before.stage (length (waits after)) is_whole ≡ false → (answers ≡ sent) × (after.stage ≡ before.stage)

-- the wire is shut, and what waits is never written
abbrev pub Drops : Lane → Lane → List Answer → Type 0
Drops before after answers = (answers ≡ was_shut before.wire ∷ []) × (after ≡ record before { stage = after_end before.stage })

-- what waits is dropped if the test is true, and else it is written
abbrev pub DropsOrWrites : Bool → Lane → Lane → List Answer → Type 0
DropsOrWrites is_dropped before after answers = Chooses is_dropped (Drops before after answers) (WritesOut before after answers)

-- a lane that closes since this moment has had its time
abbrev pub has_closed_long : ℕ → ℕ → Bool
has_closed_long now since = nat_le MOST_CLOSING (now - since)

-- a lane whose wire is still there writes what waits, unless it closes and has had its time
abbrev pub SaysAt : Stage → ℕ → Lane → Lane → List Answer → Type 0
SaysAt Live now before after answers = WritesOut before after answers
SaysAt Lost now before after answers = (answers ≡ []) × (after ≡ before)
SaysAt Closing now before after answers = DropsOrWrites (has_closed_long now before.since) before after answers
SaysAt Over now before after answers = (answers ≡ []) × (after ≡ before)

abbrev pub Says : ℕ → Lane → Lane → List Answer → Type 0
Says now before after answers = SaysAt before.stage now before after answers

-- a lane in a call that heard another: what waits on a live one still does
abbrev pub SaysIfEndedAt : Stage → ℕ → Lane → Lane → List Answer → Type 0
SaysIfEndedAt Live now before after answers = (answers ≡ []) × (after ≡ before)
SaysIfEndedAt stage now before after answers = SaysAt stage now before after answers

abbrev pub SaysIfEnded : ℕ → Lane → Lane → List Answer → Type 0
SaysIfEnded now before after answers = SaysIfEndedAt before.stage now before after answers

-- after more was added to what waits: if it is too much the wire is shut and the lane is lost, and else what waits is written
abbrev pub SaysMore : Lane → Lane → List Answer → Type 0
SaysMore before after answers = DropsOrWrites (is_too_much (length (waits before))) before after answers

-- a lane in a flush: a live one writes what waits
abbrev pub WritesIfLiveAt : Stage → Lane → Lane → List Answer → Type 0
WritesIfLiveAt Live before after answers = WritesOut before after answers
WritesIfLiveAt stage before after answers = (answers ≡ []) × (after ≡ before)

abbrev pub WritesIfLive : Lane → Lane → List Answer → Type 0
WritesIfLive before after answers = WritesIfLiveAt before.stage before after answers

-- so little waits that it is gathered with what is said later
abbrev pub is_gathered : ℕ → Bool
is_gathered unwritten = nat_lt unwritten MOST_GATHERED_BYTES

-- after a message was added to what waits: nothing is written yet if it is gathered, and else as after anything that is added
abbrev pub GathersOrSays : Lane → Lane → List Answer → Type 0
GathersOrSays before after answers = Chooses (is_gathered (length (waits before))) ((answers ≡ []) × (after ≡ before)) (SaysMore before after answers)
