-- How much may wait on the lanes of a door, and for how long on those that close.
use Rattle.std.specs.Prelude.{◌≡◌, ◌≤◌, ◌<◌, ◌-◌, ◌&&◌, nat_lt, ℕ, Bool, true, false, List, [], ◌∷◌, length, ⊤}
use Rattle.hw_lanes.specs.declared.http.Reply.{Reply}
use Rattle.hw_door.specs.declared.heard.Heard.{Heard}
use Rattle.hw_door.specs.Traffic.{Answer}
use Rattle.hw_net.specs.declared.limits.TheConstants.{MOST_CLOSING, MOST_UNWRITTEN}
use Rattle.hw_net.specs.declared.protocol.Stage.{Stage}
use Rattle.hw_net.specs.declared.protocol.Stage.TheVariants.{Live, Lost, Closing, Over}
use Rattle.hw_net.specs.Door.{DoorState, DoesAt}
use Rattle.hw_net.specs.Flushing.{FailsGathered, FlushesDoor, HaltsGathered, HearsGathered}
use Rattle.hw_net.specs.Lane.{Lane, waits, wires_of}
use Rattle.hw_net.specs.Rising.{Rise}
use Rattle.hw_net.specs.Turn.{Replies, Sends, Shuts}

-- the wire of a lane wasn't shut
abbrev pub has_wire : Stage → Bool
has_wire Live = true
has_wire Lost = false
has_wire Closing = true
has_wire Over = false

-- something waits to be written on a lane whose wire wasn't shut
abbrev pub is_unwritten : Lane → Bool
is_unwritten lane = has_wire lane.stage && nat_lt 0 (length (waits lane))

-- no more waits on a lane than may, unless its wire was shut
abbrev pub IsWithin : Lane → Type 0
IsWithin lane = has_wire lane.stage ≡ true → length (waits lane) ≤ MOST_UNWRITTEN

-- this holds of each lane
abbrev pub EachIs : (Lane → Type 0) → List Lane → Type 0
EachIs Is [] = ⊤
EachIs Is (lane ∷ lanes) = Is lane × EachIs Is lanes

abbrev pub AreWithin : List Lane → Type 0
AreWithin lanes = EachIs IsWithin lanes

-- after each `next` no more waits than may, if so it was before
abbrev pub NextIsWithin : Type 0
NextIsWithin = (wait gathering gathering_after : ℕ) (before after : DoorState) (answers : List Answer) (heard : Heard)
    → HearsGathered wait gathering before after answers heard gathering_after → AreWithin before.lanes → AreWithin after.lanes

-- one that fails keeps it so
abbrev pub FailsAreWithin : Type 0
FailsAreWithin = (wait gathering : ℕ) (before after : DoorState) (answers : List Answer)
    → FailsGathered wait gathering before after answers → AreWithin before.lanes → AreWithin after.lanes

-- One that is out of memory does too, if no number comes twice. What its cut turn put behind what waits may be too much, and then the last flush drops that.
abbrev pub HaltsAreWithin : Type 0
HaltsAreWithin = (wait gathering : ℕ) (before after : DoorState) (answers : List Answer)
    → HaltsGathered wait gathering before after answers → Rise (wires_of after.lanes) → AreWithin before.lanes → AreWithin after.lanes

-- the other calls keep it so too
abbrev pub FlushesAreWithin : Type 0
FlushesAreWithin = (before after : DoorState) (answers : List Answer) → FlushesDoor before after answers → AreWithin before.lanes → AreWithin after.lanes

abbrev pub RepliesAreWithin : Type 0
RepliesAreWithin = (lane now : ℕ) (reply : Reply) (before after : DoorState) (answers : List Answer) → DoesAt lane (Replies now reply) before after answers
    → AreWithin before.lanes → AreWithin after.lanes

abbrev pub SendsAreWithin : Type 0
SendsAreWithin = (lane now : ℕ) (bytes : List ℕ) (text : Bool) (before after : DoorState) (answers : List Answer) → DoesAt lane (Sends now bytes text) before after answers
    → AreWithin before.lanes → AreWithin after.lanes

abbrev pub ShutsAreWithin : Type 0
ShutsAreWithin = (lane now : ℕ) (before after : DoorState) (answers : List Answer) → DoesAt lane (Shuts now) before after answers
    → AreWithin before.lanes → AreWithin after.lanes

-- a lane that closes hasn't had its time yet at this moment
abbrev pub IsInTime : ℕ → Lane → Type 0
IsInTime now lane = lane.stage ≡ Closing → now - lane.since < MOST_CLOSING

-- so it is of each lane after each `next`, whatever did before it
abbrev pub NextIsInTime : Type 0
NextIsInTime = (wait gathering gathering_after : ℕ) (before after : DoorState) (answers : List Answer) (heard : Heard)
    → HearsGathered wait gathering before after answers heard gathering_after → EachIs (IsInTime heard.now) after.lanes
