-- The calls of a door over wires, each as a step from one state to another, and the session that they are.
use Rattle.std.specs.Prelude.{◌≡◌, ◌==◌, ◌&&◌, ℕ, Bool, true, false, if◌then◌else◌, List, [], ◌∷◌, ◌++◌, flat_map, Option}
use Rattle.std.specs.List.{list_any, list_all}
use Rattle.hd_facts.specs.Counts.{Rose}
use Rattle.hw_lanes.specs.declared.http.Reply.{Reply}
use Rattle.hw_door.specs.declared.error.DoorError.TheVariants as error
use Rattle.hw_door.specs.declared.heard.Given.{Given}
use Rattle.hw_door.specs.declared.heard.Given.TheVariants as say
use Rattle.hw_door.specs.declared.heard.Heard.{Heard}
use Rattle.hw_door.specs.DoorCalls as door
use Rattle.hw_door.specs.DoorCalls.{DoorCall}
use Rattle.hw_door.specs.Traffic.{Answer}
use Rattle.hw_net.specs.declared.door.NetDoor.{NetDoor}
use Rattle.hw_net.specs.Door.{KeepsLanes, DoesAt, state_of, is_full_at}
use Rattle.hw_net.specs.Flushing.{FailsGathered, FlushesDoor, HaltsGathered, HearsGathered}
use Rattle.hw_net.specs.Lane.{Lane, is_live, owes}
use Rattle.hw_net.specs.Saying.{GathersOrSays}
use Rattle.hw_net.specs.Sessions as session
use Rattle.hw_net.specs.Sessions.{Call, Session, answers_of, refusal_on, replies_on}
use Rattle.hw_net.specs.Trace.{Tells, Chooses}
use Rattle.hw_net.specs.Turn.{Puts, Replies, Shuts}
use Rattle.hw_net.specs.Lane.{after_message}

-- ---- whether what is given is said

-- a lane of this number is there, it waits for a reply, it is live
abbrev pub is_there : ℕ → List Lane → Bool
is_there wire lanes = list_any (λ (lane : Lane). lane.wire == wire) lanes

abbrev pub is_owed_at : ℕ → List Lane → Bool
is_owed_at wire lanes = list_any (λ (lane : Lane). (lane.wire == wire) && owes lane) lanes

abbrev pub is_live_at : ℕ → List Lane → Bool
is_live_at wire lanes = list_any (λ (lane : Lane). (lane.wire == wire) && is_live lane.stage) lanes

-- a lane is given a message at this moment, as `Sends` has it, which was added to what waits there or not
abbrev pub SendsAs : Bool → ℕ → List ℕ → Bool → Lane → Lane → List Answer → Type 0
SendsAs is_put now bytes text before after answers =
    (mid : Lane) × Puts bytes text before mid is_put
    × Chooses is_put ((said : Lane) × GathersOrSays mid said answers × (after ≡ after_message now said)) ((answers ≡ []) × (after ≡ mid))

-- ---- one call

-- the bound below which all numbers of wires lie, and how many calls of `next` in a row only gathered, are as they were
abbrev pub IsStill : {W : Type 0} → (W → ℕ) → NetDoor W → NetDoor W → Type 0
IsStill bound before after = (bound after.wires ≡ bound before.wires) × (after.gathering ≡ before.gathering)

-- What a call does, as it was answered, and what the wires answered in it. A reply is said if its lane waits for one, a shut if its lane is live, and a
-- message if it was added to what waits. These three never fail, and out of memory they change nothing.
abbrev pub Makes : {W : Type 0} → (W → ℕ) → (W → ℕ) → DoorCall → NetDoor W → NetDoor W → List Answer → Type 0
Makes bound faults (door.heard wait what) before after answers =
    HearsGathered wait before.gathering (state_of before) (state_of after) answers what after.gathering
    × KeepsLanes (bound before.wires) (bound after.wires) before.lanes.items after.lanes.items
Makes bound faults (door.given (say.Reply lane reply) is_said) before after answers =
    (is_said ≡ is_owed_at lane before.lanes.items) × DoesAt lane (Replies before.moment reply) (state_of before) (state_of after) answers
    × IsStill bound before after
Makes bound faults (door.given (say.Shut lane) is_said) before after answers =
    (is_said ≡ is_live_at lane before.lanes.items) × DoesAt lane (Shuts before.moment) (state_of before) (state_of after) answers
    × IsStill bound before after
Makes bound faults (door.sent (say.Bytes lane bytes text) is_said full) before after answers =
    (is_said ≡ true → is_there lane before.lanes.items ≡ true)
    × DoesAt lane (SendsAs is_said before.moment bytes text) (state_of before) (state_of after) answers
    × (full ≡ is_full_at lane after.lanes.items) × IsStill bound before after
Makes bound faults door.flushed before after answers =
    FlushesDoor (state_of before) (state_of after) answers × (bound after.wires ≡ bound before.wires) × (after.gathering ≡ 0)
Makes bound faults (door.failed (door.to_hear wait) error.Failed) before after answers =
    FailsGathered wait before.gathering (state_of before) (state_of after) answers
    × KeepsLanes (bound before.wires) (bound after.wires) before.lanes.items after.lanes.items × (after.gathering ≡ 0)
    × Rose (faults before.wires) (faults after.wires)
Makes bound faults (door.failed (door.to_hear wait) error.NoMemory) before after answers =
    HaltsGathered wait before.gathering (state_of before) (state_of after) answers
    × KeepsLanes (bound before.wires) (bound after.wires) before.lanes.items after.lanes.items × (after.gathering ≡ 0)
Makes bound faults (door.failed (door.to_say what) error.NoMemory) before after answers =
    (state_of after ≡ state_of before) × (answers ≡ []) × IsStill bound before after
Makes bound faults _ before after answers = ⊥

-- the same, with what the wires tell, if they still do
abbrev pub CallsNet : {W : Type 0} → (W → Option (List Answer)) → (W → ℕ) → (W → ℕ) → DoorCall → NetDoor W → NetDoor W → Type 0
CallsNet trace bound faults call before after =
    (answers : List Answer) × Tells (trace before.wires) (trace after.wires) answers × Makes bound faults call before after answers

-- ---- the session of a door's calls

-- what a call told: what was heard, or what was given, with what was answered to a message
pub data Told : Type 0 where
  hears : Heard → Told
  gives : Given → Told
  sends : Given → Bool → Told

abbrev pub told_of : DoorCall → List Told
told_of (door.heard wait what) = hears what ∷ []
told_of (door.given what is_said) = gives what ∷ []
told_of (door.sent what is_said full) = sends what full ∷ []
told_of _ = []

-- by the calls of a door, in order
abbrev pub told_in : List DoorCall → List Told
told_in calls = flat_map told_of calls

abbrev pub told_by : Call → List Told
told_by (session.heard what answers) = hears what ∷ []
told_by (session.replied lane reply answers) = gives (say.Reply lane reply) ∷ []
told_by (session.sent lane bytes text full answers) = sends (say.Bytes lane bytes text) full ∷ []
told_by (session.shut lane answers) = gives (say.Shut lane) ∷ []
told_by (session.wrote lane answers) = []

-- by those of a session, the latest of which comes first
abbrev pub told_in_all : List Call → List Told
told_in_all [] = []
told_in_all (call ∷ calls) = told_in_all calls ++ told_by call

-- the reply that a call says on a lane: one that is given there and said, or the door's own to what is no request
abbrev pub replies_of : ℕ → DoorCall → List Reply
replies_of lane (door.heard wait what) = refusal_on lane what.event
replies_of lane (door.given (say.Reply at reply) is_said) = if (at == lane) && is_said then reply ∷ [] else []
replies_of lane _ = []

-- the call isn't one of `next` that failed
abbrev pub is_steady : DoorCall → Bool
is_steady (door.failed (door.to_hear wait) why) = false
is_steady _ = true

-- From a door that was just started, calls of which none of `next` failed are a session: what they told is the same, in order, the replies said on each
-- lane are those that the calls say there, and what the wires answered in it is what they told meanwhile, if they still tell.
abbrev pub CallsAreASession : {W : Type 0} → (NetDoor W → List DoorCall → NetDoor W → Type 0) → (W → Option (List Answer)) → (W → ℕ) → Type 0
CallsAreASession {W} Goes trace bound =
    (calls : List DoorCall) (start now : NetDoor W) → Goes start calls now
    → state_of start ≡ record { lanes = []; from = 0; named = 0; moment = 0 } → list_all is_steady calls ≡ true
    → (all : List Call) × Session all (bound now.wires) (state_of now) × (told_in_all all ≡ told_in calls)
    × ((lane : ℕ) → replies_on lane all ≡ flat_map (replies_of lane) calls)
    × Tells (trace start.wires) (trace now.wires) (answers_of all)

-- calls are some, and then the others
abbrev pub CallsSplit : {W : Type 0} → (NetDoor W → List DoorCall → NetDoor W → Type 0) → Type 0
CallsSplit {W} Goes =
    (before after : NetDoor W) (first more : List DoorCall) → Goes before (first ++ more) after → (mid : NetDoor W) × Goes before first mid × Goes mid more after
