-- How soon each lane is listened to, whatever the wires name.
use Rattle.std.specs.Prelude.{◌≡◌, ◌⊎◌, ◌<◌, ◌+◌, ◌*◌, ◌^◌, ◌&&◌, ◌||◌, ℕ, Bool, true, false, nat_le, nat_lt, if◌then◌else◌, List, [], ◌∷◌, ◌++◌, length, Contains, Option, None, Some}
use Rattle.hw_door.specs.declared.heard.Event.{Event}
use Rattle.hw_door.specs.Traffic.{Answer, accepted}
use Rattle.hw_net.specs.declared.limits.TheConstants.{MOST_NAMED}
use Rattle.hw_net.specs.Door.{DoorState, HearsAll, HearsNext, KeepsLanes, lane_of}
use Rattle.hw_net.specs.Lane.{Lane, wires_of}
use Rattle.hw_net.specs.Rising.{IsRising}
use Rattle.hw_net.specs.Sessions.{Call, Does, answers_in}
use Rattle.hw_net.specs.Sessions as session
use Rattle.hw_net.specs.Turn.{Listens}

-- in the order of numbers that begins with the first of these and goes round, the second comes before the third
abbrev pub is_before : ℕ → ℕ → ℕ → Bool
is_before begin sooner later =
    if nat_le begin later then nat_le begin sooner && nat_lt sooner later else nat_le begin sooner || nat_lt sooner later

-- a search that begins at this number and hears this passes the lane of this number over: it hears one that comes before
abbrev pub passes_over : ℕ → ℕ → Option Event → Bool
passes_over begin lane None = false
passes_over begin lane (Some heard) = is_before begin (lane_of heard) lane

-- a lane listened in a search: what its turn told is a part of these answers, and if it heard anything, it is what the search heard
abbrev pub HasListened : ℕ → Lane → List Lane → List Answer → Option Event → Type 0
HasListened now lane after answers heard =
    (next : Lane) × (own : Option Event) × (first : List Answer) × (mine : List Answer) × (last : List Answer)
    × Contains after next × Listens now lane next mine own × (answers ≡ first ++ (mine ++ last)) × ((own ≡ None) ⊎ (own ≡ heard))

-- in each search the lanes listen that it doesn't pass over
abbrev pub OthersListen : Type 0
OthersListen =
    (now begin bound : ℕ) (before after : List Lane) (answers : List Answer) (heard : Option Event) → IsRising 0 bound (wires_of before)
    → HearsAll now begin before after answers heard
    → (lane : Lane) → Contains before lane → passes_over begin lane.wire heard ≡ false → HasListened now lane after answers heard

-- a call that passes the lane of this number over, if it is one of `next`
abbrev pub PassesOver : ℕ → Call → ℕ → ℕ → DoorState → DoorState → Type 0
PassesOver lane (session.heard what answers) bound bound_after before after =
    (wait : ℕ) × (hears : HearsNext wait before after answers what) × KeepsLanes bound bound_after before.lanes after.lanes
    × (passes_over hears.begin lane hears.trace ≡ true)
PassesOver lane call bound bound_after before after = Does call bound bound_after before after

-- calls from one state to another, the latest first, each of which does so
abbrev pub AllPassOver : ℕ → List Call → ℕ → ℕ → DoorState → DoorState → Type 0
AllPassOver lane [] bound bound_after before after = (bound_after ≡ bound) × (after ≡ before)
AllPassOver lane (call ∷ calls) bound bound_after before after =
    (bound_mid : ℕ) × (mid : DoorState) × AllPassOver lane calls bound bound_mid before mid × PassesOver lane call bound_mid bound_after mid after

-- how many of these calls are of `next`
abbrev pub nexts : List Call → ℕ
nexts [] = 0
nexts (session.heard what answers ∷ calls) = nexts calls + 1
nexts (_ ∷ calls) = nexts calls

-- how many wires came in them
abbrev pub came_among : List Answer → ℕ
came_among [] = 0
came_among (accepted (Some wire) ∷ answers) = came_among answers + 1
came_among (_ ∷ answers) = came_among answers

abbrev pub arrivals : List Call → ℕ
arrivals [] = 0
arrivals (call ∷ calls) = arrivals calls + came_among (answers_in call)

-- Calls one after the other, in any state of a door, pass a lane over in fewer of `next` than 65 for each lane that is there, itself
-- among them, or comes meanwhile. So it listens in the next one at the latest, or rests there.
abbrev pub LanesAreReached : Type 0
LanesAreReached =
    (calls : List Call) (bound bound_after : ℕ) (before after : DoorState) (lane : Lane) → AllPassOver lane.wire calls bound bound_after before after
    → Contains before.lanes lane → lane.wire < 2 ^ 64 → nexts calls < (MOST_NAMED + 1) * (length before.lanes + arrivals calls)
