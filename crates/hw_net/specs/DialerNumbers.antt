-- The numbers of a dialer's lanes, over its calls.
use Rattle.std.specs.Prelude.{◌+◌, ℕ, List, [], ◌∷◌, flat_map}
use Rattle.hw_door.specs.declared.heard.Given.TheVariants as say
use Rattle.hw_door.specs.DoorCalls as door
use Rattle.hw_door.specs.DoorCalls.{DoorCall}
use Rattle.hw_net.specs.declared.dialer.NetDialer.{NetDialer}
use Rattle.hw_net.specs.Rising.{IsRising}

-- the lane with which a call answered an ask
abbrev pub asked_of : DoorCall → List ℕ
asked_of (door.given (say.Ask lane place method target upgrade) is_said) = lane ∷ []
asked_of _ = []

-- the lanes of several calls, in order
abbrev pub asked_in : List DoorCall → List ℕ
asked_in calls = flat_map asked_of calls

-- In any calls of a dialer the lanes of its asks rise, from the first after the one that was answered last: so no lane comes twice
abbrev pub AsksRise : {W : Type 0} → (NetDialer W → List DoorCall → NetDialer W → Type 0) → Type 0
AsksRise {W} Goes = (calls : List DoorCall) (before after : NetDialer W) → Goes before calls after → IsRising (before.last + 1) (after.last + 1) (asked_in calls)
