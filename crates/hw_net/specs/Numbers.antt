-- The numbers of the lanes of a door.
use Rattle.std.specs.Prelude.{◌≡◌, ℕ, Bool, List}
use Rattle.hw_lanes.specs.declared.http.Reply.{Reply}
use Rattle.hw_door.specs.Traffic.{Answer}
use Rattle.hw_net.specs.Door.{DoorState, KeepsLanes, DoesAt}
use Rattle.hw_net.specs.Flushing.{FlushesDoor}
use Rattle.hw_net.specs.Lane.{Lane, wires_of}
use Rattle.hw_net.specs.Rising.{IsRising}
use Rattle.hw_net.specs.Turn.{Replies, Sends, Shuts}

-- numbers that rise below the bound do so after a call of `next` too: so no number comes twice
abbrev pub NumbersRise : Type 0
NumbersRise = (bound bound_after : ℕ) (before after : List Lane) → IsRising 0 bound (wires_of before) → KeepsLanes bound bound_after before after
    → IsRising 0 bound_after (wires_of after)

-- the other calls leave the numbers
abbrev pub FlushesKeepNumbers : Type 0
FlushesKeepNumbers = (before after : DoorState) (answers : List Answer) → FlushesDoor before after answers → wires_of after.lanes ≡ wires_of before.lanes

abbrev pub RepliesKeepNumbers : Type 0
RepliesKeepNumbers = (lane now : ℕ) (reply : Reply) (before after : DoorState) (answers : List Answer) → DoesAt lane (Replies now reply) before after answers
    → wires_of after.lanes ≡ wires_of before.lanes

abbrev pub SendsKeepNumbers : Type 0
SendsKeepNumbers = (lane now : ℕ) (bytes : List ℕ) (text : Bool) (before after : DoorState) (answers : List Answer) → DoesAt lane (Sends now bytes text) before after answers
    → wires_of after.lanes ≡ wires_of before.lanes

abbrev pub ShutsKeepNumbers : Type 0
ShutsKeepNumbers = (lane now : ℕ) (before after : DoorState) (answers : List Answer) → DoesAt lane (Shuts now) before after answers
    → wires_of after.lanes ≡ wires_of before.lanes
