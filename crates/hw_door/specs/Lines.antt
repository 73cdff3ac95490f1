-- The wires of a form in memory beside the room that they have for what is written.
use Rattle.std.specs.Prelude.{◌≡◌, ◌≤◌, ℕ, List, All, map, slice_get}
use Rattle.hw_door.specs.declared.memory_wire.MemoryWire.{MemoryWire}
use Rattle.hw_door.specs.Traffic.{Answer, written_on}
use Rattle.hw_door.specs.Wires.{WireLeft, wire_of, written_of}

-- a wire, and for how many bytes more it has room
pub record LineLeft : Type 0 where
  pub wire : WireLeft
  pub room : ℕ

abbrev pub wire_in : LineLeft → WireLeft
wire_in line = line.wire

-- all wires, how many were given, and for how many bytes more each has room
pub record LinesLeft : Type 0 where
  pub wires : List WireLeft
  pub given : ℕ
  pub room : ℕ

-- each line has room for this many bytes more
abbrev pub HasRoom : ℕ → LineLeft → Type 0
HasRoom room line = room ≤ line.room

-- lines are these wires at the start, each with room for this many bytes
abbrev pub AreLines : ℕ → List MemoryWire → List LineLeft → Type 0
AreLines room wires lines = (map wire_in lines ≡ map wire_of wires) × All (HasRoom room) lines

-- what stands at each wire as written is what is told of it
abbrev pub WritesAreTold : List WireLeft → List Answer → Type 0
WritesAreTold wires answers = (wire : ℕ) → written_of (slice_get wires wire) ≡ written_on wire answers

-- the moments left, and the moment polled last
pub record MomentsLeft : Type 0 where
  pub left : List ℕ
  pub last : ℕ
