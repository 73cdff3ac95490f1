-- The wires of the lanes on which something waits to be written.
use Rattle.std.specs.Prelude.{◌≡◌, ◌==◌, ◌&&◌, ℕ, Bool, true, false, List, Contains}
use Rattle.std.specs.List.{list_any}
use Rattle.hw_net.specs.declared.writers.Writers.{Writers}
use Rattle.hw_net.specs.Lane.{Lane}
use Rattle.hw_net.specs.Tally.{is_writer}

-- the lane of this number is live, and something waits there
abbrev pub is_writer_at : ℕ → List Lane → Bool
is_writer_at wire lanes = list_any (λ (lane : Lane). (lane.wire == wire) && is_writer lane) lanes

-- these are the wires of all live lanes on which something waits, perhaps among others
abbrev pub AreWriters : List ℕ → List Lane → Type 0
AreWriters wires lanes = (lane : Lane) → Contains lanes lane → is_writer lane ≡ true → Contains wires lane.wire

-- so it is of a list that is whole
abbrev pub IsListOf : Writers → List Lane → Type 0
IsListOf writers lanes = writers.is_whole ≡ true → AreWriters writers.wires.items lanes

-- a list that is whole after this lane changed has all that stood there before, and its wire if it has something to write now and hadn't before
abbrev pub Lists : Bool → Lane → Writers → Writers → Type 0
Lists was_writer lane before after = after.is_whole ≡ true → (before.is_whole ≡ true)
    × ((wire : ℕ) → Contains before.wires.items wire → Contains after.wires.items wire)
    × (was_writer ≡ false → is_writer lane ≡ true → Contains after.wires.items lane.wire)
