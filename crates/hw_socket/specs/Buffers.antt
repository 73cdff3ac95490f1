-- The buffers of a lane.
use Rattle.std.specs.Prelude.{◌≡◌, ◌≤◌, ℕ, List, []}

-- the most bytes that an empty buffer reserves
abbrev pub most_reserved : ℕ
most_reserved = 4096

-- a buffer with these bytes, which reserves room for so many, keeps little memory if it is empty
abbrev pub IsLean : List ℕ → ℕ → Type 0
IsLean bytes room = bytes ≡ [] → room ≤ most_reserved
