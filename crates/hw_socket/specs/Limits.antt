-- The bounds of a lane.
use Rattle.std.specs.Prelude.{ℕ}

-- the most bytes of a message, and of what a frame carries: 1 MiB
abbrev pub most_message : ℕ
most_message = 1048576

-- the most bytes of a frame, with its head and mask
abbrev pub most_frame : ℕ
most_frame = 1048590
