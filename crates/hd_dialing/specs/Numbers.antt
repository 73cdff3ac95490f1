-- The numbers in the rules of dialing, which are this project's own.
use Rattle.std.specs.Prelude.{ℕ, ◌==◌, if◌then◌else◌}

-- a connection is given up once this many dials in a row were lost
abbrev pub most_lost : ℕ
most_lost = 5

-- for how many milliseconds nothing is dialed after the last of so many lost dials in a row
abbrev pub pause_after : ℕ → ℕ
pause_after lost = if lost == 2 then 500 else (if lost == 3 then 1000 else (if lost == 4 then 2000 else 0))

-- for how many milliseconds at least a connection is dialed from its first lost dial in a row on, before it is given up
abbrev pub patience : ℕ
patience = 3500
