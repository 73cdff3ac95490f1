-- What calls on wires come to, as the wires tell it.
use Rattle.std.specs.Prelude.{◌≡◌, ◌≤◌, ◌==◌, ℕ, Bool, true, false, List, [], ◌∷◌, ◌++◌, length, Option, None, Some}
use Rattle.hw_door.specs.Traffic.{Answer, bytes_in, not_yet, ended, read_failed}

-- these answers were told too, in order, if anything still is
abbrev pub Tells : Option (List Answer) → Option (List Answer) → List Answer → Type 0
Tells before None answers = Unit {0}
Tells None (Some now) answers = ⊥
Tells (Some before) (Some now) answers = now ≡ before ++ answers

-- a read on this wire, with this room, gave these bytes, or None: the wire ended or failed
abbrev pub Reads : ℕ → ℕ → Answer → Option (List ℕ) → Type 0
Reads wire room (bytes_in at bytes) (Some piece) = (at ≡ wire) × (piece ≡ bytes) × (length bytes ≤ room)
Reads wire room (not_yet at) (Some piece) = (at ≡ wire) × (piece ≡ [])
Reads wire room (ended at) None = at ≡ wire
Reads wire room (read_failed at) None = at ≡ wire
Reads wire room _ _ = ⊥

-- the wire was read at most once, and only if there was room: what it gave, which is nothing if it wasn't read
abbrev pub Gives : ℕ → ℕ → List Answer → Option (List ℕ) → Type 0
Gives wire room [] got = got ≡ Some []
Gives wire room (answer ∷ []) got = (1 ≤ room) × Reads wire room answer got
Gives wire room (answer ∷ next ∷ more) got = ⊥

-- the wire was read, if there was room
abbrev pub IsAsked : ℕ → List Answer → Type 0
IsAsked room answers = 1 ≤ room → 1 ≤ length answers

-- Whether the last read filled its room, once the wire was read so: a read that gave bytes did exactly if there are as many. It is as before if the
-- wire wasn't read, or broke
abbrev pub is_full_after : ℕ → List Answer → Option (List ℕ) → Bool → Bool
is_full_after room [] got was_full = was_full
is_full_after room (answer ∷ answers) None was_full = was_full
is_full_after room (answer ∷ answers) (Some bytes) was_full = length bytes == room

-- the bytes that were read
abbrev pub bytes_of : Option (List ℕ) → List ℕ
bytes_of None = []
bytes_of (Some piece) = piece

-- the first holds if the test is true, and else the second
abbrev pub Chooses : Bool → Type 0 → Type 0 → Type 0
Chooses true First Second = First
Chooses false First Second = Second
