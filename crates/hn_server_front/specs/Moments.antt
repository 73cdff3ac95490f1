-- The list of those that wait for their moments.
use Rattle.std.specs.Prelude.{◌≡◌, ◌<◌, ◌≤◌, ℕ, ◌+◌, Bool, true, false, ◌&&◌, ◌||◌, ◌==◌, nat_lt, nat_le, List, [], ◌∷◌, length, Option, Some, None}
use Rattle.std.specs.Vec.{vec_capacity}
use Rattle.hn_server_front.specs.declared.moments.Moments.{Moments}
use Rattle.hn_server_front.specs.declared.moments.Waiting.{Waiting}

abbrev pub at : ℕ → ℕ → Waiting
at since conn = record { since = since; conn = conn }

abbrev pub is_same : Waiting → Waiting → Bool
is_same a b = (a.since == b.since) && (a.conn == b.conn)

-- it is one of these
abbrev pub is_within : Waiting → List Waiting → Bool
is_within w [] = false
is_within w (v ∷ vs) = is_same w v || is_within w vs

-- by the moment, and at one moment by the number
abbrev pub is_before : Waiting → Waiting → Bool
is_before a b = nat_lt a.since b.since || ((a.since == b.since) && nat_lt a.conn b.conn)

-- each is before all that come after it
abbrev pub IsInOrder : List Waiting → Type 0
IsInOrder [] = Unit {0}
IsInOrder (w ∷ ws) = ((v : Waiting) → is_within v ws ≡ true → is_before w v ≡ true) × IsInOrder ws

-- its moment has come
abbrev pub is_due : ℕ → ℕ → Waiting → Bool
is_due lasts now w = nat_le (w.since + lasts) now

-- a connection waits since this moment and no other, or not at all
abbrev pub waits_as : ℕ → Option ℕ → List Waiting → Type 0
waits_as conn None ws = (since : ℕ) → is_within (at since conn) ws ≡ false
waits_as conn (Some moment) ws = (since : ℕ) → is_within (at since conn) ws ≡ (since == moment)

-- one that waited has its place, and one that didn't has one without more memory
abbrev pub HasPlace : Moments → Option ℕ → Type 0
HasPlace m (Some since) = Unit {0}
HasPlace m None = length m.waiting.items < vec_capacity m.waiting

-- the least number of these
abbrev pub IsLeast : List Waiting → Option ℕ → Type 0
IsLeast ws None = ws ≡ []
IsLeast ws (Some c) = ((since : ℕ) × (is_within (at since c) ws ≡ true)) × ((w : Waiting) → is_within w ws ≡ true → c ≤ w.conn)
