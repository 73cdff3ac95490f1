-- What the map from rooms to their rows says, and how a change of it reads.
use Rattle.std.specs.Prelude.{◌≡◌, ℕ, ◌<◌, List, [], ◌∷◌, ◌++◌, length, drop, filter, Option, if◌then◌else◌}
use Rattle.std.specs.Option.{ForSome, unwrap_or}
use Rattle.std.specs.Ordering.{nat_cmp}
use Rattle.std.specs.Cmp.Lexicographic.{slice_cmp}
use Rattle.std.specs.BTreeMap.{BTreeMap}
use Rattle.std.specs.BTreeMap as tree
use Rattle.hd_rooms.specs.declared.vocabulary.Row.{Row}
use Rattle.hd_rooms.specs.Kept.{is_of_room}
use Rattle.hk_latest.specs.Latest.{weight_of}

-- from a room to its rows, oldest first
abbrev pub ByRoom : Type 0
ByRoom = BTreeMap (List ℕ) (List Row)

-- what the map has at a room
abbrev pub at_room : ByRoom → List ℕ → Option (List Row)
at_room m room = tree.get (slice_cmp nat_cmp) m room

-- the rows of a room, and none if the map doesn't have the room
abbrev pub said : ByRoom → List ℕ → List Row
said m room = unwrap_or (at_room m room) []

-- no room is kept for no row
abbrev pub NoneIsEmpty : ByRoom → Type 0
NoneIsEmpty m = (room : List ℕ) → ForSome (at_room m room) (λ rows. 0 < length rows)

-- the map has exactly these rows, each under its room, and they have so many bytes
pub record IsIndex (m : ByRoom) (rows : List Row) (bytes : ℕ) : Type 0 where
  pub by_room : (room : List ℕ) → said m room ≡ filter (is_of_room room) rows
  pub weighed : bytes ≡ weight_of rows

-- ---- what a change leaves, old map first

-- the same rows in each room
abbrev pub SameRows : ByRoom → ByRoom → Type 0
SameRows old new = (other : List ℕ) → said new other ≡ said old other

-- the row came last in its room
abbrev pub Added : ByRoom → ByRoom → Row → Type 0
Added old new row = (other : List ℕ) → said new other ≡ (if is_of_room other row then said old other ++ row ∷ [] else said old other)

-- the row is the only one in its room
abbrev pub Begun : ByRoom → ByRoom → Row → Type 0
Begun old new row = (other : List ℕ) → said new other ≡ (if is_of_room other row then row ∷ [] else said old other)

-- the first row of this one's room went
abbrev pub Dropped : ByRoom → ByRoom → Row → Type 0
Dropped old new row = (other : List ℕ) → said new other ≡ (if is_of_room other row then drop 1 (said old other) else said old other)
