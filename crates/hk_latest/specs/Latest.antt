-- The latest of all rows that were logged: the longest end of their list that has few enough rows and few enough bytes.
use Rattle.std.specs.Prelude.{◌≡◌, ℕ, ◌+◌, ◌^◌, ◌≤◌, nat_le, Bool, ◌&&◌, List, [], ◌∷◌, ◌++◌, length, sum_by, Option, None, if◌then◌else◌}
use Rattle.hd_facts.specs.Counts.{one_more}
use Rattle.hd_rooms.specs.declared.vocabulary.Row.{Row}
use Rattle.hd_rooms.specs.declared.vocabulary.Asked.{Asked}
use Rattle.hd_rooms.specs.Kept.{Content, row_count}

-- the most rows that are held
abbrev pub most_rows : ℕ
most_rows = 2 ^ 16

-- the most bytes of the rows that are held
abbrev pub most_row_bytes : ℕ
most_row_bytes = 2 ^ 24

-- the bytes of a row: of its room, of the name of who said it, and of its text
abbrev pub weight : Row → ℕ
weight row = length row.room + length row.who + length row.text

abbrev pub weight_of : List Row → ℕ
weight_of rows = sum_by weight rows

-- these rows may be held together
pub record Fits (rows : List Row) : Type 0 where
  pub few : length rows ≤ most_rows
  pub light : weight_of rows ≤ most_row_bytes

-- these are the last of all, with others before them or none
abbrev pub IsEnd : List Row → List Row → Type 0
IsEnd all last = (before : List Row) × (all ≡ before ++ last)

-- these are the longest end of all that may be held
pub record IsLatest (all held : List Row) : Type 0 where
  pub end : IsEnd all held
  pub fits : Fits held
  pub longest : (other : List Row) → IsEnd all other → Fits other → length other ≤ length held

-- ---- the same, computed

abbrev pub fits : List Row → Bool
fits rows = nat_le (length rows) most_rows && nat_le (weight_of rows) most_row_bytes

-- the rows from the first one on from which they fit
abbrev pub latest : List Row → List Row
latest [] = []
latest (row ∷ rows) = if fits (row ∷ rows) then row ∷ rows else latest rows

-- ---- a keeper of them, as contracts see it

-- how many rows were logged, as a count of 64 bits, and the rows that it holds, oldest first
pub record LatestContent : Type 0 where
  pub logged : ℕ
  pub rows : List Row

-- it with one row more
abbrev pub after_log : Row → LatestContent → LatestContent
after_log row content = record { logged = one_more content.logged; rows = latest (content.rows ++ row ∷ []) }

-- so it is after all these rows were logged, oldest first
pub record HoldsLatest (all : List Row) (content : LatestContent) : Type 0 where
  pub counted : content.logged ≡ row_count all
  pub held : IsLatest all content.rows

-- what it tells as a keeper: neither what it keeps nor what it was asked, as of a file
abbrev pub untold : Option Content
untold = None

abbrev pub unnoted : Option (List Asked)
unnoted = None
