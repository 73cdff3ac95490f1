-- What crates above cite of the latest rows.
use Rattle.std.specs.Prelude.{◌≡◌, ◌<◌, List, [], ◌∷◌, ◌++◌}
use Rattle.hd_rooms.specs.declared.vocabulary.Row.{Row}
use Rattle.hk_latest.specs.Latest.{IsLatest, latest, weight, most_row_bytes}

-- what is computed is the longest end that may be held, and nothing else is
pub record LatestIsLongest : Type 0 where
  pub is_latest : (all : List Row) → IsLatest all (latest all)
  pub only : (all held : List Row) → IsLatest all held → held ≡ latest all

-- who holds the latest of some rows needs no more than them to find the latest once others came
abbrev pub LatestOfLatest : Type 0
LatestOfLatest = (all more : List Row) → latest (latest all ++ more) ≡ latest (all ++ more)

-- no row is held after one that is too great by itself
abbrev pub NoneAfterTooGreat : Type 0
NoneAfterTooGreat = (all : List Row) (row : Row) → most_row_bytes < weight row → latest (all ++ row ∷ []) ≡ []
