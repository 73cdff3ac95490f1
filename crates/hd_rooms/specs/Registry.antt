-- Who is in which group and who is which user: two lists of pairs of a name and a connection, in order of joining.
use Rattle.std.specs.Prelude.{◌≡◌, ℕ, Bool, false, not, ◌&&◌, ◌||◌, ◌==◌, nat_lt, List, [], ◌∷◌, ◌++◌, length, filter, map, if◌then◌else◌}
use Rattle.std.specs.List.{list_any}
pub use Rattle.hm_message.specs.Same.{same_text}

-- The most groups in which a connection is.
abbrev pub most_groups : ℕ
most_groups = 256

-- A name, and a connection that joined under it.
abbrev pub Pair : Type 0
Pair = List ℕ × ℕ

-- The pairs of groups and members, and those of users and their connections.
pub record Lists : Type 0 where
  pub groups : List Pair
  pub users : List Pair

-- Nobody is in a group, and no connection is of a user.
abbrev pub nobody : Lists
nobody = record { groups = []; users = [] }

-- Whether two pairs have one name and one connection.
abbrev pub same_pair : Pair → Pair → Bool
same_pair p q = same_text p.0 q.0 && (p.1 == q.1)

-- Whether the pair is in the list.
abbrev pub has : Pair → List Pair → Bool
has p pairs = list_any (same_pair p) pairs

-- No pair is in the list twice.
abbrev pub AreDistinct : List Pair → Type 0
AreDistinct [] = Unit {0}
AreDistinct (p ∷ pairs) = (has p pairs ≡ false) × AreDistinct pairs

-- The list with the pair, which goes last if it is new; a pair that is there stays where it is.
abbrev pub with_pair : Pair → List Pair → List Pair
with_pair p pairs = if has p pairs then pairs else pairs ++ p ∷ []

-- The list without the pair.
abbrev pub without_pair : Pair → List Pair → List Pair
without_pair p pairs = filter (λ q. not (same_pair p q)) pairs

-- The list without all pairs of a connection.
abbrev pub without : ℕ → List Pair → List Pair
without conn pairs = filter (λ q. not (conn == q.1)) pairs

-- The connections of a name, in order of joining.
abbrev pub members : List ℕ → List Pair → List ℕ
members name pairs = map (λ q. q.1) (filter (λ q. same_text name q.0) pairs)

-- How many names a connection has.
abbrev pub count_of : ℕ → List Pair → ℕ
count_of conn pairs = length (filter (λ q. conn == q.1) pairs)

-- Whether a connection may join a group: it is in it, or in fewer groups than the most.
abbrev pub may_join : Pair → List Pair → Bool
may_join p pairs = has p pairs || nat_lt (count_of p.1 pairs) most_groups

-- The list with the pair, if its connection may join.
abbrev pub with_member : Pair → List Pair → List Pair
with_member p pairs = if may_join p pairs then with_pair p pairs else pairs

-- A connection joined a group, if it may.
abbrev pub added : Lists → List ℕ → ℕ → Lists
added l group conn = record l { groups = with_member (group, conn) l.groups }

-- A connection left a group.
abbrev pub removed : Lists → List ℕ → ℕ → Lists
removed l group conn = record l { groups = without_pair (group, conn) l.groups }

-- A connection was found to be a user's.
abbrev pub named : Lists → List ℕ → ℕ → Lists
named l user conn = record l { users = with_pair (user, conn) l.users }

-- A connection left everything.
abbrev pub gone : Lists → ℕ → Lists
gone l conn = record { groups = without conn l.groups; users = without conn l.users }
