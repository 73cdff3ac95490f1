-- What follows for the members of a name when a list of pairs changes: all that an index by name needs to know of its list.
use Rattle.std.specs.Prelude.{◌≡◌, ℕ, suc, ◌≤◌, Bool, true, false, false, not, ◌==◌, List, [], ◌∷◌, ◌++◌, filter, if◌then◌else◌, nat_eq}
use Rattle.std.specs.List.{list_any, IsDistinct}
use Rattle.hd_rooms.specs.Registry.{Pair, same_text, has, members, with_pair, without_pair, without, with_member, count_of, most_groups, AreDistinct}

-- Whether a connection is one of these.
abbrev pub is_among : ℕ → List ℕ → Bool
is_among conn conns = list_any (λ c. conn == c) conns

-- These connections but for one, in their order.
abbrev pub others_than : ℕ → List ℕ → List ℕ
others_than conn conns = filter (λ c. not (conn == c)) conns

-- The members of a name follow the pairs.
pub record MembersFollow : Type 0 where
  -- A pair is there if and only if its connection is a member of its name.
  pub there : (name : List ℕ) (conn : ℕ) (pairs : List Pair) → has (name, conn) pairs ≡ is_among conn (members name pairs)
  -- A new pair makes its connection the last member of its name, and a pair that is there changes nothing.
  pub joined : (name : List ℕ) (conn : ℕ) (pairs : List Pair) (other : List ℕ)
      → members other (with_pair (name, conn) pairs)
      ≡ (if has (name, conn) pairs then members other pairs
      else (if same_text name other then members other pairs ++ conn ∷ [] else members other pairs))
  -- Without a pair its connection isn't a member of its name; the other members keep their order, and other names their members.
  pub left : (name : List ℕ) (conn : ℕ) (pairs : List Pair) (other : List ℕ)
      → members other (without_pair (name, conn) pairs)
      ≡ (if same_text name other then others_than conn (members other pairs) else members other pairs)
  -- A connection that is gone is a member of no name.
  pub all_left : (conn : ℕ) (pairs : List Pair) (other : List ℕ)
      → members other (without conn pairs) ≡ others_than conn (members other pairs)

-- No change makes a pair stand twice, so no connection is a member of a name twice.
pub record PairsStayDistinct : Type 0 where
  pub joined : (p : Pair) (pairs : List Pair) → AreDistinct pairs → AreDistinct (with_pair p pairs)
  pub left : (p : Pair) (pairs : List Pair) → AreDistinct pairs → AreDistinct (without_pair p pairs)
  pub all_left : (conn : ℕ) (pairs : List Pair) → AreDistinct pairs → AreDistinct (without conn pairs)
  pub once : (name : List ℕ) (pairs : List Pair) → AreDistinct pairs → IsDistinct nat_eq (members name pairs)

-- A connection that has the same names in two lists has as many, if no pair stands twice.
abbrev pub CountsAgree : Type 0
CountsAgree = (conn : ℕ) (xs ys : List Pair) → AreDistinct xs → AreDistinct ys
    → ((name : List ℕ) → has (name, conn) xs ≡ has (name, conn) ys) → count_of conn xs ≡ count_of conn ys

-- No change makes a connection be in more groups than the most.
pub record GroupsAreBounded : Type 0 where
  pub joined : (p : Pair) (pairs : List Pair) (who : ℕ) → count_of who pairs ≤ most_groups → count_of who (with_member p pairs) ≤ most_groups
  pub fewer : (test : Pair → Bool) (pairs : List Pair) (who : ℕ) → count_of who (filter test pairs) ≤ count_of who pairs
