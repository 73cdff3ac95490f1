-- How many names a connection has in an index, and in the pairs for which it stands.
use Rattle.std.proofs.Common.{◌≡◌, ℕ, suc, Bool, true, false, ◌&&◌, ◌||◌, eqb, List, [], ◌∷◌, length, map, Option, Some, None, refl, sym, ap, ◌∙◌}
use Rattle.std.specs.List.{list_any, IsDistinct, AllByRecursion}
use Rattle.std.specs.Option.{option_map_or}
use Rattle.std.specs.Ordering.{is_eq, eq_by_cmp, nat_cmp}
use Rattle.std.specs.Cmp.Lexicographic.{slice_cmp}
use Rattle.std.specs.BTreeMap.{is_at}
use Rattle.std.specs.BTreeSet.{BTreeSet}
use Rattle.std.proofs.lemmas.Bool.{eq-eqb}
use Rattle.std.proofs.lemmas.Map.Keys.{IsDistinct-head, IsDistinct-tail, IsDistinct-from_sorted}
use Rattle.std.proofs.lemmas.Map.Text.{is_eq-slice_cmp}
use Rattle.hd_rooms.specs.Registry.{Pair, same_text, has, count_of, AreDistinct}
use Rattle.hd_rooms.specs.RegistryLaws.{MembersFollow, CountsAgree, is_among}
use Rattle.hg_groups.specs.Maps.{HasCount, at_conn, has_name, holds}
use Rattle.hg_groups.specs.Standing.{StandsIndex}
use Rattle.hg_groups.specs.declared.index.Index.{Index}

-- each of these names, with the connection
abbrev pairs_of : ℕ → List (List ℕ) → List Pair
pairs_of conn names = map (λ name. (name, conn)) names

count-pairs_of : (conn : ℕ) (names : List (List ℕ)) → count_of conn (pairs_of conn names) ≡ length names
count-pairs_of conn [] = refl
count-pairs_of conn (name ∷ names) = rw (eq-eqb conn conn refl) (ap suc (count-pairs_of conn names))

has-pairs_of : (name : List ℕ) (conn : ℕ) (names : List (List ℕ))
    → has (name, conn) (pairs_of conn names) ≡ list_any (is_at (slice_cmp nat_cmp name)) names
has-pairs_of name conn [] = refl
has-pairs_of name conn (n ∷ names) =
    rw (eq-eqb conn conn refl) (by (same_text name n))
    ∙ ap (λ b. b || has (name, conn) (pairs_of conn names)) (sym (is_eq-slice_cmp name n))
    ∙ ap (λ b. is_at (slice_cmp nat_cmp name) n || b) (has-pairs_of name conn names)
  where
    by : (b : Bool) → ((b && true) || has (name, conn) (pairs_of conn names)) ≡ (b || has (name, conn) (pairs_of conn names))
    by true = refl
    by false = refl

-- a name that differs from each of these isn't among them
none_at : (name : List ℕ) (names : List (List ℕ)) → AllByRecursion (λ n. eq_by_cmp (slice_cmp nat_cmp) name n ≡ false) names
    → list_any (is_at (slice_cmp nat_cmp name)) names ≡ false
none_at name [] apart = refl
none_at name (n ∷ names) apart = rw apart.0 (none_at name names apart.1)

distinct-pairs_of : (conn : ℕ) (names : List (List ℕ)) → IsDistinct (eq_by_cmp (slice_cmp nat_cmp)) names → AreDistinct (pairs_of conn names)
distinct-pairs_of conn [] d = tt
distinct-pairs_of conn (name ∷ names) d = (
  has-pairs_of name conn names ∙ none_at name names (IsDistinct-head (eq_by_cmp (slice_cmp nat_cmp)) name names d),
  distinct-pairs_of conn names (IsDistinct-tail (eq_by_cmp (slice_cmp nat_cmp)) name names d),
)

-- the names in what a map has at a connection
abbrev names_in : Option (BTreeSet (List ℕ)) → List (List ℕ)
names_in None = []
names_in (Some names) = names.keys

count-names_in : (o : Option (BTreeSet (List ℕ))) (count : ℕ) → HasCount o count → count ≡ length (names_in o)
count-names_in None count h = h
count-names_in (Some names) count h = h.0

distinct-names_in : (conn : ℕ) (o : Option (BTreeSet (List ℕ))) (count : ℕ) → HasCount o count → AreDistinct (pairs_of conn (names_in o))
distinct-names_in conn None count h = tt
distinct-names_in conn (Some names) count h =
    distinct-pairs_of conn names.keys (IsDistinct-from_sorted (slice_cmp nat_cmp) names.keys h.1)

has-names_in : (name : List ℕ) (conn : ℕ) (o : Option (BTreeSet (List ℕ)))
    → has (name, conn) (pairs_of conn (names_in o)) ≡ option_map_or (λ names. has_name names name) o false
has-names_in name conn None = refl
has-names_in name conn (Some names) = has-pairs_of name conn names.keys

-- a pair is there if its connection has its name
pub has_is : MembersFollow → (index : Index) (pairs : List Pair) → StandsIndex index pairs → (name : List ℕ) (conn : ℕ)
    → holds index.names.by_conn conn name ≡ has (name, conn) pairs
has_is follow index pairs s name conn =
    index.agree conn name ∙ ap (is_among conn) (s.each name) ∙ sym (follow.there name conn pairs)

pub count_is : MembersFollow → CountsAgree → (index : Index) (conn count : ℕ) → HasCount (at_conn index.names.by_conn conn) count
    → (pairs : List Pair) → StandsIndex index pairs → count ≡ count_of conn pairs
count_is follow agree index conn count h pairs s =
    let o : Option (BTreeSet (List ℕ)) = at_conn index.names.by_conn conn in
    count-names_in o count h ∙ sym (count-pairs_of conn (names_in o))
    ∙ agree conn (pairs_of conn (names_in o)) pairs (distinct-names_in conn o count h) s.distinct
    (λ name. has-names_in name conn o ∙ has_is follow index pairs s name conn)
