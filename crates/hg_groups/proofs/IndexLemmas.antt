-- How the two maps of an index change together, and which lists of pairs they then stand for.
use Rattle.std.proofs.Common.{◌≡◌, ℕ, ◌<◌, Bool, true, false, not, ◌&&◌, ◌||◌, eqb, nat_eq, List, [], ◌∷◌, ◌++◌, length, if◌then◌else◌, IsTrue, refl, sym, ap, subst, ◌∙◌, true≢false, arith}
use Rattle.std.specs.List.{list_any, IsDistinct}
use Rattle.std.specs.Ordering.{nat_cmp}
use Rattle.std.specs.Cmp.Lexicographic.{slice_cmp, nat_list_eq_equiv}
use Rattle.std.specs.BTreeMap.{is_at}
use Rattle.std.specs.BTreeSet.{BTreeSet}
use Rattle.std.proofs.lemmas.Bool.{eqb-true, eq-eqb}
use Rattle.std.specs.Cmp.{nat_eq_equiv}
use Rattle.std.proofs.lemmas.Map.Keys.{IsDistinct-push}
use Rattle.std.proofs.lemmas.Map.Text.{is_eq-slice_cmp}
use Rattle.std.proofs.lemmas.Slice.Eq.{bytes_eq-Decides}
use Rattle.hd_rooms.specs.Registry.{Pair, same_text, members, without_pair, without}
use Rattle.hd_rooms.specs.RegistryLaws.{is_among, others_than, MembersFollow, PairsStayDistinct}
use Rattle.hg_groups.specs.declared.index.Index.{Index}
use Rattle.hg_groups.specs.Maps.{ByName, ByConn, listed, holds, has_name, Agree, EachOnce, SameLists, Joined, Left, LeftAll, Entered, Exited, Forgotten}
use Rattle.hg_groups.specs.Standing.{StandsIndex}
use Rattle.hg_groups.proofs.ListLemmas.{others_than-absent, is_among-others_than, others_than-twice, IsDistinct-others_than}

-- both parts of a test that holds
both : (a b : Bool) → (a && b) ≡ true → (a ≡ true) × (b ≡ true)
both true b e = (refl, e)
both false b e = absurd (true≢false (sym e))

-- ---- both maps

module _ {S : Type 0} (old new : ByConn S) (before after : ByName) (conn : ℕ) where
  -- a pair that was entered, and whose connection didn't join, is taken back
  pub Agree-undone : (name : List ℕ) (mid : ByConn S) → Agree old before → holds old conn name ≡ false
      → Entered old mid conn name → SameLists before after → Exited mid new conn name → Agree new after
  Agree-undone name mid agree out entered lists exited = λ who other.
      exited who other ∙ ap (λ h. not (eqb conn who && same_text name other) && h) (entered who other)
      ∙ by who other (eqb conn who && same_text name other) refl ∙ ap (is_among who) (sym (lists other))
    where
      by : (who : ℕ) (other : List ℕ) (t : Bool) → (eqb conn who && same_text name other) ≡ t
          → (not t && (t || holds old who other)) ≡ is_among who (listed before other)
      by who other true e =
          let is = both (eqb conn who) (same_text name other) e in
          sym (sym (agree who other)
          ∙ ap (λ c. holds old c other) (sym (eqb-true conn who is.0))
          ∙ ap (λ n. holds old conn n) (sym ((bytes_eq-Decides name other).0 is.1)) ∙ out)
      by who other false e = agree who other

  -- a pair left both
  pub Agree-left : (name : List ℕ) → Agree old before → Exited old new conn name → Left before after name conn → Agree new after
  Agree-left name agree exited left = λ who other.
      exited who other ∙ by who other (eqb conn who) (same_text name other) refl ∙ ap (is_among who) (sym (left other))
    where
      by : (who : ℕ) (other : List ℕ) (e s : Bool) → eqb conn who ≡ e
          → (not (e && s) && holds old who other) ≡ is_among who (if s then others_than conn (listed before other) else listed before other)
      by who other true true q = sym (is_among-others_than who conn (listed before other) ∙ ap (λ b. not b && is_among who (listed before other)) q)
      by who other false true q = agree who other
          ∙ sym (is_among-others_than who conn (listed before other) ∙ ap (λ b. not b && is_among who (listed before other)) q)
      by who other true false q = agree who other
      by who other false false q = agree who other

  -- a connection left both
  pub Agree-gone : Agree old before → Forgotten old new conn → LeftAll before after conn → Agree new after
  Agree-gone agree forgotten left = λ who other.
      forgotten who other ∙ ap (λ h. not (eqb conn who) && h) (agree who other)
      ∙ sym (is_among-others_than who conn (listed before other)) ∙ ap (is_among who) (sym (left other))

-- ---- each once

-- nobody is in an empty list twice
nobody_twice : IsDistinct nat_eq []
unfolding IsDistinct
nobody_twice = tt

-- nor in a map without connections
pub EachOnce-nobody : (by_name : ByName) → ((name : List ℕ) → listed by_name name ≡ []) → EachOnce by_name
EachOnce-nobody by_name none = λ other. subst (IsDistinct nat_eq) (sym (none other)) nobody_twice

module _ (before after : ByName) where
  -- nothing has changed
  pub EachOnce-same : EachOnce before → SameLists before after → EachOnce after
  EachOnce-same once lists = λ other. subst (IsDistinct nat_eq) (sym (lists other)) (once other)

  -- who wasn't there is there once
  pub EachOnce-joined : (name : List ℕ) (conn : ℕ) → EachOnce before → is_among conn (listed before name) ≡ false
      → Joined before after name conn → EachOnce after
  EachOnce-joined name conn once out joined = λ other. subst (IsDistinct nat_eq) (sym (joined other)) (by other (same_text name other) refl)
    where
      by : (other : List ℕ) (b : Bool) → same_text name other ≡ b
          → IsDistinct nat_eq (if b then listed before other ++ conn ∷ [] else listed before other)
      by other true e = IsDistinct-push nat_eq_equiv (listed before other) conn (once other)
          (ap (λ n. is_among conn (listed before n)) (sym ((bytes_eq-Decides name other).0 e)) ∙ out)
      by other false e = once other

  -- one left a name
  pub EachOnce-left : (name : List ℕ) (conn : ℕ) → EachOnce before → Left before after name conn → EachOnce after
  EachOnce-left name conn once left = λ other. subst (IsDistinct nat_eq) (sym (left other)) (by other (same_text name other))
    where
      by : (other : List ℕ) (b : Bool) → IsDistinct nat_eq (if b then others_than conn (listed before other) else listed before other)
      by other true = IsDistinct-others_than conn (listed before other) (once other)
      by other false = once other

  -- or all names
  pub EachOnce-gone : (conn : ℕ) → EachOnce before → LeftAll before after conn → EachOnce after
  EachOnce-gone conn once left = λ other.
      subst (IsDistinct nat_eq) (sym (left other)) (IsDistinct-others_than conn (listed before other) (once other))

-- ---- one name after another

-- a set that gives no name has none
has_name-none : (ks : List (List ℕ)) (test : List ℕ → Bool) → (0 < length ks → false ≡ true) → list_any test ks ≡ false
has_name-none [] test out = refl
has_name-none (k ∷ ks) test out = absurd (true≢false (sym (out (omega arith))))

true_or_not : (b : Bool) → (b ≡ true → false ≡ true) → b ≡ false
true_or_not true h = absurd (true≢false (sym (h refl)))
true_or_not false h = refl

-- the connection's names are those that it had but for this one
pub left_to_do : (now after : ByName) (names rest : BTreeSet (List ℕ)) (name : List ℕ) (conn : ℕ) → names.keys ≡ name ∷ rest.keys
    → ((other : List ℕ) → IsTrue (is_among conn (listed now other)) → IsTrue (has_name names other)) → Left now after name conn
    → (other : List ℕ) → IsTrue (is_among conn (listed after other)) → IsTrue (has_name rest other)
left_to_do now after names rest name conn keys todo left other is =
    by (same_text name other) refl (sym (ap (is_among conn) (left other)) ∙ is)
  where
    by : (s : Bool) → same_text name other ≡ s
        → is_among conn (if s then others_than conn (listed now other) else listed now other) ≡ true → has_name rest other ≡ true
    by true e h = absurd (true≢false (sym h ∙ is_among-others_than conn conn (listed now other)
        ∙ ap (λ b. not b && is_among conn (listed now other)) (eq-eqb conn conn refl)))
    by false e h =
        ap (λ b. b || has_name rest other) (sym (is_eq-slice_cmp other name ∙ nat_list_eq_equiv.symm other name ∙ e))
        ∙ sym (ap (list_any (is_at (slice_cmp nat_cmp other))) keys) ∙ todo other h

-- and whoever left once more is as gone
pub others_stay : (now after : ByName) (name : List ℕ) (conn : ℕ) → Left now after name conn
    → (other : List ℕ) → others_than conn (listed after other) ≡ others_than conn (listed now other)
others_stay now after name conn left other = ap (others_than conn) (left other) ∙ by (same_text name other)
  where
    by : (s : Bool) → others_than conn (if s then others_than conn (listed now other) else listed now other) ≡ others_than conn (listed now other)
    by true = others_than-twice conn (listed now other)
    by false = refl

-- with no name left to do, the connection is gone
pub nothing_left_to_do : (old now : ByName) (names : BTreeSet (List ℕ)) (conn : ℕ) → (0 < length names.keys → false ≡ true)
    → ((other : List ℕ) → others_than conn (listed now other) ≡ others_than conn (listed old other))
    → ((other : List ℕ) → IsTrue (is_among conn (listed now other)) → IsTrue (has_name names other)) → LeftAll old now conn
nothing_left_to_do old now names conn none stay todo = λ other.
    sym (others_than-absent conn (listed now other)
    (true_or_not _ (λ h. sym (has_name-none names.keys (is_at (slice_cmp nat_cmp other)) none) ∙ todo other h)))
    ∙ stay other

-- ---- what the index stands for

pub Stands-same : (old new : Index) (pairs : List Pair) → StandsIndex old pairs → SameLists old.members.by_name new.members.by_name → StandsIndex new pairs
Stands-same old new pairs s lists = record { each = λ name. lists name ∙ s.each name; distinct = s.distinct }

-- a pair that isn't there can be taken out
pub Stands-without_pair : MembersFollow → PairsStayDistinct → (index : Index) (name : List ℕ) (conn : ℕ) (pairs : List Pair)
    → holds index.names.by_conn conn name ≡ false → StandsIndex index pairs → StandsIndex index (without_pair (name, conn) pairs)
Stands-without_pair follow stay index name conn pairs out s = record {
  each = λ other. s.each other ∙ sym (follow.left name conn pairs other ∙ by other (same_text name other) refl);
  distinct = stay.left (name, conn) pairs s.distinct;
}
  where
    by : (other : List ℕ) (b : Bool) → same_text name other ≡ b
        → (if b then others_than conn (members other pairs) else members other pairs) ≡ members other pairs
    by other true e = others_than-absent conn (members other pairs)
        (ap (is_among conn) (sym (s.each other)) ∙ sym (index.agree conn other)
        ∙ ap (λ n. holds index.names.by_conn conn n) (sym ((bytes_eq-Decides name other).0 e)) ∙ out)
    by other false e = refl

-- so can a connection that has no pair
pub Stands-without : MembersFollow → PairsStayDistinct → (index : Index) (conn : ℕ) (pairs : List Pair)
    → ((name : List ℕ) → holds index.names.by_conn conn name ≡ false) → StandsIndex index pairs → StandsIndex index (without conn pairs)
Stands-without follow stay index conn pairs out s = record {
  each = λ other. s.each other ∙ sym (follow.all_left conn pairs other ∙ others_than-absent conn (members other pairs)
      (ap (is_among conn) (sym (s.each other)) ∙ sym (index.agree conn other) ∙ out other));
  distinct = stay.all_left conn pairs s.distinct;
}

-- and one that left every name
pub Stands-gone : MembersFollow → PairsStayDistinct → (old new : Index) (conn : ℕ) (pairs : List Pair)
    → LeftAll old.members.by_name new.members.by_name conn → StandsIndex old pairs → StandsIndex new (without conn pairs)
Stands-gone follow stay old new conn pairs left s = record {
  each = λ other. left other ∙ ap (others_than conn) (s.each other) ∙ sym (follow.all_left conn pairs other);
  distinct = stay.all_left conn pairs s.distinct;
}
