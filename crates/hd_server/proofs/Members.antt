-- The pairs of a registry are distinct, so each member of a name is told a deed once.
use Rattle.std.proofs.Common.{refl, ap, subst, sym, ◌≡◌, ℕ, Bool, true, false, cond, List, [], ◌∷◌, ◌||◌, filter, map, ◌≤◌, if◌then◌else◌, nat_eq, true≢false, arith}
use Rattle.std.specs.Prelude.{Some}
use Rattle.std.specs.List.{IsDistinct}
use Rattle.hv_value.specs.Tree.{Tree}
use Rattle.hd_calls.specs.declared.vocabulary.Deed.TheVariants.{Join, Leave, Post, Tell}
use Rattle.hd_rooms.specs.Registry.{Pair, same_pair, has, members, with_pair, with_member, may_join, count_of, most_groups, AreDistinct}
use Rattle.hd_rooms.specs.RegistryLaws.{PairsStayDistinct, GroupsAreBounded}
use Rattle.hd_server.specs.Machine.{MachineEvent, Connects, Carries, DeliveryOutcome, joined, user_pairs, of_open, is_open, registry, fate_at, fates_among, settings_of, moves}
use Rattle.hd_server.specs.Laws.{EachMemberOnce, GroupsAreFew}

-- a pair that isn't there isn't there among fewer
has-filter : (p : Pair) (test : Pair → Bool) (pairs : List Pair) → has p pairs ≡ false → has p (filter test pairs) ≡ false
has-filter p test [] out = refl
has-filter p test (q ∷ pairs) out = by (test q) (same_pair p q) refl out (has-filter p test pairs)
  where
    by : (b s : Bool) → same_pair p q ≡ s → (s || has p pairs) ≡ false → (has p pairs ≡ false → has p (filter test pairs) ≡ false)
        → has p (cond b (q ∷ filter test pairs) (filter test pairs)) ≡ false
    by b true e out' h = absurd (true≢false out')
    by true false e out' h = rw e (h out')
    by false false e out' h = h out'

distinct-filter : (test : Pair → Bool) (pairs : List Pair) → AreDistinct pairs → AreDistinct (filter test pairs)
distinct-filter test [] d = tt
distinct-filter test (q ∷ pairs) d = by (test q) (distinct-filter test pairs d.1)
  where
    by : (b : Bool) → AreDistinct (filter test pairs) → AreDistinct (cond b (q ∷ filter test pairs) (filter test pairs))
    by true h = (has-filter q test pairs d.0, h)
    by false h = h

told : (f : ℕ → DeliveryOutcome) (cs : List ℕ) → map (λ (x : ℕ × DeliveryOutcome). x.0) (map (λ c. (c, f c)) cs) ≡ cs
told f [] = refl
told f (c ∷ cs) = ap (λ ks. c ∷ ks) (told f cs)

module _ (law : PairsStayDistinct) where
  member_distinct : (p : Pair) (pairs : List Pair) → AreDistinct pairs → AreDistinct (with_member p pairs)
  member_distinct p pairs d = by (may_join p pairs)
    where
      by : (b : Bool) → AreDistinct (if b then with_pair p pairs else pairs)
      by true = law.joined p pairs d
      by false = d

  joined_distinct : (h : List MachineEvent) → AreDistinct (joined h)
  joined_distinct [] = tt
  joined_distinct (Carries c j (Join group) fates asked ∷ h) = member_distinct (group, c) (joined h) (joined_distinct h)
  joined_distinct (Carries c j (Leave group) fates asked ∷ h) = law.left (group, c) (joined h) (joined_distinct h)
  joined_distinct (x ∷ h) = joined_distinct h

  users_distinct : (h : List MachineEvent) → AreDistinct (user_pairs h)
  users_distinct [] = tt
  users_distinct (Connects c t (Some user) ∷ h) = law.joined (user, c) (user_pairs h) (users_distinct h)
  users_distinct (x ∷ h) = users_distinct h

  -- each of these is told once
  each : (cs target : List ℕ) (arguments : List Tree) (h : List MachineEvent) → IsDistinct nat_eq cs
      → IsDistinct nat_eq (map (λ (x : ℕ × DeliveryOutcome). x.0) (fates_among cs target arguments h))
  each cs target arguments h d =
      subst (λ xs. IsDistinct nat_eq xs) (sym (told (λ c. fate_at (settings_of c h) (moves c h) target arguments) cs)) d

  pub each_member_once : EachMemberOnce
  unfolding IsDistinct
  each_member_once (Post group target arguments) h =
      each (members group (registry h).groups) target arguments h
      (law.once group (of_open h (joined h)) (distinct-filter (λ p. is_open p.1 h) (joined h) (joined_distinct h)))
  each_member_once (Tell user target arguments) h =
      each (members user (registry h).users) target arguments h
      (law.once user (of_open h (user_pairs h)) (distinct-filter (λ p. is_open p.1 h) (user_pairs h) (users_distinct h)))
  each_member_once (Join group) h = tt
  each_member_once d h = tt

-- ---- how many groups a connection has

module _ (law : GroupsAreBounded) where
  joined_few : (c : ℕ) (h : List MachineEvent) → count_of c (joined h) ≤ most_groups
  joined_few c [] = omega arith
  joined_few c (Carries k j (Join group) fates asked ∷ h) = law.joined (group, k) (joined h) c (joined_few c h)
  joined_few c (Carries k j (Leave group) fates asked ∷ h) =
      let fewer : count_of c (joined (Carries k j (Leave group) fates asked ∷ h)) ≤ count_of c (joined h) = law.fewer _ (joined h) c in
      omega (arith, fewer, joined_few c h)
  joined_few c (x ∷ h) = joined_few c h

  pub groups_few : GroupsAreFew
  groups_few c h =
      let fewer : count_of c (registry h).groups ≤ count_of c (joined h) = law.fewer (λ p. is_open p.1 h) (joined h) c in
      omega (arith, fewer, joined_few c h)
