-- The list of those that are awake, as connections come and go: what is in it, and that it has room for each.
use Rattle.std.proofs.Common.{◌≡◌, ℕ, ◌==◌, ◌<◌, ◌≤◌, ◌+◌, Bool, true, false, not, ◌&&◌, ◌||◌, List, [], ◌∷◌, length, Option, Some, None, is_some}
use Rattle.std.proofs.Common.{refl, sym, ap, subst, ◌∙◌, arith, inl, inr, IsSome}
use Rattle.std.specs.Prelude.{if◌then◌else◌}
use Rattle.std.proofs.lemmas.Bool.{eqb-true, eq-eqb, cond-true, cond-false, or_cases, or_left, or_right, both_ways, false_from_ne_true}
use Rattle.std.specs.Ordering.{nat_cmp, eq_by_cmp}
use Rattle.std.specs.List.{list_any, AllByRecursion, IsDistinct}
use Rattle.std.specs.BTreeMap.{btree_map_len, get, Updates}
use Rattle.std.specs.BTreeSet.{contains}
use Rattle.std.specs.Vec.{vec_capacity}
use Rattle.std.proofs.lemmas.Cmp.{nat_cmp_total, eq_by_cmp_equiv}
use Rattle.std.proofs.lemmas.Map.Steps.{length-le_from_keys}
use Rattle.hv_value.specs.SortedSet.{HasPlace, IsRising, is_in}
use Rattle.hd_calls.specs.Hubs.{Hub}
use Rattle.hd_calls.specs.Peers.{PeerEvent, Settings}
use Rattle.hp_peer.specs.declared.peer.Peer.{Peer}
use Rattle.hub_machine.specs.declared.machine.Machine.{Machine}
use Rattle.hub_machine.specs.declared.idle_set.IdleClock.{IdleClock}
use Rattle.hub_machine.specs.declared.idle_set.IdlePeer.{IdlePeer}
use Rattle.hub_machine.specs.declared.idle_set.IdleSet.{IdleSet}
use Rattle.hub_machine.specs.Machines.{IsIndexed, IsKeptAs, is_awake_at, idle_peer_at, peer_at}
use Rattle.hub_machine.specs.IdleSet.{Changes, IsKept, deadline_in, in_order, is_awake_in, idle_peer_of}
use Rattle.hub_machine.proofs.Doing.{PutsPeer}
use Rattle.hub_machine.proofs.Ends as ends

-- ---- the index

-- whether one is awake, by what it is made of
awake_by : (p q n o : Bool) → p ≡ q → n ≡ o → (p && not n) ≡ (q && not o)
awake_by p q n o e f = ap (λ b. b && not n) e ∙ ap (λ b. q && not b) f

module _ {H Job : Type 0} (old new : Machine H Job) (c : ℕ) (idle_peer : Option IdlePeer) (is_awake : Bool) (index : IsIndexed {H = H} old)
    (changes : Changes old.idle_set new.idle_set c idle_peer is_awake) where
  -- one connection changed, and its peer may have come or gone
  index_by : ((k : ℕ) → (c == k) ≡ false → is_some (peer_at new k) ≡ is_some (peer_at old k))
      → is_awake ≡ (is_some (peer_at new c) && not (is_some idle_peer)) → btree_map_len new.peers ≤ vec_capacity new.idle_set.awake.numbers
      → IsIndexed {H = H} new
  index_by others own room = record {
    kept = changes.kept;
    awake = λ k. go k (c == k) refl;
    room = room;
  }
    where
      idle_peers : (k : ℕ) (b : Bool) → (c == k) ≡ b → idle_peer_at new k ≡ (if b then idle_peer else idle_peer_at old k)
      idle_peers k b e = changes.idle_peers k ∙ ap (λ x. if x then idle_peer else idle_peer_at old k) e

      here : is_awake_in new.idle_set c ≡ is_awake_at new c
      here =
          changes.awake c ∙ cond-true (c == c) is_awake (is_awake_in old.idle_set c) (eq-eqb c c refl) ∙ own
          ∙ ap (λ o. is_some (peer_at new c) && not (is_some o)) (sym (idle_peers c true (eq-eqb c c refl)))

      go : (k : ℕ) (b : Bool) → (c == k) ≡ b → is_awake_in new.idle_set k ≡ is_awake_at new k
      go k true e = subst (λ n. is_awake_in new.idle_set n ≡ is_awake_at new n) (eqb-true c k e) here
      go k false e =
          changes.awake k ∙ cond-false (c == k) is_awake (is_awake_in old.idle_set k) e ∙ index.awake k
          ∙ sym (awake_by (is_some (peer_at new k)) (is_some (peer_at old k)) (is_some (idle_peer_at new k)) (is_some (idle_peer_at old k))
          (others k e) (ap is_some (idle_peers k false e)))

  -- it fell asleep or woke, or stayed as it was
  pub index_changed : btree_map_len new.peers ≡ btree_map_len old.peers → ((k : ℕ) → is_some (peer_at new k) ≡ is_some (peer_at old k))
      → is_awake ≡ (is_some (peer_at new c) && not (is_some idle_peer)) → IsIndexed {H = H} new
  index_changed len there own = index_by (λ k e. there k) own (let r = index.room in let l = changes.capacity in omega (arith, len, r, l))

-- it has gone
pub index_gone : {H Job : Type 0} (old new : Machine H Job) (c : ℕ) → IsIndexed {H = H} old → Changes old.idle_set new.idle_set c None false
    → Updates nat_cmp old.peers new.peers c None → btree_map_len new.peers ≤ btree_map_len old.peers → IsIndexed {H = H} new
index_gone {H} {Job} old new c index changes updates len =
    index_by {H = H} {Job = Job} old new c None false index changes (λ k e. ap is_some (updates.2 k (ends.apart c k e)))
    (sym (ap (λ p. is_some p && true) updates.1)) (let r = index.room in let l = changes.capacity in omega (arith, len, r, l))

-- it has come, and is awake
pub index_new : {H Job : Type 0} (old new : Machine H Job) (c : ℕ) (p : Peer H Job) → IsIndexed {H = H} old
    → Changes old.idle_set new.idle_set c None true → PutsPeer {H = H} old new c p
    → btree_map_len new.peers ≤ vec_capacity new.idle_set.awake.numbers → IsIndexed {H = H} new
index_new {H} {Job} old new c p index changes puts room =
    index_by {H = H} {Job = Job} old new c None true index changes (λ k e. ap is_some (puts.others k e))
    (sym (ap (λ q. is_some q && true) puts.at)) room

-- ---- how each is kept

pub kept_by : {H Job : Type 0} (hub : Hub Job) (a b : IdleClock) (n o : Option IdlePeer) (p q : Option (Peer H Job)) (t : Option Settings) (h : List PeerEvent)
    → b ≡ a → o ≡ n → q ≡ p → IsKeptAs {H = H} hub a n t h p → IsKeptAs {H = H} hub b o t h q
kept_by {H} hub a b n o p q t h e f g k =
    subst (λ x. IsKeptAs {H = H} hub x o t h q) (sym e)
    (subst (λ x. IsKeptAs {H = H} hub a x t h q) (sym f) (subst (λ x. IsKeptAs {H = H} hub a n t h x) (sym g) k))

-- one is kept in the new way, and the others as they were
pub each_kept : {H Job : Type 0} (hub : Hub Job) (old new : Machine H Job) (c : ℕ) (q : Option (Peer H Job)) (idle_peer : Option IdlePeer) (up : Bool)
    → Changes old.idle_set new.idle_set c idle_peer up → peer_at new c ≡ q → ((k : ℕ) → (c == k) ≡ false → peer_at new k ≡ peer_at old k)
    → (t : ℕ → Option Settings) (h : ℕ → List PeerEvent)
    → ((k : ℕ) → (c == k) ≡ false → IsKeptAs {H = H} hub old.idle_set.clock (idle_peer_at old k) (t k) (h k) (peer_at old k))
    → IsKeptAs {H = H} hub old.idle_set.clock idle_peer (t c) (h c) q
    → (k : ℕ) → IsKeptAs {H = H} hub new.idle_set.clock (idle_peer_at new k) (t k) (h k) (peer_at new k)
each_kept {H} {Job} hub old new c q idle_peer up changes at others t h were here k = go (c == k) refl
  where
    idle_peers : (b : Bool) → (c == k) ≡ b → idle_peer_at new k ≡ (if b then idle_peer else idle_peer_at old k)
    idle_peers b e = changes.idle_peers k ∙ ap (λ x. if x then idle_peer else idle_peer_at old k) e

    go : (b : Bool) → (c == k) ≡ b → IsKeptAs {H = H} hub new.idle_set.clock (idle_peer_at new k) (t k) (h k) (peer_at new k)
    go true e =
        kept_by {H = H} {Job = Job} hub old.idle_set.clock new.idle_set.clock idle_peer (idle_peer_at new k) q (peer_at new k) (t k) (h k)
        changes.clock (idle_peers true e)
        (subst (λ n. peer_at new n ≡ q) (eqb-true c k e) at)
        (subst (λ n. IsKeptAs {H = H} hub old.idle_set.clock idle_peer (t n) (h n) q) (eqb-true c k e) here)
    go false e =
        kept_by {H = H} {Job = Job} hub old.idle_set.clock new.idle_set.clock (idle_peer_at old k) (idle_peer_at new k) (peer_at old k) (peer_at new k) (t k) (h k)
        changes.clock (idle_peers false e) (others k e) (were k e)

-- ---- how many are awake

-- the order of numbers finds a number in a list exactly if it is in it
any_is : (n : ℕ) (xs : List ℕ) → list_any (eq_by_cmp nat_cmp n) xs ≡ true → is_in n xs ≡ true
any_is n [] e = e
any_is n (x ∷ xs) e = go (n == x) refl (any_is n xs)
  where
    go : (b : Bool) → (n == x) ≡ b → (list_any (eq_by_cmp nat_cmp n) xs ≡ true → is_in n xs ≡ true) → (b || is_in n xs) ≡ true
    go true f later = refl
    go false f later = later (sym (ap (λ b. b || list_any (eq_by_cmp nat_cmp n) xs) (ends.apart n x f)) ∙ e)

-- numbers above one are apart from it
below_all : (n : ℕ) (xs : List ℕ) → ((k : ℕ) → is_in k xs ≡ true → (n == k) ≡ false) → AllByRecursion (λ y. eq_by_cmp nat_cmp n y ≡ false) xs
below_all n [] f = tt
below_all n (x ∷ xs) f = (
  ends.apart n x (f x (or_left (x == x) (is_in x xs) (eq-eqb x x refl))),
  below_all n xs (λ k e. f k (or_right (k == x) (is_in k xs) e)),
)

-- rising numbers are distinct
distinct : (xs : List ℕ) → IsRising xs → IsDistinct (eq_by_cmp nat_cmp) xs
unfolding IsDistinct
distinct [] r = tt
distinct (x ∷ xs) r = (
  below_all x xs (λ k e. false_from_ne_true (x == k) (λ f. let l : x < k = r.0 k e in let same : x ≡ k = eqb-true x k f in omega (arith, l, same))),
  distinct xs r.1,
)

-- one that isn't in a list is distinct from all that are
distinct_more : (c : ℕ) (xs : List ℕ) → is_in c xs ≡ false → IsRising xs → IsDistinct (eq_by_cmp nat_cmp) (c ∷ xs)
unfolding IsDistinct
distinct_more c xs e r = (
  below_all c xs (λ k f. false_from_ne_true (c == k) (λ g. both_ways (is_in c xs) e (ap (λ n. is_in n xs) (eqb-true c k g) ∙ f))),
  distinct xs r,
)

module _ {H Job : Type 0} (m : Machine H Job) (index : IsIndexed {H = H} m) where
  abbrev listed : List ℕ
  listed = m.idle_set.awake.numbers.items

  -- one that is awake has a peer
  has_peer : (k : ℕ) → list_any (eq_by_cmp nat_cmp k) listed ≡ true → IsSome (peer_at m k)
  has_peer k e = go (peer_at m k) (sym (index.awake k) ∙ any_is k listed e)
    where
      go : (o : Option (Peer H Job)) → (is_some o && not (is_some (idle_peer_at m k))) ≡ true → IsSome o
      go None f = absurd (let z : false ≡ true = f in cc)
      go (Some p) f = refl

  -- no more are awake than have peers
  pub has_room : length listed ≤ btree_map_len m.peers
  has_room = length-le_from_keys (eq_by_cmp_equiv nat_cmp_total) listed m.peers.entries (distinct listed index.kept.rising) has_peer

  -- one that sleeps has a place among those that are awake
  pub has_place : (c : ℕ) → is_some (peer_at m c) ≡ true → is_some (idle_peer_at m c) ≡ true → HasPlace m.idle_set.awake c
  has_place c there sleeps = inr (let l : length (c ∷ listed) ≤ btree_map_len m.peers = most in let r = index.room in omega (arith, l, r))
    where
      asleep : is_in c listed ≡ false
      asleep = index.awake c ∙ ap (λ b. is_some (peer_at m c) && not b) sleeps ∙ go (is_some (peer_at m c))
        where
          go : (b : Bool) → (b && false) ≡ false
          go true = refl
          go false = refl

      each : (k : ℕ) → list_any (eq_by_cmp nat_cmp k) (c ∷ listed) ≡ true → IsSome (peer_at m k)
      each k e = elim (or_cases (eq_by_cmp nat_cmp k c) (list_any (eq_by_cmp nat_cmp k) listed) e) [
        | inl f ↦ by (k == c) refl f
        | inr f ↦ has_peer k f
      ]
        where
          by : (b : Bool) → (k == c) ≡ b → eq_by_cmp nat_cmp k c ≡ true → IsSome (peer_at m k)
          by true f g = subst (λ n. is_some (peer_at m n) ≡ true) (sym (eqb-true k c f)) there
          by false f g = absurd (both_ways (eq_by_cmp nat_cmp k c) (ends.apart k c f) g)

      most : length (c ∷ listed) ≤ btree_map_len m.peers
      most = length-le_from_keys (eq_by_cmp_equiv nat_cmp_total) (c ∷ listed) m.peers.entries (distinct_more c listed asleep index.kept.rising) each

-- ---- one more

-- room was taken for one more than the connections that were there, and then this one was added
pub record AddsOne (old taken new : IdleSet) (count now c : ℕ) : Type 0 where
  pub same : (taken.awake.numbers.items ≡ old.awake.numbers.items) × (taken.idle_peers ≡ old.idle_peers) × (taken.deadlines ≡ old.deadlines) × (taken.clock ≡ old.clock)
  pub capacity : vec_capacity old.awake.numbers ≤ vec_capacity taken.awake.numbers
  pub room : count + 1 ≤ vec_capacity taken.awake.numbers
  pub adds : IsKept taken → HasPlace taken.awake c → idle_peer_of taken c ≡ None → Changes taken new c None true
  pub most : now ≤ count + 1

module _ (old taken new : IdleSet) (count now c : ℕ) (adds : AddsOne old taken new count now c) (kept : IsKept old)
    (few : length old.awake.numbers.items ≤ count) (awake : idle_peer_of old c ≡ None) where
  taken_kept : IsKept taken
  taken_kept = record {
    rising = subst (λ ns. IsRising ns) (sym adds.same.0) kept.rising;
    set = λ k moment e. ap (λ s. contains in_order s (record { moment = moment; conn = k })) adds.same.2
        ∙ kept.set k moment (sym (ap (λ ns. deadline_in (get nat_cmp ns k)) adds.same.1) ∙ e);
    only = λ k moment e. ap (λ ns. deadline_in (get nat_cmp ns k)) adds.same.1
        ∙ kept.only k moment (sym (ap (λ s. contains in_order s (record { moment = moment; conn = k })) adds.same.2) ∙ e);
  }

  added : Changes taken new c None true
  added = adds.adds taken_kept
      (inr (let l : length taken.awake.numbers.items ≡ length old.awake.numbers.items = ap length adds.same.0 in
      let r = adds.room in omega (arith, l, few, r)))
      (ap (λ ns. get nat_cmp ns c) adds.same.1 ∙ awake)

  pub one_more : Changes old new c None true
  one_more = record {
    kept = added.kept;
    idle_peers = λ k. added.idle_peers k ∙ ap (λ ns. if c == k then None else get nat_cmp ns k) adds.same.1;
    awake = λ k. added.awake k ∙ ap (λ ns. if c == k then true else is_in k ns) adds.same.0;
    clock = added.clock ∙ adds.same.3;
    capacity = let l = adds.capacity in let r = added.capacity in omega (arith, l, r);
  }

  pub room_for_all : now ≤ vec_capacity new.awake.numbers
  room_for_all = let l = adds.room in let r = added.capacity in let n = adds.most in omega (arith, l, r, n)
