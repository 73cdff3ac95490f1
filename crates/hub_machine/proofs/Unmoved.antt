-- A round begins: no peer makes a step, so all that isn't a matter of jobs stays as it was.
use Rattle.std.proofs.Common.{◌≡◌, ◌⊎◌, inl, inr, ℕ, ◌+◌, ◌<◌, ◌≤◌, ◌==◌, Bool, true, false, not, ◌&&◌, List, [], ◌∷◌, length, get_or}
use Rattle.std.proofs.Common.{Option, Some, None, is_some, refl, sym, ap, subst, ◌∙◌, true≢false, arith}
use Rattle.std.specs.Prelude.{if◌then◌else◌}
use Rattle.std.specs.BTreeMap.{btree_map_len}
use Rattle.std.proofs.lemmas.Bool.{and_right, cases_lt, eqb-false, ne_eqb}
use Rattle.hd_calls.specs.Hubs.{Hub}
use Rattle.hd_calls.specs.Peers.{PeerEvent, Settings}
use Rattle.hd_calls.specs.Peers as peers
use Rattle.hd_calls.specs.Rules.{IsPeer}
use Rattle.hg_groups.specs.Standing.{StandsRegistry}
use Rattle.hd_server.specs.Machine.{MachineEvent, Rounds, has_gone, is_open_at, is_there, moves, registry, settings_of}
use Rattle.hp_peer.specs.declared.peer.Peer.{Peer}
use Rattle.hub_machine.specs.declared.machine.Machine.{Machine}
use Rattle.hub_machine.specs.declared.idle_set.IdleClock.{IdleClock}
use Rattle.hub_machine.specs.declared.idle_set.IdlePeer.{IdlePeer}
use Rattle.hub_machine.specs.declared.idle_set.IdleSet.{IdleSet}
use Rattle.hub_machine.specs.Machines.{IsIndexed, IsKeptAs, SaysAsSent, StandsMachine, idle_peer_at, peer_at, settings_there}
use Rattle.hub_machine.specs.Rounds.{AreNumbers, AreRising, HasBegun}
use Rattle.hub_machine.specs.IdleSet.{after_round, idle_peer_of, one_round_more}
use Rattle.hub_machine.specs.Spreads.{is_listed}
use Rattle.hub_machine.proofs.Delivered.{not_at}
use Rattle.hub_machine.proofs.Doing.{KeepsIdleSet, index_stays}
use Rattle.hub_machine.proofs.Idling.{sleeps_on}
use Rattle.hub_machine.proofs.Lags.{kept_is_peer, kept_says}
use Rattle.hub_machine.proofs.Numbers.{listed_at, rising_at}
use Rattle.hub_machine.proofs.Open.{registry_agrees}

-- an end is open exactly if it was
open_same : (g b : Bool) (s : Option Settings) (h : List PeerEvent)
    → (not g && is_open_at s (if b then peers.Rounds ∷ h else h)) ≡ (not g && is_open_at s h)
open_same g b None h = refl
open_same g true (Some t) h = refl
open_same g false (Some t) h = refl

-- nothing was done by a stranger
unmoved_still : (s : Option Settings) (b : Bool) (h : List PeerEvent) → s ≡ None → h ≡ []
    → (if is_some s && b then peers.Rounds ∷ h else h) ≡ []
unmoved_still None b h e f = f
unmoved_still (Some t) b h e f = absurd (true≢false (ap is_some e))

-- a round has begun at the peer of one that is awake, and that of one that sleeps is as it was
abbrev pub HasBegunAs : {H Job : Type 0} → Hub Job → Option IdlePeer → Option (Peer H Job) → Option (Peer H Job) → Type 0
HasBegunAs hub None p q = HasBegun hub p q
HasBegunAs hub (Some idle_peer) p q = q ≡ p

-- one that is there is kept as it was, for the round too
pub kept_at : {H Job : Type 0} (hub : Hub Job) (clock : IdleClock) (idle_peer : Option IdlePeer) (g : Bool) (s : Option Settings) (p q : Option (Peer H Job))
    (h : List PeerEvent) → IsKeptAs {H = H} hub clock idle_peer (if g then None else s) h p → HasBegunAs {H = H} hub idle_peer p q
    → IsKeptAs {H = H} hub (after_round clock) idle_peer (if g then None else s) (if is_some s && not g then peers.Rounds ∷ h else h) q
kept_at hub clock None true s None None h a b = tt
kept_at hub clock None true s None (Some q) h a b = absurd b
kept_at hub clock None true s (Some p) q h a b = absurd a
kept_at hub clock None false None None None h a b = tt
kept_at hub clock None false None None (Some q) h a b = absurd b
kept_at hub clock None false None (Some p) q h a b = absurd a
kept_at hub clock None false (Some t) None q h a b = absurd a
kept_at hub clock None false (Some t) (Some p) None h a b = absurd b
kept_at hub clock None false (Some t) (Some p) (Some q) h a b = b t h a
kept_at hub clock (Some idle_peer) true s p q h a b = absurd a
kept_at hub clock (Some idle_peer) false None p q h a b = absurd a
kept_at hub clock (Some idle_peer) false (Some t) None q h a b = absurd a
kept_at {H} {Job} hub clock (Some idle_peer) false (Some t) (Some p) q h a b =
    subst (λ o. IsKeptAs {H = H} hub (after_round clock) (Some idle_peer) (Some t) (peers.Rounds ∷ h) o) (sym b) (sleeps_on {H = H} {Job = Job} hub clock idle_peer t p h a)

-- so what it did is what a peer can do
peers_at : {H Job : Type 0} (hub : Hub Job) (clock : IdleClock) (idle_peer : Option IdlePeer) (t : Settings) (g : Bool) (s : Option Settings) (q : Option (Peer H Job))
    (h : List PeerEvent) → s ≡ Some t → IsKeptAs {H = H} hub clock idle_peer (if g then None else s) (if is_some s && not g then peers.Rounds ∷ h else h) q
    → IsPeer hub t h → IsPeer hub t (if is_some s && not g then peers.Rounds ∷ h else h)
peers_at hub clock idle_peer t true None q h e a o = o
peers_at hub clock idle_peer t true (Some u) q h e a o = o
peers_at hub clock idle_peer t false None q h e a o = o
peers_at {H} {Job} hub clock idle_peer t false (Some u) q h e a o =
    kept_is_peer {H = H} {Job = Job} hub clock idle_peer t (peers.Rounds ∷ h) q
    (subst (λ (s : Option Settings). IsKeptAs {H = H} hub clock idle_peer s (peers.Rounds ∷ h) q) e a)

-- and what it sent is said
says_at : {H Job : Type 0} (hub : Hub Job) (clock : IdleClock) (idle_peer : Option IdlePeer) (t : Settings) (g : Bool) (s : Option Settings) (q : Option (Peer H Job))
    (h : List PeerEvent) → s ≡ Some t → IsKeptAs {H = H} hub clock idle_peer (if g then None else s) (if is_some s && not g then peers.Rounds ∷ h else h) q
    → SaysAsSent t h → SaysAsSent t (if is_some s && not g then peers.Rounds ∷ h else h)
says_at hub clock idle_peer t true None q h e a o = o
says_at hub clock idle_peer t true (Some u) q h e a o = o
says_at hub clock idle_peer t false None q h e a o = o
says_at {H} {Job} hub clock idle_peer t false (Some u) q h e a o =
    kept_says {H = H} {Job = Job} hub clock idle_peer t (peers.Rounds ∷ h) q
    (subst (λ (s : Option Settings). IsKeptAs {H = H} hub clock idle_peer s (peers.Rounds ∷ h) q) e a)

-- a round has begun at each peer of those that are awake, and the others, the registry and the sleepers are as they were
pub record RoundBegan {H Job : Type 0} (hub : Hub Job) (old new : Machine H Job) : Type 0 where
  pub each : (c : ℕ) → HasBegunAs hub (idle_peer_at old c) (peer_at old c) (peer_at new c)
  pub keeps : KeepsIdleSet old new
  pub registry : new.registry ≡ old.registry

-- and the round is counted
abbrev pub counted : {H Job : Type 0} → Machine H Job → Machine H Job
counted m = record m { idle_set = record m.idle_set { clock = after_round m.idle_set.clock } }

index_counted : {H Job : Type 0} (m : Machine H Job) → IsIndexed {H = H} m → IsIndexed {H = H} (counted {H = H} {Job = Job} m)
index_counted m index = record {
  kept = record { rising = index.kept.rising; set = index.kept.set; only = index.kept.only };
  awake = index.awake;
  room = index.room;
}

pub rounds_stand : {H Job : Type 0} (hub : Hub Job) (old new : Machine H Job) (w : List MachineEvent) (now : ℕ)
    → StandsMachine hub old w → RoundBegan hub old new → StandsMachine hub (counted {H = H} {Job = Job} new) (Rounds now ∷ w)
rounds_stand {H} {Job} hub old new w now was began = record {
  at = at;
  index = index_counted {H = H} {Job = Job} new (index_stays old new began.keeps was.index);
  rounds = ap (λ (i : IdleSet). one_round_more i.clock.rounds) began.keeps.idle_set ∙ ap (λ n. one_round_more n) was.rounds;
  registry = subst (λ r. StandsRegistry r (registry (Rounds now ∷ w))) (sym began.registry)
      (subst (StandsRegistry old.registry) (sym same) was.registry);
  peers = λ c t e. peers_at {H = H} hub (after_round new.idle_set.clock) (idle_peer_at new c) t (has_gone c w) (settings_of c w) (peer_at new c) (moves c w) e
      (at c) (was.peers c t e);
  said = λ c t e. says_at {H = H} {Job = Job} hub (after_round new.idle_set.clock) (idle_peer_at new c) t (has_gone c w) (settings_of c w) (peer_at new c) (moves c w) e (at c)
      (was.said c t e);
  strangers = λ c e. let s = was.strangers c e in record {
    unknown = s.unknown;
    unmoved = unmoved_still (settings_of c w) (not (has_gone c w)) (moves c w) e s.unmoved;
    in_no_group = s.in_no_group;
  };
  from_one = was.from_one;
}
  where
    at : (c : ℕ)
        → IsKeptAs {H = H} hub (after_round new.idle_set.clock) (idle_peer_at new c) (settings_there c (Rounds now ∷ w)) (moves c (Rounds now ∷ w))
        (peer_at new c)
    at c =
        subst (λ n. IsKeptAs {H = H} hub (after_round n.clock) (idle_peer_of n c) (settings_there c (Rounds now ∷ w)) (moves c (Rounds now ∷ w)) (peer_at new c))
        (sym began.keeps.idle_set)
        (kept_at {H = H} {Job = Job} hub old.idle_set.clock (idle_peer_at old c) (has_gone c w) (settings_of c w) (peer_at old c) (peer_at new c) (moves c w)
        (was.at c) (began.each c))

    same : registry (Rounds now ∷ w) ≡ registry w
    same = registry_agrees w (Rounds now ∷ w) refl refl (λ k. open_same (has_gone k w) (is_there k w) (settings_of k w) (moves k w))

-- ---- one peer after another

-- a round has begun at the first of these connections, and at no other
pub record BegunSoFar {H Job : Type 0} (hub : Hub Job) (old now : Machine H Job) (conns : List ℕ) (i : ℕ) : Type 0 where
  pub done : AreRising conns → (k : ℕ) → k < i → HasBegun hub (peer_at old (get_or conns k 0)) (peer_at now (get_or conns k 0))
  pub left : (c : ℕ) → ((k : ℕ) → k < i → c ≡ get_or conns k 0 → ⊥) → peer_at now c ≡ peer_at old c
  pub kept : now.registry ≡ old.registry
  pub idle_set : now.idle_set ≡ old.idle_set
  pub count : btree_map_len now.peers ≡ btree_map_len old.peers
  pub within : i ≤ length conns

pub begun_nowhere : {H Job : Type 0} (hub : Hub Job) (m : Machine H Job) (conns : List ℕ) → BegunSoFar hub m m conns 0
begun_nowhere hub m conns = record {
  done = λ r k before. absurd (omega (arith, before));
  left = λ c none. refl;
  kept = refl;
  idle_set = refl;
  count = refl;
  within = omega arith;
}

-- and now at the next
pub begun_at : {H Job : Type 0} (hub : Hub Job) (old now new : Machine H Job) (conns : List ℕ) (i : ℕ) → i < length conns
    → BegunSoFar hub old now conns i → HasBegun hub (peer_at now (get_or conns i 0)) (peer_at new (get_or conns i 0))
    → ((k : ℕ) → (get_or conns i 0 == k) ≡ false → peer_at new k ≡ peer_at now k) → new.registry ≡ now.registry
    → new.idle_set ≡ now.idle_set → btree_map_len new.peers ≡ btree_map_len now.peers
    → BegunSoFar hub old new conns (i + 1)
begun_at {H} {Job} hub old now new conns i next so_far begun others kept idle_set count = record {
  done = λ r k before. here r k (cases_lt k i) before;
  left = λ c none. others c (ne_eqb (get_or conns i 0) c (λ e. none i (omega arith) (sym e)))
      ∙ so_far.left c (λ k before. none k (omega (arith, before)));
  kept = kept ∙ so_far.kept;
  idle_set = idle_set ∙ so_far.idle_set;
  count = count ∙ so_far.count;
  within = omega (arith, next);
}
  where
    earlier : AreRising conns → (k : ℕ) → k < i → (get_or conns i 0 == get_or conns k 0) ≡ false
    earlier r k before = ne_eqb (get_or conns i 0) (get_or conns k 0) (λ e. let less = rising_at conns r k i before next in omega (arith, e, less))

    here : AreRising conns → (k : ℕ) → (k < i) ⊎ (i ≤ k) → k < i + 1 → HasBegun hub (peer_at old (get_or conns k 0)) (peer_at new (get_or conns k 0))
    here r k (inl before) past = subst (λ (p : Option (Peer H Job)). HasBegun hub (peer_at old (get_or conns k 0)) p)
        (sym (others (get_or conns k 0) (earlier r k before))) (so_far.done r k before)
    here r k (inr from) past =
        subst (λ (n : ℕ). HasBegun hub (peer_at old (get_or conns n 0)) (peer_at new (get_or conns n 0))) (omega (arith, from, past))
        (subst (λ (p : Option (Peer H Job)). HasBegun hub p (peer_at new (get_or conns i 0)))
        (so_far.left (get_or conns i 0) (λ k before e. eqb-false (get_or conns i 0) (get_or conns k 0) (earlier r k before) e)) begun)

-- there is a peer if and only if there was one
still_there : {H Job : Type 0} (hub : Hub Job) (p q : Option (Peer H Job)) → HasBegun hub p q → is_some q ≡ is_some p
still_there hub None None b = refl
still_there hub None (Some q) b = absurd b
still_there hub (Some p) None b = absurd b
still_there hub (Some p) (Some q) b = refl

-- and in the end at each that is awake
pub begun_everywhere : {H Job : Type 0} (hub : Hub Job) (old new : Machine H Job) (conns : List ℕ) (i : ℕ) → length conns ≤ i
    → BegunSoFar hub old new conns i → AreNumbers old conns → RoundBegan hub old new
begun_everywhere {H} {Job} hub old new conns i all so_far numbers = record {
  each = λ c. by c (is_listed c conns) refl (idle_peer_at old c) refl (peer_at old c) refl;
  keeps = record { idle_set = so_far.idle_set; count = so_far.count; there = λ c. there c (is_listed c conns) refl };
  registry = so_far.kept;
}
  where
    found : (c : ℕ) → is_listed c conns ≡ true → HasBegun hub (peer_at old c) (peer_at new c)
    found c e =
        let at = listed_at c conns e in
        subst (λ (n : ℕ). HasBegun hub (peer_at old n) (peer_at new n)) (sym at.2) (so_far.done numbers.rise at.0 (omega (arith, at.1, all)))

    left : (c : ℕ) → is_listed c conns ≡ false → peer_at new c ≡ peer_at old c
    left c e = so_far.left c (λ k before. not_at c conns k (omega (arith, before, so_far.within)) e)

    there : (c : ℕ) (b : Bool) → is_listed c conns ≡ b → is_some (peer_at new c) ≡ is_some (peer_at old c)
    there c true e = still_there hub (peer_at old c) (peer_at new c) (found c e)
    there c false e = ap is_some (left c e)

    -- one that sleeps isn't listed
    unlisted : (c : ℕ) (idle_peer : IdlePeer) → idle_peer_at old c ≡ Some idle_peer → is_listed c conns ≡ true → ⊥
    unlisted c idle_peer f e =
        true≢false (sym (numbers.are c ∙ e) ∙ ap (λ o. is_some (peer_at old c) && not (is_some o)) f ∙ and_right (is_some (peer_at old c)) false refl)

    by : (c : ℕ) (b : Bool) → is_listed c conns ≡ b → (idle_peer : Option IdlePeer) → idle_peer_at old c ≡ idle_peer → (p : Option (Peer H Job)) → peer_at old c ≡ p
        → HasBegunAs hub idle_peer (peer_at old c) (peer_at new c)
    by c true e None f p g = found c e
    by c true e (Some idle_peer) f p g = absurd (unlisted c idle_peer f e)
    by c false e (Some idle_peer) f p g = left c e
    by c false e None f (Some p) g =
        absurd (true≢false (sym (ap (λ o. is_some (peer_at old c) && not (is_some o)) f ∙ ap (λ o. is_some o && true) g) ∙ numbers.are c ∙ e))
    by c false e None f None g =
        subst (λ (q : Option (Peer H Job)). HasBegun hub q (peer_at new c)) (sym g)
        (subst (λ (q : Option (Peer H Job)). HasBegun hub None q) (sym (left c e ∙ g)) tt)
