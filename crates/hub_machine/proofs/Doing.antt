-- What moves of one connection's peer change in what the machine stands for.
use Rattle.std.proofs.Common.{◌≡◌, ℕ, ◌==◌, Bool, true, false, not, ◌&&◌, List, [], ◌∷◌, ◌++◌, Option, Some, None, is_some, refl, sym, ap, subst, ◌∙◌, true≢false, arith}
use Rattle.std.specs.Prelude.{if◌then◌else◌}
use Rattle.std.specs.BTreeMap.{btree_map_len}
use Rattle.std.specs.Vec.{vec_capacity}
use Rattle.std.proofs.lemmas.Bool.{and_parts, eqb-true, eq-eqb, cond-true, cond-false, cond_both, both_ways}
use Rattle.hd_delivery.specs.declared.vocabulary.Got.TheVariants as gives
use Rattle.hd_delivery.specs.Histories.{EndEvent, Detached, Took, Failed, Silenced, Closed, Config, is_closed, is_resumable}
use Rattle.hd_delivery.specs.Bytes.{Wire, ByteStep, Bytes, Does as Step_of, in_frames}
use Rattle.hd_delivery.specs.OneHistory.{IsHistory}
use Rattle.hd_calls.specs.Hubs.{Hub}
use Rattle.hd_calls.specs.Peers.{PeerEvent, Settings, add, byte_steps, codec, is_shut, step_of}
use Rattle.hd_calls.specs.Rules.{IsPeer}
use Rattle.hd_rooms.specs.Registry.{Pair, Lists, gone, without}
use Rattle.hg_groups.specs.Standing.{StandsRegistry}
use Rattle.hd_server.specs.Machine.{MachineEvent, has_gone, is_open, is_open_at, joined, moves, registry, settings_of, user_pairs}
use Rattle.hp_peer.specs.declared.peer.Peer.{Peer}
use Rattle.hp_peer.specs.Stands.{Stands}
use Rattle.hub_machine.specs.declared.machine.Machine.{Machine}
use Rattle.hub_machine.specs.declared.idle_set.IdleClock.{IdleClock}
use Rattle.hub_machine.specs.declared.idle_set.IdlePeer.{IdlePeer}
use Rattle.hub_machine.specs.declared.idle_set.IdleSet.{IdleSet}
use Rattle.hub_machine.specs.Machines.{IsIndexed, IsKeptAs, IsPeerOf, IsStranger, SaysAsSent, StandsMachine, idle_peer_at, peer_at, settings_there}
use Rattle.hub_machine.specs.IdleSet.{IsKept, is_awake_in, idle_peer_of, rounds_begun}
use Rattle.hub_machine.specs.Calls.{doing}
use Rattle.hub_machine.proofs.Open.{registry_agrees, registry_closed}

-- ---- ends that are closed

-- an end that is closed stays so
closed_stays : (c : Config) (s : EndEvent) (h : List EndEvent) → is_closed c h ≡ true → is_closed c (s ∷ h) ≡ true
closed_stays c (Closed reason allow) h e = refl
closed_stays c (Failed fault) h e = refl
closed_stays c (Took (gives.Closed error allow)) h e = refl
closed_stays c (Detached now) h e = cond_both (is_resumable c h) (is_closed c h) true (λ b. b ≡ true) (λ f. e) (λ f. refl)
closed_stays c (Silenced now) h e = cond_both (is_resumable c h) (is_closed c h) true (λ b. b ≡ true) (λ f. e) (λ f. refl)
closed_stays c (_) h e = e

add_closed : (wire : Wire) (c : Config) (o : Option ByteStep) (s : List ByteStep)
    → is_closed c (in_frames wire c s) ≡ true → is_closed c (in_frames wire c (add o s)) ≡ true
add_closed wire c None s e = e
add_closed wire c (Some (Bytes piece)) s e = e
add_closed wire c (Some (Step_of x)) s e = closed_stays c x (in_frames wire c s) e

pub shut_stays : (t : Settings) (ms h : List PeerEvent) → is_shut t h ≡ true → is_shut t (ms ++ h) ≡ true
shut_stays t [] h e = e
shut_stays t (m ∷ ms) h e =
    add_closed t.wire t.config (step_of t (codec t (ms ++ h)) (is_shut t (ms ++ h)) m) (byte_steps t (ms ++ h)) (shut_stays t ms h e)

-- ---- peers

pub peer_is : {H Job : Type 0} (hub : Hub Job) (t : Settings) (p : Peer H Job) (h : List PeerEvent) → Stands {H = H} hub t p h → IsPeer hub t h
peer_is hub t p h s = record {
  follows = s.follows;
  prompt = s.prompt;
  is_history = subst (λ l. IsHistory l t.wire t.config (byte_steps t h)) (sym s.limits) s.end.history;
}

-- ---- what the moves leave as it was

settings_stay : (k c : ℕ) (ms : List PeerEvent) (w : List MachineEvent) → settings_of k (doing c ms w) ≡ settings_of k w
settings_stay k c [] w = refl
settings_stay k c (m ∷ ms) w = settings_stay k c ms w

gone_stay : (k c : ℕ) (ms : List PeerEvent) (w : List MachineEvent) → has_gone k (doing c ms w) ≡ has_gone k w
gone_stay k c [] w = refl
gone_stay k c (m ∷ ms) w = gone_stay k c ms w

joined_stay : (c : ℕ) (ms : List PeerEvent) (w : List MachineEvent) → joined (doing c ms w) ≡ joined w
joined_stay c [] w = refl
joined_stay c (m ∷ ms) w = joined_stay c ms w

users_stay : (c : ℕ) (ms : List PeerEvent) (w : List MachineEvent) → user_pairs (doing c ms w) ≡ user_pairs w
users_stay c [] w = refl
users_stay c (m ∷ ms) w = users_stay c ms w

pub there_stay : (k c : ℕ) (ms : List PeerEvent) (w : List MachineEvent) → settings_there k (doing c ms w) ≡ settings_there k w
there_stay k c ms w = ap (λ b. if b then None else settings_of k (doing c ms w)) (gone_stay k c ms w)
    ∙ ap (λ o. if has_gone k w then None else o) (settings_stay k c ms w)

rounds_stay : (c : ℕ) (ms : List PeerEvent) (w : List MachineEvent) → rounds_begun (doing c ms w) ≡ rounds_begun w
rounds_stay c [] w = refl
rounds_stay c (m ∷ ms) w = rounds_stay c ms w

-- its own moves come first
pub moves_done : (c : ℕ) (ms : List PeerEvent) (w : List MachineEvent) → moves c (doing c ms w) ≡ ms ++ moves c w
moves_done c [] w = refl
moves_done c (m ∷ ms) w =
    cond-true (c == c) (m ∷ moves c (doing c ms w)) (moves c (doing c ms w)) (eq-eqb c c refl) ∙ ap (λ h. m ∷ h) (moves_done c ms w)

pub apart : (c k : ℕ) → (c == k) ≡ false → (k == c) ≡ false
apart c k e = go (k == c) refl
  where
    go : (b : Bool) → (k == c) ≡ b → (k == c) ≡ false
    go true f = absurd (both_ways (c == k) e (eq-eqb c k (sym (eqb-true k c f))))
    go false f = f

pub moves_stay : (c k : ℕ) (ms : List PeerEvent) (w : List MachineEvent) → (c == k) ≡ false → moves k (doing c ms w) ≡ moves k w
moves_stay c k [] w e = refl
moves_stay c k (m ∷ ms) w e =
    cond-false (k == c) (m ∷ moves k (doing c ms w)) (moves k (doing c ms w)) (apart c k e) ∙ moves_stay c k ms w e

-- whether a connection is open, by what it is made of
pub open_by : (a b : Bool) (o q : Option Settings) (h l : List PeerEvent) → a ≡ b → o ≡ q → h ≡ l → (not a && is_open_at o h) ≡ (not b && is_open_at q l)
open_by a b o q h l e f g = ap (λ x. not x && is_open_at o h) e ∙ ap (λ x. not b && is_open_at x h) f ∙ ap (λ x. not b && is_open_at q x) g

others_open : (c k : ℕ) (ms : List PeerEvent) (w : List MachineEvent) → (c == k) ≡ false → is_open k (doing c ms w) ≡ is_open k w
others_open c k ms w e =
    open_by (has_gone k (doing c ms w)) (has_gone k w) (settings_of k (doing c ms w)) (settings_of k w) (moves k (doing c ms w)) (moves k w)
    (gone_stay k c ms w) (settings_stay k c ms w) (moves_stay c k ms w e)

-- ---- one that is there

-- it hasn't gone
pub there_is : (c : ℕ) (w : List MachineEvent) (t : Settings) → settings_there c w ≡ Some t → (has_gone c w ≡ false) × (settings_of c w ≡ Some t)
there_is c w t e = go (has_gone c w) refl
  where
    go : (b : Bool) → has_gone c w ≡ b → (has_gone c w ≡ false) × (settings_of c w ≡ Some t)
    go true f = absurd (let z : ◌≡◌ {A = Option Settings} None (Some t) = sym (cond-true (has_gone c w) None (settings_of c w) f) ∙ e in cc)
    go false f = (f, sym (cond-false (has_gone c w) None (settings_of c w) f) ∙ e)

-- whether it is open after these moves
pub open_after : (c : ℕ) (w : List MachineEvent) (t : Settings) (ms : List PeerEvent) → settings_there c w ≡ Some t
    → is_open c (doing c ms w) ≡ not (is_shut t (ms ++ moves c w))
open_after c w t ms there =
    let is = there_is c w t there in
    open_by (has_gone c (doing c ms w)) false (settings_of c (doing c ms w)) (Some t) (moves c (doing c ms w)) (ms ++ moves c w)
    (gone_stay c c ms w ∙ is.0) (settings_stay c c ms w ∙ is.1) (moves_done c ms w)

-- ---- the registry

module _ (c : ℕ) (w : List MachineEvent) (t : Settings) (ms : List PeerEvent) (there : settings_there c w ≡ Some t) where
  -- the moves close no end
  registry_same : is_shut t (ms ++ moves c w) ≡ is_shut t (moves c w) → registry (doing c ms w) ≡ registry w
  registry_same e = registry_agrees w (doing c ms w) (joined_stay c ms w) (users_stay c ms w) (λ k. go k (c == k) refl)
    where
      here : is_open c (doing c ms w) ≡ is_open c w
      here = open_after c w t ms there ∙ ap not e ∙ sym (open_after c w t [] there)

      go : (k : ℕ) (b : Bool) → (c == k) ≡ b → is_open k (doing c ms w) ≡ is_open k w
      go k true f = subst (λ n. is_open n (doing c ms w) ≡ is_open n w) (eqb-true c k f) here
      go k false f = others_open c k ms w f

  registry_open : is_shut t (ms ++ moves c w) ≡ false → registry (doing c ms w) ≡ registry w
  registry_open e = registry_same (e ∙ sym (unshut (is_shut t (moves c w)) refl))
    where
      unshut : (b : Bool) → is_shut t (moves c w) ≡ b → is_shut t (moves c w) ≡ false
      unshut true f = absurd (both_ways (is_shut t (ms ++ moves c w)) e (shut_stays t ms (moves c w) f))
      unshut false f = f

  registry_shut : is_shut t (ms ++ moves c w) ≡ true → registry (doing c ms w) ≡ gone (registry w) c
  registry_shut e = registry_closed c w (doing c ms w) (joined_stay c ms w) (users_stay c ms w)
      (open_after c w t ms there ∙ ap not e) (λ k f. others_open c k ms w f)

-- ---- the machine

-- the same connections have peers, and the same ones sleep
pub record KeepsIdleSet {H Job : Type 0} (old new : Machine H Job) : Type 0 where
  pub idle_set : new.idle_set ≡ old.idle_set
  pub count : btree_map_len new.peers ≡ btree_map_len old.peers
  pub there : (k : ℕ) → is_some (peer_at new k) ≡ is_some (peer_at old k)

-- so each has the nap that it had
pub idle_peer_stays : {H Job : Type 0} (old new : Machine H Job) (k : ℕ) → new.idle_set ≡ old.idle_set → idle_peer_at new k ≡ idle_peer_at old k
idle_peer_stays old new k e = ap (λ s. idle_peer_of s k) e

-- and is kept as it was
pub kept_stays : {H Job : Type 0} (hub : Hub Job) (old new : Machine H Job) (k : ℕ) (t : Option Settings) (h : List PeerEvent) → new.idle_set ≡ old.idle_set
    → peer_at new k ≡ peer_at old k → IsKeptAs {H = H} hub old.idle_set.clock (idle_peer_at old k) t h (peer_at old k)
    → IsKeptAs {H = H} hub new.idle_set.clock (idle_peer_at new k) t h (peer_at new k)
kept_stays {H} hub old new k t h e same kept =
    subst (λ s. IsKeptAs {H = H} hub s.clock (idle_peer_of s k) t h (peer_at new k)) (sym e)
    (subst (λ q. IsKeptAs {H = H} hub old.idle_set.clock (idle_peer_at old k) t h q) (sym same) kept)

-- the peer of one that is awake is that of its moves
pub awake_is : {H Job : Type 0} (hub : Hub Job) (clock : IdleClock) (idle_peer : Option IdlePeer) (t : Option Settings) (h : List PeerEvent) (p : Option (Peer H Job)) → idle_peer ≡ None
    → IsKeptAs {H = H} hub clock idle_peer t h p → IsPeerOf {H = H} hub t h p
awake_is {H} hub clock idle_peer t h p e kept = subst (λ o. IsKeptAs {H = H} hub clock o t h p) e kept

pub is_awake : {H Job : Type 0} (hub : Hub Job) (clock : IdleClock) (idle_peer : Option IdlePeer) (t : Option Settings) (h : List PeerEvent) (p : Option (Peer H Job)) → idle_peer ≡ None
    → IsPeerOf {H = H} hub t h p → IsKeptAs {H = H} hub clock idle_peer t h p
is_awake {H} hub clock idle_peer t h p e is = subst (λ o. IsKeptAs {H = H} hub clock o t h p) (sym e) is

pub index_stays : {H Job : Type 0} (old new : Machine H Job) → KeepsIdleSet {H = H} old new → IsIndexed {H = H} old → IsIndexed {H = H} new
index_stays old new keeps i = record {
  kept = subst (λ s. IsKept s) (sym keeps.idle_set) i.kept;
  awake = λ c.
      ap (λ s. is_awake_in s c) keeps.idle_set ∙ i.awake c
      ∙ ap (λ b. b && not (is_some (idle_peer_at old c))) (sym (keeps.there c))
      ∙ ap (λ o. is_some (peer_at new c) && not (is_some o)) (sym (idle_peer_stays old new c keeps.idle_set));
  room = let e = keeps.count in let f = ap (λ s. vec_capacity s.awake.numbers) keeps.idle_set in let l = i.room in omega (arith, e, f, l);
}

-- one that is listed as awake doesn't sleep
pub listed_is_awake : {H Job : Type 0} (m : Machine H Job) (c : ℕ) → IsIndexed {H = H} m → is_awake_in m.idle_set c ≡ true → idle_peer_at m c ≡ None
listed_is_awake m c index e = by (idle_peer_at m c) refl (and_parts _ _ (sym (index.awake c) ∙ e)).1
  where
    by : (o : Option IdlePeer) → idle_peer_at m c ≡ o → not (is_some o) ≡ true → o ≡ None
    by None f g = refl
    by (Some idle_peer) f g = absurd (true≢false (sym g))

-- the machine has this peer at the connection, and is as it was at others
pub record PutsPeer {H Job : Type 0} (old new : Machine H Job) (c : ℕ) (p : Peer H Job) : Type 0 where
  pub at : peer_at new c ≡ Some p
  pub others : (k : ℕ) → (c == k) ≡ false → peer_at new k ≡ peer_at old k

module _ {H Job : Type 0} (hub : Hub Job) (old new : Machine H Job) (w : List MachineEvent) (c : ℕ) (t : Settings) (p : Peer H Job) (ms : List PeerEvent)
    (s : StandsMachine {H = H} hub old w) (there : settings_there c w ≡ Some t) (awake : idle_peer_at old c ≡ None) (keeps : KeepsIdleSet {H = H} old new)
    (puts : PutsPeer {H = H} old new c p) (stands : Stands {H = H} hub t p (ms ++ moves c w)) where
  is : (has_gone c w ≡ false) × (settings_of c w ≡ Some t)
  is = there_is c w t there

  here : IsKeptAs {H = H} hub new.idle_set.clock (idle_peer_at new c) (settings_there c (doing c ms w)) (moves c (doing c ms w)) (peer_at new c)
  here =
      is_awake {H = H} hub new.idle_set.clock (idle_peer_at new c) (settings_there c (doing c ms w)) (moves c (doing c ms w)) (peer_at new c)
      (idle_peer_stays old new c keeps.idle_set ∙ awake)
      (subst (λ o. IsPeerOf {H = H} hub o (moves c (doing c ms w)) (peer_at new c)) (sym (there_stay c c ms w ∙ there))
      (subst (λ h. IsPeerOf {H = H} hub (Some t) h (peer_at new c)) (sym (moves_done c ms w))
      (subst (λ q. IsPeerOf {H = H} hub (Some t) (ms ++ moves c w) q) (sym puts.at) stands)))

  at_each : (k : ℕ) (b : Bool) → (c == k) ≡ b
      → IsKeptAs {H = H} hub new.idle_set.clock (idle_peer_at new k) (settings_there k (doing c ms w)) (moves k (doing c ms w)) (peer_at new k)
  at_each k true f =
      subst (λ n. IsKeptAs {H = H} hub new.idle_set.clock (idle_peer_at new n) (settings_there n (doing c ms w)) (moves n (doing c ms w)) (peer_at new n))
      (eqb-true c k f) here
  at_each k false f =
      subst (λ o. IsKeptAs {H = H} hub new.idle_set.clock (idle_peer_at new k) o (moves k (doing c ms w)) (peer_at new k)) (sym (there_stay k c ms w))
      (subst (λ h. IsKeptAs {H = H} hub new.idle_set.clock (idle_peer_at new k) (settings_there k w) h (peer_at new k)) (sym (moves_stay c k ms w f))
      (kept_stays {H = H} hub old new k (settings_there k w) (moves k w) keeps.idle_set (puts.others k f) (s.at k)))

  -- its settings are what they were
  same_settings : (k : ℕ) (o : Settings) → settings_of k (doing c ms w) ≡ Some o → (c == k) ≡ true → t ≡ o
  same_settings k o e f =
      let one : ◌≡◌ {A = Option Settings} (Some t) (Some o) =
      sym is.1 ∙ ap (λ n. settings_of n w) (eqb-true c k f) ∙ sym (settings_stay k c ms w) ∙ e in cc

  peers_each : (k : ℕ) (o : Settings) → settings_of k (doing c ms w) ≡ Some o → (b : Bool) → (c == k) ≡ b → IsPeer hub o (moves k (doing c ms w))
  peers_each k o e true f =
      subst (λ n. IsPeer hub o (moves n (doing c ms w))) (eqb-true c k f)
      (subst (λ h. IsPeer hub o h) (sym (moves_done c ms w))
      (subst (λ x. IsPeer hub x (ms ++ moves c w)) (same_settings k o e f) (peer_is {H = H} hub t p (ms ++ moves c w) stands)))
  peers_each k o e false f = subst (λ h. IsPeer hub o h) (sym (moves_stay c k ms w f)) (s.peers k o (sym (settings_stay k c ms w) ∙ e))

  said_each : (k : ℕ) (o : Settings) → settings_of k (doing c ms w) ≡ Some o → (b : Bool) → (c == k) ≡ b → SaysAsSent o (moves k (doing c ms w))
  said_each k o e true f =
      subst (λ n. SaysAsSent o (moves n (doing c ms w))) (eqb-true c k f)
      (subst (λ h. SaysAsSent o h) (sym (moves_done c ms w)) (subst (λ x. SaysAsSent x (ms ++ moves c w)) (same_settings k o e f) stands.end.said))
  said_each k o e false f = subst (λ h. SaysAsSent o h) (sym (moves_stay c k ms w f)) (s.said k o (sym (settings_stay k c ms w) ∙ e))

  strangers_each : (k : ℕ) → settings_of k (doing c ms w) ≡ None → (b : Bool) → (c == k) ≡ b → IsStranger k (doing c ms w)
  strangers_each k e true f =
      absurd (let z : ◌≡◌ {A = Option Settings} (Some t) None =
      sym is.1 ∙ ap (λ n. settings_of n w) (eqb-true c k f) ∙ sym (settings_stay k c ms w) ∙ e in cc)
  strangers_each k e false f =
      let was : IsStranger k w = s.strangers k (sym (settings_stay k c ms w) ∙ e) in
      record {
        unknown = gone_stay k c ms w ∙ was.unknown;
        unmoved = moves_stay c k ms w f ∙ was.unmoved;
        in_no_group = subst (λ (ps : List Pair). without k ps ≡ ps) (sym (joined_stay c ms w)) was.in_no_group;
      }

  -- the machine stands for these moves too, if its registry does
  stands_with : StandsRegistry new.registry (registry (doing c ms w)) → StandsMachine {H = H} hub new (doing c ms w)
  stands_with lists = record {
    at = λ k. at_each k (c == k) refl;
    index = index_stays old new keeps s.index;
    rounds = ap (λ (i : IdleSet). i.clock.rounds) keeps.idle_set ∙ s.rounds ∙ sym (rounds_stay c ms w);
    registry = lists;
    peers = λ k o e. peers_each k o e (c == k) refl;
    said = λ k o e. said_each k o e (c == k) refl;
    strangers = λ k e. strangers_each k e (c == k) refl;
    from_one = settings_stay 0 c ms w ∙ s.from_one;
  }

  -- the connection left everything if its end is closed now, and only then
  pub stands_closing : (is_shut t (ms ++ moves c w) ≡ false → new.registry ≡ old.registry)
      → (is_shut t (ms ++ moves c w) ≡ true → (l : Lists) → StandsRegistry old.registry l → StandsRegistry new.registry (gone l c))
      → StandsMachine {H = H} hub new (doing c ms w)
  stands_closing unshut shut = stands_with (go (is_shut t (ms ++ moves c w)) refl)
    where
      go : (b : Bool) → is_shut t (ms ++ moves c w) ≡ b → StandsRegistry new.registry (registry (doing c ms w))
      go true e = subst (λ l. StandsRegistry new.registry l) (sym (registry_shut c w t ms there e)) (shut e (registry w) s.registry)
      go false e =
          subst (λ l. StandsRegistry new.registry l) (sym (registry_open c w t ms there e))
          (subst (λ r. StandsRegistry r (registry w)) (sym (unshut e)) s.registry)

  -- the moves close no end, and nobody left
  pub stands_on : is_shut t (ms ++ moves c w) ≡ is_shut t (moves c w) → new.registry ≡ old.registry → StandsMachine {H = H} hub new (doing c ms w)
  stands_on same kept = stands_with
      (subst (λ l. StandsRegistry new.registry l) (sym (registry_same c w t ms there same)) (subst (λ r. StandsRegistry r (registry w)) (sym kept) s.registry))

-- the machine stands for what it stood for, and for these moves of a connection whose peer stands for them
pub doing_stands : {H Job : Type 0} (hub : Hub Job) (old new : Machine H Job) (w : List MachineEvent) (c : ℕ) (t : Settings) (p : Peer H Job) (ms : List PeerEvent)
    → StandsMachine {H = H} hub old w → settings_there c w ≡ Some t → idle_peer_at old c ≡ None → KeepsIdleSet {H = H} old new → peer_at new c ≡ Some p → ((k : ℕ) → (c == k) ≡ false → peer_at new k ≡ peer_at old k)
    → Stands {H = H} hub t p (ms ++ moves c w) → (is_shut t (ms ++ moves c w) ≡ false → new.registry ≡ old.registry)
    → (is_shut t (ms ++ moves c w) ≡ true → (l : Lists) → StandsRegistry old.registry l → StandsRegistry new.registry (gone l c))
    → StandsMachine {H = H} hub new (doing c ms w)
doing_stands {H} {Job} hub old new w c t p ms s there awake keeps at others stands unshut shut =
    stands_closing {H = H} {Job = Job} hub old new w c t p ms s there awake keeps (record { at = at; others = others }) stands unshut shut
