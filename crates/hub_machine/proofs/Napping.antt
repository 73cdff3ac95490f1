-- How long a peer may sleep, by what its end tells; a connection falls asleep.
use Rattle.std.proofs.Common.{◌≡◌, ℕ, ◌==◌, ◌<◌, ◌≤◌, Bool, true, false, not, ◌&&◌, List, [], Option, Some, None, is_some, Result, Ok, Err, OnOk}
use Rattle.std.proofs.Common.{refl, sym, ap, subst, ◌∙◌, true≢false, arith}
use Rattle.std.specs.Prelude.{nat_lt, if◌then◌else◌}
use Rattle.std.proofs.lemmas.Bool.{cond-true, eq-eqb, ltb-true}
use Rattle.hd_delivery.specs.Numbers.{most_of_64_bits}
use Rattle.hd_delivery.specs.Due.{is_unseen}
use Rattle.hd_delivery.specs.Histories.{present_link}
use Rattle.hd_calls.specs.Hubs.{Hub}
use Rattle.hd_calls.specs.Peers.{PeerEvent, Settings, steps}
use Rattle.hd_calls.specs.Rules.{passed}
use Rattle.hd_server.specs.Machine.{MachineEvent, moves}
use Rattle.hp_peer.specs.declared.peer.Peer.{Peer}
use Rattle.hub_machine.specs.declared.machine.Machine.{Machine}
use Rattle.hub_machine.specs.declared.idle_set.IdleClock.{IdleClock}
use Rattle.hub_machine.specs.declared.idle_set.IdlePeer.{IdlePeer}
use Rattle.hub_machine.specs.declared.idle_set.IdleSet.{IdleSet}
use Rattle.hub_machine.specs.IdleSet.{Changes, IsKept, idle_peer_of, is_awake_in}
use Rattle.hub_machine.specs.Machines.{CannotSleep, IsDeadlineOf, IsIndexed, IsKeptAs, MaySleep, Sleeps, StandsMachine, idle_peer_at, peer_at, settings_there}
use Rattle.hub_machine.specs.Sleeping.{IsUpFor, IsUpWithCause}
use Rattle.hub_machine.proofs.Awake.{each_kept, index_changed}
use Rattle.hub_machine.proofs.Doing.{peer_is}

pub no_link : (o : Option ℕ) → is_some o ≡ false → o ≡ None
no_link None e = refl
no_link (Some l) e = absurd (true≢false e)

-- at the moment a tick did more than pass already
pub too_late : (clock : IdleClock) (found : ℕ) (t : Settings) (h : List PeerEvent) → found ≤ clock.moment → is_some (present_link (steps t h)) ≡ true
    → ((now : ℕ) → now < most_of_64_bits → nat_lt now found ≡ is_unseen t.config now (steps t h)) → CannotSleep clock t h
too_late clock found t h late on tells alarm m = by alarm m.deadline
  where
    by : (o : Option ℕ) → IsDeadlineOf clock.moment o t h → ⊥
    by None d = true≢false (sym on ∙ ap is_some d)
    by (Some moment) d =
        let before : clock.moment < moment = d.2 in
        let within : moment ≤ most_of_64_bits = d.4 in
        let less : clock.moment < found = ltb-true clock.moment found (tells clock.moment (omega (arith, before, within)) ∙ d.3 clock.moment before) in
        omega (arith, less, late)

-- ---- in the machine

-- of what holds once all is well something else follows
pub on_ok : {A E : Type 0} (r : Result A E) (P Q : Type 0) → (P → Q) → OnOk r P → OnOk r Q
on_ok (Ok x) P Q f p = f p
on_ok (Err e) P Q f p = tt

-- one that isn't awake has cause
pub up_unawake : {H Job : Type 0} (hub : Hub Job) (m : Machine H Job) (c : ℕ) → IsIndexed {H = H} m → is_awake_in m.idle_set c ≡ false
    → IsUpWithCause {H = H} hub m c
up_unawake {H} {Job} hub m c index e = by (idle_peer_at m c) (peer_at m c) (sym (index.awake c) ∙ e)
  where
    by : (o : Option IdlePeer) (p : Option (Peer H Job)) → (is_some p && not (is_some o)) ≡ false → IsUpFor {H = H} hub m.idle_set.clock o p
    by (Some idle_peer) p f = tt
    by None None f = tt
    by None (Some p) f = absurd (true≢false f)

and_false : (b : Bool) → (b && false) ≡ false
and_false true = refl
and_false false = refl

module _ {H Job : Type 0} (hub : Hub Job) (old : Machine H Job) (c : ℕ) (idle_peer : IdlePeer) (ss : IdleSet) (w : List MachineEvent) (t : Settings)
    (s : StandsMachine {H = H} hub old w) (there : settings_there c w ≡ Some t) (awake : idle_peer_at old c ≡ None)
    (now : idle_peer.rounds ≡ old.idle_set.clock.rounds) (may : MaySleep old.idle_set.clock idle_peer.deadline t (moves c w))
    (falls : IsKept old.idle_set → idle_peer_of old.idle_set c ≡ None → Changes old.idle_set ss c (Some idle_peer) false) where
  abbrev new : Machine H Job
  new = record old { idle_set = ss }

  changes : Changes old.idle_set ss c (Some idle_peer) false
  changes = falls s.index.kept awake

  -- its peer stands for what it did
  asleep : (o : Option IdlePeer) (p : Option (Peer H Job)) → o ≡ None → IsKeptAs {H = H} hub old.idle_set.clock o (Some t) (moves c w) p
      → IsKeptAs {H = H} hub old.idle_set.clock (Some idle_peer) (Some t) (moves c w) p
  asleep None None e kept = absurd kept
  asleep None (Some p) e kept = record {
    before = moves c w;
    since = [];
    are = refl;
    idle = refl;
    stood = kept;
    begun = omega (arith, now);
    marked = sym (cond-true (idle_peer.rounds == old.idle_set.clock.rounds) (passed (moves c w)) 0 (eq-eqb idle_peer.rounds old.idle_set.clock.rounds now));
    peer = peer_is {H = H} hub t p (moves c w) kept;
    may = may;
  }
  asleep (Some o) p e kept = absurd (let z : ◌≡◌ {A = Option IdlePeer} (Some o) None = e in cc)

  here : IsKeptAs {H = H} hub old.idle_set.clock (Some idle_peer) (settings_there c w) (moves c w) (peer_at old c)
  here =
      subst (λ o. IsKeptAs {H = H} hub old.idle_set.clock (Some idle_peer) o (moves c w) (peer_at old c)) (sym there)
      (asleep (idle_peer_at old c) (peer_at old c) awake
      (subst (λ o. IsKeptAs {H = H} hub old.idle_set.clock (idle_peer_at old c) o (moves c w) (peer_at old c)) there (s.at c)))

  -- one that falls asleep, as it may, is kept so
  pub parks : StandsMachine {H = H} hub new w
  parks = record {
    at = each_kept {H = H} {Job = Job} hub old new c (peer_at old c) (Some idle_peer) false changes refl (λ k e. refl)
        (λ k. settings_there k w) (λ k. moves k w) (λ k e. s.at k) here;
    index = index_changed {H = H} {Job = Job} old new c (Some idle_peer) false s.index changes refl (λ k. refl)
        (sym (and_false (is_some (peer_at old c))));
    rounds = ap (λ (k : IdleClock). k.rounds) changes.clock ∙ s.rounds;
    registry = s.registry;
    peers = s.peers;
    said = s.said;
    strangers = s.strangers;
    from_one = s.from_one;
  }
