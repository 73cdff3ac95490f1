-- The connections whose alarms have come wake, one after another.
use Rattle.std.proofs.Common.{◌≡◌, ◌⊎◌, inl, inr, ℕ, ◌+◌, ◌<◌, ◌≤◌, ◌==◌, Bool, true, false, List, length, get_or, Option, Some, None, is_some}
use Rattle.std.proofs.Common.{refl, sym, ap, subst, ◌∙◌, arith}
use Rattle.std.proofs.lemmas.Bool.{cases_lt, eqb-true, false_from_ne_true, ne_eqb}
use Rattle.hd_calls.specs.Hubs.{Hub}
use Rattle.hd_calls.specs.Peers.{PeerEvent, Settings}
use Rattle.hd_server.specs.Machine.{MachineEvent, moves}
use Rattle.hp_peer.specs.declared.peer.Peer.{Peer}
use Rattle.hub_machine.specs.declared.machine.Machine.{Machine}
use Rattle.hub_machine.specs.declared.idle_set.IdleClock.{IdleClock}
use Rattle.hub_machine.specs.declared.idle_set.IdlePeer.{IdlePeer}
use Rattle.hub_machine.specs.Machines.{IsIndexed, IsKeptAs, StandsMachine, idle_peer_at, peer_at, settings_there}
use Rattle.hub_machine.specs.IdleSet.{AreRung, deadline_in}
use Rattle.hub_machine.specs.Sleeping.{NoneRings, SleepOn}
use Rattle.hub_machine.specs.Spreads.{is_listed}
use Rattle.hub_machine.proofs.Delivered.{not_at}
use Rattle.hub_machine.proofs.Numbers.{listed_at}

-- it doesn't sleep, or isn't there
abbrev pub IsUp : {H Job : Type 0} → Machine H Job → ℕ → Type 0
IsUp m k = (idle_peer_at m k ≡ None) ⊎ (peer_at m k ≡ None)

-- the first of these connections are awake, nobody fell asleep, and the others sleep on
pub record WokenSoFar {H Job : Type 0} (hub : Hub Job) (old now : Machine H Job) (conns : List ℕ) (i : ℕ) : Type 0 where
  pub stands : (w : List MachineEvent) → StandsMachine hub old w → StandsMachine hub now w
  pub idle_peers : (k : ℕ) → (idle_peer_at now k ≡ None) ⊎ (idle_peer_at now k ≡ idle_peer_at old k)
  pub woken : (j : ℕ) → j < i → IsUp now (get_or conns j 0)
  pub others : (k : ℕ) → is_listed k conns ≡ false → idle_peer_at now k ≡ idle_peer_at old k

pub none_woken : {H Job : Type 0} (hub : Hub Job) (m : Machine H Job) (conns : List ℕ) → WokenSoFar {H = H} hub m m conns 0
none_woken hub m conns = record {
  stands = λ w s. s;
  idle_peers = λ k. inr refl;
  woken = λ j l. absurd (omega (arith, l));
  others = λ k e. refl;
}

-- what a call of `wake` says
pub record Wakes {H Job : Type 0} (hub : Hub Job) (now new : Machine H Job) (c : ℕ) : Type 0 where
  pub stands : (w : List MachineEvent) → StandsMachine hub now w → StandsMachine hub new w
  pub awake : (idle_peer_at new c ≡ None) ⊎ (peer_at new c ≡ None)
  pub others : (k : ℕ) → (c == k) ≡ false → (peer_at new k ≡ peer_at now k) × (idle_peer_at new k ≡ idle_peer_at now k)
  pub there : is_some (peer_at new c) ≡ is_some (peer_at now c)
  pub absent : peer_at now c ≡ None → new ≡ now

module _ {H Job : Type 0} (hub : Hub Job) (old now new : Machine H Job) (conns : List ℕ) (i c : ℕ) (is : c ≡ get_or conns i 0) (within : i < length conns)
    (wakes : Wakes {H = H} hub now new c) (so_far : WokenSoFar {H = H} hub old now conns i) where
  -- its nap has ended, or there is none of it
  own : (idle_peer_at new c ≡ None) ⊎ (idle_peer_at new c ≡ idle_peer_at old c)
  own = elim wakes.awake [
    | inl e ↦ inl e
    | inr e ↦ let same : new ≡ now = wakes.absent (unpeered (peer_at now c) (sym wakes.there ∙ ap is_some e)) in
        subst (λ m. (idle_peer_at m c ≡ None) ⊎ (idle_peer_at m c ≡ idle_peer_at old c)) (sym same) (so_far.idle_peers c)
  ]
    where
      unpeered : (o : Option (Peer H Job)) → is_some o ≡ false → o ≡ None
      unpeered None e = refl
      unpeered (Some p) e = absurd (let z : true ≡ false = e in cc)

  naps_each : (k : ℕ) (b : Bool) → (c == k) ≡ b → (idle_peer_at new k ≡ None) ⊎ (idle_peer_at new k ≡ idle_peer_at old k)
  naps_each k true e = subst (λ n. (idle_peer_at new n ≡ None) ⊎ (idle_peer_at new n ≡ idle_peer_at old n)) (eqb-true c k e) own
  naps_each k false e = subst (λ o. (o ≡ None) ⊎ (o ≡ idle_peer_at old k)) (sym (wakes.others k e).1) (so_far.idle_peers k)

  up_each : (k : ℕ) (b : Bool) → (c == k) ≡ b → (b ≡ false → IsUp {H = H} now k) → IsUp {H = H} new k
  up_each k true e up = subst (λ n. IsUp {H = H} new n) (eqb-true c k e) wakes.awake
  up_each k false e up = elim (up refl) [
    | inl f ↦ inl ((wakes.others k e).1 ∙ f)
    | inr f ↦ inr ((wakes.others k e).0 ∙ f)
  ]

  pub one_woken : WokenSoFar {H = H} hub old new conns (i + 1)
  one_woken = record {
    stands = λ w s. wakes.stands w (so_far.stands w s);
    idle_peers = λ k. naps_each k (c == k) refl;
    woken = λ j l. elim (cases_lt j i) [
      | inl m ↦ up_each (get_or conns j 0) (c == get_or conns j 0) refl (λ e. so_far.woken j m)
      | inr m ↦ let last : j ≡ i = omega (arith, l, m) in
          subst (λ n. IsUp {H = H} new n) (is ∙ ap (λ n. get_or conns n 0) (sym last)) wakes.awake
    ];
    others = λ k e. (wakes.others k (ne_eqb c k (λ f. not_at k conns i within e (sym f ∙ is)))).1 ∙ so_far.others k e;
  }

-- one that sleeps is there
asleep_there : {H Job : Type 0} (hub : Hub Job) (clock : IdleClock) (idle_peer : Option IdlePeer) (t : Option Settings) (h : List PeerEvent)
    (p : Option (Peer H Job)) (moment : ℕ) → deadline_in idle_peer ≡ Some moment → p ≡ None → IsKeptAs {H = H} hub clock idle_peer t h p → ⊥
asleep_there hub clock None t h p moment e f kept = let z : ◌≡◌ {A = Option ℕ} None (Some moment) = e in cc
asleep_there {H} hub clock (Some idle_peer) None h p moment e f kept = kept
asleep_there {H} hub clock (Some idle_peer) (Some t) h None moment e f kept = kept
asleep_there {H} {Job} hub clock (Some idle_peer) (Some t) h (Some p) moment e f kept = let z : ◌≡◌ {A = Option (Peer H Job)} (Some p) None = f in cc

-- all of them are awake, so that no alarm has come
pub none_rings : {H Job : Type 0} (hub : Hub Job) (old new : Machine H Job) (conns : List ℕ) (i now : ℕ) (w : List MachineEvent) → length conns ≤ i
    → AreRung old.idle_set now conns → WokenSoFar {H = H} hub old new conns i → StandsMachine {H = H} hub old w → NoneRings {H = H} new now
none_rings {H} {Job} hub old new conns i now w all rung so_far s c moment e = elim (cases_lt now moment) [
  | inl l ↦ l
  | inr l ↦ absurd (late l)
]
  where
    late : moment ≤ now → ⊥
    late l = elim (so_far.idle_peers c) [
      | inl f ↦ (let z : ◌≡◌ {A = Option ℕ} None (Some moment) = sym (ap deadline_in f) ∙ e in cc)
      | inr f ↦
          let at = listed_at c conns (rung.all c moment (s.index.kept.set c moment (sym (ap deadline_in f) ∙ e)) l) in
          elim (subst (λ n. IsUp {H = H} new n) (sym at.2) (so_far.woken at.0 (omega (arith, at.1, all)))) [
            | inl g ↦ (let z : ◌≡◌ {A = Option ℕ} None (Some moment) = sym (ap deadline_in g) ∙ e in cc)
            | inr g ↦ asleep_there {H = H} {Job = Job} hub new.idle_set.clock (idle_peer_at new c) (settings_there c w) (moves c w) (peer_at new c)
                moment e g ((so_far.stands w s).at c)
          ]
    ]

-- no others have woken
pub sleep_on : {H Job : Type 0} (hub : Hub Job) (old new : Machine H Job) (conns : List ℕ) (i now : ℕ) → AreRung old.idle_set now conns
    → IsIndexed {H = H} old → WokenSoFar {H = H} hub old new conns i → SleepOn {H = H} old new now
sleep_on hub old new conns i now rung index so_far c early = so_far.others c (false_from_ne_true (is_listed c conns) (λ e.
    let at = rung.only c e in
    let later = early at.0 (index.kept.only c at.0 at.1) in
    omega (arith, later, at.2)))
