-- A moment comes at a connection that stands on a link.
use Rattle.std.proofs.Common.{◌≡◌, ℕ, Bool, true, false, not, ◌&&◌, List, [], ◌∷◌, Option, Some, None, is_some, refl, sym, ap, subst, ◌∙◌, true≢false}
use Rattle.std.specs.Prelude.{if◌then◌else◌}
use Rattle.std.specs.Ordering.{nat_cmp}
use Rattle.std.specs.BTreeMap.{BTreeMap, WritesThrough}
use Rattle.hd_delivery.specs.Histories.{Silenced, Ticked, is_resumable, is_silence, present_link}
use Rattle.hd_delivery.specs.Bytes.{Does as Step_of}
use Rattle.hd_calls.specs.Hubs.{Hub}
use Rattle.hd_calls.specs.Peers.{Plain, Settings, is_shut, steps}
use Rattle.hd_server.specs.Machine.{MachineEvent, Does, moves}
use Rattle.hp_peer.specs.declared.peer.Peer.{Peer}
use Rattle.hp_peer.specs.Stands.{OfEach, Stands}
use Rattle.hub_machine.specs.declared.machine.Machine.{Machine}
use Rattle.hub_machine.specs.Calls.{ClosesOutIf}
use Rattle.hub_machine.specs.Machines.{StandsMachine, idle_peer_at, peer_at, settings_there}
use Rattle.hub_machine.specs.Traffic.{HasTicked}
use Rattle.hub_machine.proofs.Ends.{closes_out_if, goes_on, stood}

-- what is told with a silence, and that nothing is told without one
pub granted_some : (granted is : Bool) → granted ≡ is → (b : Bool) → Some granted ≡ Some b → b ≡ is
granted_some granted is e b f = let same : granted ≡ b = cc in sym same ∙ e

pub granted_none : (is b : Bool) → None ≡ Some b → b ≡ is
granted_none is b f = absurd (let z : ◌≡◌ {A = Option Bool} None (Some b) = f in cc)

module _ {H Job : Type 0} (hub : Hub Job) (old : Machine H Job) (w : List MachineEvent) (c : ℕ) (t : Settings) (was p : Peer H Job)
    (s : StandsMachine {H = H} hub old w) (there : settings_there c w ≡ Some t) (at : Some was ≡ peer_at old c) (awake : idle_peer_at old c ≡ None)
    (ps : BTreeMap ℕ (Peer H Job)) (through : WritesThrough nat_cmp (nat_cmp c) old.peers p ps) (now : ℕ)
    (attached : Bool) (tells : OfEach {H = H} hub was (λ t h. attached ≡ is_some (present_link (steps t h)))) where
  link : attached ≡ is_some (present_link (steps t (moves c w)))
  link = tells t (moves c w) (stood {H = H} {Job = Job} hub old w c t was s there at awake)

  -- it stands on none
  pub not_there : p ≡ was → attached ≡ false → HasTicked {H = H} hub (record old { peers = ps }) c w t (moves c w) now None
  not_there same away = record {
    away = λ none. (
      refl,
      goes_on {H = H} {Job = Job} hub old w c t was p [] s there at awake ps through
          (λ h. subst (λ q. Stands {H = H} hub t q (moves c w)) (sym same) h) refl,
    );
    there = λ on. absurd (true≢false (sym (link ∙ on) ∙ away));
    granted = λ b e. absurd (let z : ◌≡◌ {A = Option Bool} None (Some b) = e in cc);
  }

  -- its end ticked
  pub ticks_there : attached ≡ true → (silent : Bool)
      → (silent ≡ is_silence t.config now (steps t (moves c w)))
      × Stands {H = H} hub t p (Plain (Step_of (if silent then Silenced now else Ticked now)) ∷ moves c w)
      → (new : Machine H Job) (over : Bool) → ClosesOutIf {H = H} hub (record old { peers = ps }) new c over
      → OfEach {H = H} hub p (λ t h. over ≡ is_shut t h)
      → (lost : Option Bool) → is_some lost ≡ silent
      → ((b : Bool) → lost ≡ Some b → b ≡ (not (is_shut t (moves c w)) && is_resumable t.config (steps t (moves c w))))
      → HasTicked {H = H} hub new c w t (moves c w) now lost
  ticks_there on silent did new over out says lost is granted = record {
    away = λ none. absurd (true≢false (sym on ∙ link ∙ ap is_some none));
    there = λ link. (
      is ∙ did.0,
      subst (λ b. StandsMachine {H = H} hub new (Does c (Plain (Step_of (if b then Silenced now else Ticked now))) ∷ w)) (sym is)
          (closes_out_if {H = H} {Job = Job} hub old w c t was p (Plain (Step_of (if silent then Silenced now else Ticked now)) ∷ []) s there at awake
          ps through (λ h. did.1) new over out says),
    );
    granted = granted;
  }
