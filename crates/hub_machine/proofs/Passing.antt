-- Time passes at those that sleep: their ends tick all at once, which changes nothing but the moment.
use Rattle.std.proofs.Common.{◌≡◌, ℕ, ◌<◌, ◌≤◌, Bool, true, false, not, ◌&&◌, List, ◌∷◌, Option, Some, None, is_some, refl, sym, ap, subst, ◌∙◌}
use Rattle.std.specs.Prelude.{if◌then◌else◌}
use Rattle.std.proofs.lemmas.Bool.{cond-false}
use Rattle.hd_delivery.specs.Histories as of
use Rattle.hd_delivery.specs.Histories.{Ticked}
use Rattle.hd_delivery.specs.Bytes.{Does as Step_of}
use Rattle.hd_calls.specs.Hubs.{Hub}
use Rattle.hd_calls.specs.Peers.{PeerEvent, Plain, Settings, steps}
use Rattle.hd_calls.specs.Rules.{IsPeer}
use Rattle.hd_server.specs.Laws.{IdleTicksAreUnseen}
use Rattle.hd_server.specs.Machine.{MachineEvent, has_gone, is_open, is_open_at, moves, settings_of}
use Rattle.hd_rooms.specs.Registry.{without}
use Rattle.hg_groups.specs.Standing.{StandsRegistry}
use Rattle.hp_peer.specs.declared.peer.Peer.{Peer}
use Rattle.hub_machine.specs.declared.machine.Machine.{Machine}
use Rattle.hub_machine.specs.declared.idle_set.IdleClock.{IdleClock}
use Rattle.hub_machine.specs.declared.idle_set.IdlePeer.{IdlePeer}
use Rattle.hub_machine.specs.Machines.{IsKeptAs, SaysAsSent, Sleeps, StandsMachine, idle_peer_at, peer_at, settings_there}
use Rattle.hub_machine.specs.IdleSet.{deadline_in}
use Rattle.hub_machine.specs.Sleeping.{AreTimely, HasPassed, NoneRings}
use Rattle.hub_machine.proofs.Doing.{open_by}
use Rattle.hub_machine.proofs.Idling.{away_on, ticks_on}
use Rattle.hub_machine.proofs.Lags.{kept_says}
use Rattle.hub_machine.proofs.Open.{registry_agrees}

-- what a connection did, once its end has ticked if it sleeps on a link
abbrev passed_by : ℕ → Option IdlePeer → List PeerEvent → List PeerEvent
passed_by now idle_peer h = if is_some (deadline_in idle_peer) then Plain (Step_of (Ticked now)) ∷ h else h

kept_on : {H Job : Type 0} (law : IdleTicksAreUnseen) (hub : Hub Job) (clock : IdleClock) (now : ℕ) (idle_peer : Option IdlePeer) (t : Option Settings)
    (p : Option (Peer H Job)) (h : List PeerEvent) → ((moment : ℕ) → deadline_in idle_peer ≡ Some moment → now < moment)
    → ((o : Settings) → t ≡ Some o → of.moment (steps o h) ≤ now)
    → IsKeptAs {H = H} hub clock idle_peer t h p → IsKeptAs {H = H} hub (record clock { moment = now }) idle_peer t (passed_by now idle_peer h) p
kept_on law hub clock now None t p h before early k = k
kept_on law hub clock now (Some idle_peer) None p h before early k = absurd k
kept_on law hub clock now (Some idle_peer) (Some t) None h before early k = absurd k
kept_on {H} {Job} law hub clock now (Some idle_peer) (Some t) (Some p) h before early k = go (deadline_in (Some idle_peer)) refl
  where
    go : (o : Option ℕ) → deadline_in (Some idle_peer) ≡ o
        → IsKeptAs {H = H} hub (record clock { moment = now }) (Some idle_peer) (Some t) (if is_some (deadline_in (Some idle_peer)) then Plain (Step_of (Ticked now)) ∷ h else h) (Some p)
    go None e = subst (λ o. Sleeps {H = H} hub (record clock { moment = now }) idle_peer t p (if is_some o then Plain (Step_of (Ticked now)) ∷ h else h)) (sym e)
        (away_on {H = H} {Job = Job} hub clock now idle_peer t p h k e)
    go (Some moment) e = subst (λ o. Sleeps {H = H} hub (record clock { moment = now }) idle_peer t p (if is_some o then Plain (Step_of (Ticked now)) ∷ h else h)) (sym e)
        (ticks_on {H = H} {Job = Job} law hub clock now moment idle_peer t p h k e (early t refl) (before moment e))

-- one that isn't there doesn't sleep
no_idle_peer : {H Job : Type 0} (hub : Hub Job) (clock : IdleClock) (now : ℕ) (idle_peer : Option IdlePeer) (t : Option Settings) (h : List PeerEvent) (p : Option (Peer H Job))
    → t ≡ None → IsKeptAs {H = H} hub clock idle_peer t h p → passed_by now idle_peer h ≡ h
no_idle_peer hub clock now None t h p e k = refl
no_idle_peer {H} hub clock now (Some idle_peer) t h p e k = absurd (subst (λ o. IsKeptAs {H = H} hub clock (Some idle_peer) o h p) e k)

-- what each did is what a peer can do
peer_on : {H Job : Type 0} (hub : Hub Job) (clock : IdleClock) (now : ℕ) (idle_peer : Option IdlePeer) (gone : Bool) (o : Option Settings) (t : Settings) (h : List PeerEvent)
    (p : Option (Peer H Job)) → o ≡ Some t → IsPeer hub t h → IsKeptAs {H = H} hub clock idle_peer (if gone then None else o) (passed_by now idle_peer h) p
    → IsPeer hub t (passed_by now idle_peer h)
peer_on hub clock now None gone o t h p e is k = is
peer_on hub clock now (Some idle_peer) true o t h p e is k = absurd k
peer_on hub clock now (Some idle_peer) false None t h p e is k = absurd k
peer_on hub clock now (Some idle_peer) false (Some u) t h None e is k = absurd k
peer_on {H} hub clock now (Some idle_peer) false (Some u) t h (Some p) e is k =
    (subst (λ (s : Option Settings). IsKeptAs {H = H} hub clock (Some idle_peer) s (passed_by now (Some idle_peer) h) (Some p)) e k).peer

-- and what each sent is said
says_on : {H Job : Type 0} (hub : Hub Job) (clock : IdleClock) (now : ℕ) (idle_peer : Option IdlePeer) (gone : Bool) (o : Option Settings) (t : Settings) (h : List PeerEvent)
    (p : Option (Peer H Job)) → o ≡ Some t → SaysAsSent t h → IsKeptAs {H = H} hub clock idle_peer (if gone then None else o) (passed_by now idle_peer h) p
    → SaysAsSent t (passed_by now idle_peer h)
says_on hub clock now None gone o t h p e is k = is
says_on hub clock now (Some idle_peer) true o t h p e is k = absurd k
says_on {H} {Job} hub clock now (Some idle_peer) false o t h p e is k =
    kept_says {H = H} {Job = Job} hub clock (Some idle_peer) t (passed_by now (Some idle_peer) h) p
    (subst (λ (s : Option Settings). IsKeptAs {H = H} hub clock (Some idle_peer) s (passed_by now (Some idle_peer) h) p) e k)

-- its end is open if it was
open_passed : (now : ℕ) (b : Bool) (o : Option Settings) (h : List PeerEvent)
    → is_open_at o (if b then Plain (Step_of (Ticked now)) ∷ h else h) ≡ is_open_at o h
open_passed now b None h = refl
open_passed now true (Some t) h = refl
open_passed now false (Some t) h = refl

module _ {H Job : Type 0} (law : IdleTicksAreUnseen) (hub : Hub Job) (old : Machine H Job) (now : ℕ) (w v : List MachineEvent)
    (s : StandsMachine {H = H} hub old w) (silent : NoneRings {H = H} old now) (timely : AreTimely now w) (did : HasPassed {H = H} old now w v) where
  abbrev then_clock : IdleClock
  then_clock = record old.idle_set.clock { moment = now }

  there_same : (c : ℕ) → settings_there c v ≡ settings_there c w
  there_same c = ap (λ b. if b then None else settings_of c v) (did.gone c) ∙ ap (λ o. if has_gone c w then None else o) (did.settings c)

  kept : (c : ℕ) → IsKeptAs {H = H} hub then_clock (idle_peer_at old c) (settings_there c w) (passed_by now (idle_peer_at old c) (moves c w)) (peer_at old c)
  kept c =
      kept_on {H = H} {Job = Job} law hub old.idle_set.clock now (idle_peer_at old c) (settings_there c w) (peer_at old c) (moves c w)
      (silent c) (timely c) (s.at c)

  open_same : (c : ℕ) → is_open c v ≡ is_open c w
  open_same c =
      open_by (has_gone c v) (has_gone c w) (settings_of c v) (settings_of c w) (moves c v) (passed_by now (idle_peer_at old c) (moves c w))
      (did.gone c) (did.settings c) (did.moved c)
      ∙ ap (λ b. not (has_gone c w) && b) (open_passed now (is_some (deadline_in (idle_peer_at old c))) (settings_of c w) (moves c w))

  -- the ends of all that sleep on a link have ticked
  pub time_passes : StandsMachine {H = H} hub (record old { idle_set = record old.idle_set { clock = then_clock } }) v
  time_passes = record {
    at = λ c. subst (λ o. IsKeptAs {H = H} hub then_clock (idle_peer_at old c) o (moves c v) (peer_at old c)) (sym (there_same c))
        (subst (λ ms. IsKeptAs {H = H} hub then_clock (idle_peer_at old c) (settings_there c w) ms (peer_at old c)) (sym (did.moved c)) (kept c));
    index = record {
      kept = record { rising = s.index.kept.rising; set = s.index.kept.set; only = s.index.kept.only };
      awake = s.index.awake;
      room = s.index.room;
    };
    rounds = s.rounds ∙ sym did.rounds;
    registry = subst (λ l. StandsRegistry old.registry l) (sym (registry_agrees w v did.joins did.users open_same)) s.registry;
    peers = λ c t e. let was = sym (did.settings c) ∙ e in subst (λ ms. IsPeer hub t ms) (sym (did.moved c))
        (peer_on {H = H} {Job = Job} hub then_clock now (idle_peer_at old c) (has_gone c w) (settings_of c w) t (moves c w) (peer_at old c) was
        (s.peers c t was) (kept c));
    said = λ c t e. let was = sym (did.settings c) ∙ e in subst (λ ms. SaysAsSent t ms) (sym (did.moved c))
        (says_on {H = H} {Job = Job} hub then_clock now (idle_peer_at old c) (has_gone c w) (settings_of c w) t (moves c w) (peer_at old c) was
        (s.said c t was) (kept c));
    strangers = λ c e. let none = sym (did.settings c) ∙ e in let was = s.strangers c none in record {
      unknown = did.gone c ∙ was.unknown;
      unmoved = did.moved c
          ∙ no_idle_peer {H = H} {Job = Job} hub old.idle_set.clock now (idle_peer_at old c) (settings_there c w) (moves c w) (peer_at old c)
          (cond-false (has_gone c w) None (settings_of c w) was.unknown ∙ none) (s.at c)
          ∙ was.unmoved;
      in_no_group = subst (λ ps. without c ps ≡ ps) (sym did.joins) was.in_no_group;
    };
    from_one = did.settings 0 ∙ s.from_one;
  }
