-- Connections that are awake have cause to be, unless what is due at them can't be said.
use Rattle.std.proofs.Common.{◌≡◌, ℕ, ◌==◌, Bool, true, false, not, ◌&&◌, ◌||◌, List, ◌∷◌, Option, Some, None, is_some}
use Rattle.std.proofs.Common.{refl, sym, ap, subst, ◌∙◌, true≢false}
use Rattle.std.specs.Prelude.{if◌then◌else◌, option_map}
use Rattle.std.proofs.lemmas.Bool.{both_ways, eq-eqb}
use Rattle.hd_delivery.specs.Histories.{is_this}
use Rattle.hd_calls.specs.Hubs.{Hub}
use Rattle.hd_calls.specs.Peers.{PeerEvent, Settings}
use Rattle.hd_server.specs.declared.vocabulary.Said.{Said}
use Rattle.hd_server.specs.Lives.{Answered, ConnectionEvent, is_polling, lost_at, poll_ended, poll_of, socket_of}
use Rattle.hd_server.specs.Machine.{MachineEvent, moves}
use Rattle.hd_server.specs.Doings.{ServerEvent, is_full, moment, notes, work}
use Rattle.hd_server.specs.Plans.{Setup}
use Rattle.hp_peer.specs.declared.peer.Peer.{Peer}
use Rattle.hub_machine.specs.declared.machine.Machine.{Machine}
use Rattle.hub_machine.specs.declared.idle_set.IdleClock.{IdleClock}
use Rattle.hub_machine.specs.declared.idle_set.IdlePeer.{IdlePeer}
use Rattle.hub_machine.specs.IdleSet.{clock_at, rounds_begun}
use Rattle.hub_machine.specs.Machines.{IsAtRest, IsKeptAs, Sleeps, StandsMachine, is_awake_at, idle_peer_at, peer_at, settings_there}
use Rattle.hub_machine.specs.Sleeping.{IsUpFor, IsUpWithCause, KeepsOthers}
use Rattle.hub_server.specs.declared.server.Server.{Server}
use Rattle.hub_server.specs.Lanes.{Unsettled}
use Rattle.hub_server.specs.Servers.{IsLeftAlone, IsOrderly, Standing, may_speak, may_speak_on}
use Rattle.hub_server.proofs.Alike.{Alike}
use Rattle.hub_server.proofs.FlushOthersUnchanged.{Unheard}

-- ---- at other connections nothing is done

pub keeps_same : {H Job : Type 0} (old new : Machine H Job) (c : ℕ) → new ≡ old → KeepsOthers {H = H} old new c
keeps_same old new c e = record {
  clock = ap (λ m. m.idle_set.clock) e;
  peers = λ k f. ap (λ m. peer_at m k) e;
  idle_peers = λ k f. ap (λ m. idle_peer_at m k) e;
}

pub keeps_then : {H Job : Type 0} (old mid new : Machine H Job) (c : ℕ) → KeepsOthers {H = H} old mid c → KeepsOthers {H = H} mid new c
    → KeepsOthers {H = H} old new c
keeps_then old mid new c x y = record {
  clock = y.clock ∙ x.clock;
  peers = λ k e. y.peers k e ∙ x.peers k e;
  idle_peers = λ k e. y.idle_peers k e ∙ x.idle_peers k e;
}

-- ---- cause to be awake

-- one that isn't there has it
pub up_gone : {H Job : Type 0} (hub : Hub Job) (m : Machine H Job) (c : ℕ) → peer_at m c ≡ None → IsUpWithCause {H = H} hub m c
up_gone {H} {Job} hub m c e = subst (λ p. IsUpFor {H = H} hub m.idle_set.clock (idle_peer_at m c) p) (sym e) (by (idle_peer_at m c))
  where
    by : (o : Option IdlePeer) → IsUpFor {H = H} {Job = Job} hub m.idle_set.clock o None
    by None = tt
    by (Some idle_peer) = tt

-- so has one that isn't awake
pub up_unawake : {H Job : Type 0} (hub : Hub Job) (m : Machine H Job) (c : ℕ) → is_awake_at m c ≡ false → IsUpWithCause {H = H} hub m c
up_unawake {H} {Job} hub m c e = by (idle_peer_at m c) (peer_at m c) e
  where
    by : (o : Option IdlePeer) (p : Option (Peer H Job)) → (is_some p && not (is_some o)) ≡ false → IsUpFor {H = H} hub m.idle_set.clock o p
    by (Some idle_peer) p f = tt
    by None None f = tt
    by None (Some p) f = absurd (true≢false f)

-- it has it where nothing was done at it
pub up_still : {H Job : Type 0} (hub : Hub Job) (old new : Machine H Job) (c k : ℕ) → KeepsOthers {H = H} old new c → (c == k) ≡ false
    → IsUpWithCause {H = H} hub old k → IsUpWithCause {H = H} hub new k
up_still {H} hub old new c k keeps e up =
    subst (λ x. IsUpFor {H = H} hub x (idle_peer_at new k) (peer_at new k)) (sym keeps.clock)
    (subst (λ o. IsUpFor {H = H} hub old.idle_set.clock o (peer_at new k)) (sym (keeps.idle_peers k e))
    (subst (λ p. IsUpFor {H = H} hub old.idle_set.clock (idle_peer_at old k) p) (sym (keeps.peers k e)) up))

-- a clock that stands at the moment, and counts the rounds
clock_is : (k : IdleClock) (now : ℕ) (w : List MachineEvent) → k.moment ≡ now → k.rounds ≡ rounds_begun w → k ≡ clock_at now w
clock_is k now w e f = λ i. record { moment = e i; rounds = f i }

-- so it sleeps exactly if it may
pub left_alone : {H Job : Type 0} (hub : Hub Job) (m : Machine H Job) (c : ℕ) (h : List ServerEvent) → StandsMachine {H = H} hub m (work h)
    → m.idle_set.clock.moment ≡ moment h → (may_speak c h ≡ true → IsUpWithCause {H = H} hub m c) → IsLeftAlone {H = H} m c h
left_alone {H} {Job} hub m c h s on_time up t there speaks =
    subst (λ k. IsAtRest k (idle_peer_at m c) t (moves c (work h))) (clock_is m.idle_set.clock (moment h) (work h) on_time s.rounds)
    (by (idle_peer_at m c) (peer_at m c)
    (subst (λ (o : Option Settings). IsKeptAs {H = H} hub m.idle_set.clock (idle_peer_at m c) o (moves c (work h)) (peer_at m c)) there (s.at c)) (up speaks))
  where
    by : (o : Option IdlePeer) (p : Option (Peer H Job)) → IsKeptAs {H = H} hub m.idle_set.clock o (Some t) (moves c (work h)) p
        → IsUpFor {H = H} hub m.idle_set.clock o p → IsAtRest m.idle_set.clock o t (moves c (work h))
    by None None kept u = absurd kept
    by None (Some p) kept u = u t (moves c (work h)) kept
    by (Some idle_peer) None kept u = absurd kept
    by (Some idle_peer) (Some p) kept u =
        let z : Sleeps {H = H} hub m.idle_set.clock idle_peer t p (moves c (work h)) = kept in z.may

-- ---- whether what is due can be said

-- it can where all is the same
pub speaks_alike : (c : ℕ) (g h : List ServerEvent) → Alike c g h → Unheard g h → may_speak c g ≡ may_speak c h
speaks_alike c g h alike unheard = ap (λ (o : Option ℕ). may_speak_on c o g) alike.socket ∙ by (socket_of c (notes h))
  where
    by : (o : Option ℕ) → may_speak_on c o g ≡ may_speak_on c o h
    by (Some lane) = ap not (unheard.full lane)
    by None =
        ap (λ (o : Option (ℕ × ℕ)). not (is_some o || is_some (poll_ended c (notes g))) || is_some o) alike.poll
        ∙ ap (λ (o : Option ℕ). not (is_some (poll_of c (notes h)) || is_some o) || is_some (poll_of c (notes h))) alike.polled

-- on a full lane it can't
pub full_is_mute : (c lane : ℕ) (h : List ServerEvent) → socket_of c (notes h) ≡ Some lane → is_full lane h ≡ true → may_speak c h ≡ false
full_is_mute c lane h on full = ap (λ (o : Option ℕ). may_speak_on c o h) on ∙ ap not full

-- nor by one that polls and holds no poll
pub unpolled_is_mute : {H Job : Type 0} (hub : Hub Job) (s : Setup) (u : Unsettled) (before : List Said) (v : Server H Job) (c : ℕ) (h : List ServerEvent)
    → Standing {H = H} hub s u before v h → is_polling c (notes h) ≡ true → poll_of c (notes h) ≡ None → may_speak c h ≡ false
unpolled_is_mute {H} hub s u before v c h x polls none =
    ap (λ (o : Option ℕ). may_speak_on c o h) off ∙ ap (λ b. not b || is_some (poll_of c (notes h))) polls ∙ ap is_some none
  where
    off : socket_of c (notes h) ≡ None
    off = by (socket_of c (notes h)) (sym (ap (λ b. (is_some (socket_of c (notes h)) || is_some (lost_at c (notes h))) && b) polls)
        ∙ (let o : IsOrderly u c h = x.orderly c in o.one_way))
      where
        by : (o : Option ℕ) → ((is_some o || is_some (lost_at c (notes h))) && true) ≡ false → o ≡ None
        by None e = refl
        by (Some lane) e = absurd (true≢false e)

-- one whose poll was answered polls on, and holds none
answered_is : (c lane now : ℕ) (n : List ConnectionEvent) (since : ℕ) → poll_of c n ≡ Some (lane, since)
    → ((c == c) && is_this lane (option_map (λ (p : ℕ × ℕ). p.0) (poll_of c n))) ≡ true
answered_is c lane now n since e =
    ap (λ b. b && is_this lane (option_map (λ (p : ℕ × ℕ). p.0) (poll_of c n))) (eq-eqb c c refl)
    ∙ ap (λ (o : Option (ℕ × ℕ)). is_this lane (option_map (λ (p : ℕ × ℕ). p.0) o)) e ∙ eq-eqb lane lane refl

pub answered_none : (c lane now : ℕ) (n : List ConnectionEvent) (since : ℕ) → poll_of c n ≡ Some (lane, since) → poll_of c (Answered c lane now ∷ n) ≡ None
answered_none c lane now n since e = ap (λ b. if b then None else poll_of c n) (answered_is c lane now n since e)

pub answered_polls : (c lane now : ℕ) (n : List ConnectionEvent) (since : ℕ) → poll_of c n ≡ Some (lane, since)
    → is_polling c (Answered c lane now ∷ n) ≡ true
answered_polls c lane now n since e =
    ap (λ b. is_some (if b then None else poll_of c n) || is_some (if b then Some now else poll_ended c n)) (answered_is c lane now n since e)
