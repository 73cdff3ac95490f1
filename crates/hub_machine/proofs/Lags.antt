-- The peer of a connection that is there: it stands for what the connection did or, if it sleeps, for what says the same but for the time.
use Rattle.std.proofs.Common.{◌≡◌, ℕ, List, [], Option, Some, None, IfSome, is_some, refl, sym, subst}
use Rattle.hd_calls.specs.Hubs.{Hub}
use Rattle.hd_calls.specs.Peers.{PeerEvent, Settings, codec, steps}
use Rattle.hd_calls.specs.Rules.{IsPeer}
use Rattle.hd_delivery.specs.Bytes.{IsSoundWire}
use Rattle.hd_delivery.specs.Histories.{sent_messages}
use Rattle.hd_server.specs.Machine.{MachineEvent, moves}
use Rattle.he_end.specs.Stands.{limits_of}
use Rattle.he_wire.specs.Laws.{WireIsSound}
use Rattle.he_wire.specs.Wires.{AreSaid}
use Rattle.hp_peer.specs.declared.peer.Peer.{Peer}
use Rattle.hp_peer.specs.Stands.{Stands}
use Rattle.hub_machine.specs.declared.machine.Machine.{Machine}
use Rattle.hub_machine.specs.declared.idle_set.IdleClock.{IdleClock}
use Rattle.hub_machine.specs.declared.idle_set.IdlePeer.{IdlePeer}
use Rattle.hub_machine.specs.Machines.{IsKeptAs, SaysAsSent, StandsMachine, idle_peer_at, peer_at, settings_there}
use Rattle.hub_machine.proofs.Doing.{peer_is}
use Rattle.hub_machine.proofs.Idling.{SameButTime, idle_same, slept_same}

-- whether it sleeps or not
pub record Lags {H Job : Type 0} (hub : Hub Job) (t : Settings) (p : Peer H Job) (h : List PeerEvent) : Type 0 where
  pub before : List PeerEvent
  pub stands : Stands hub t p before
  pub same : SameButTime t before h
  pub peer : IsPeer hub t h

-- it doesn't where its peer stands for what the connection did
abbrev pub at_once : {H Job : Type 0} (hub : Hub Job) (t : Settings) (p : Peer H Job) (h : List PeerEvent) → Stands {H = H} hub t p h → Lags {H = H} hub t p h
at_once {H} {Job} hub t p h s = record { before = h; stands = s; same = idle_same t h [] refl; peer = peer_is {H = H} {Job = Job} hub t p h s }

-- its wire is sound
pub is_sound : {H Job : Type 0} (hub : Hub Job) (t : Settings) (p : Peer H Job) (h : List PeerEvent) → Stands {H = H} hub t p h → WireIsSound
    → IsSoundWire t.limits t.wire
is_sound hub t p h s sound = subst (λ l. IsSoundWire l t.wire) (sym s.limits) (sound (limits_of p.end) t.wire s.end.house)

-- what holds of none that isn't there, and of each that is there by its peer, holds of each
pub kept_either : {H Job : Type 0} (hub : Hub Job) (clock : IdleClock) (P : Option Settings → Option (Peer H Job) → Type 0) (idle_peer : Option IdlePeer)
    (o : Option Settings) (h : List PeerEvent) (p : Option (Peer H Job)) → P None None
    → ((t : Settings) (q : Peer H Job) → Lags {H = H} hub t q h → P (Some t) (Some q)) → IsKeptAs {H = H} hub clock idle_peer o h p → P o p
kept_either {H} {Job} hub clock P None None h None none there x = none
kept_either {H} {Job} hub clock P None None h (Some q) none there x = absurd x
kept_either {H} {Job} hub clock P None (Some t) h None none there x = absurd x
kept_either {H} {Job} hub clock P None (Some t) h (Some q) none there x =
    there t q (at_once {H = H} {Job = Job} hub t q h x)
kept_either {H} {Job} hub clock P (Some idle_peer) (Some t) h (Some q) none there x =
    there t q (record { before = x.before; stands = x.stood; same = slept_same {H = H} {Job = Job} hub clock idle_peer t q h x; peer = x.peer })
kept_either {H} {Job} hub clock P (Some idle_peer) (Some t) h None none there x = absurd x
kept_either {H} {Job} hub clock P (Some idle_peer) None h p none there x = absurd x

-- so there is a peer exactly if one is there
pub kept_there : {H Job : Type 0} (hub : Hub Job) (clock : IdleClock) (idle_peer : Option IdlePeer) (o : Option Settings) (h : List PeerEvent) (p : Option (Peer H Job))
    → IsKeptAs {H = H} hub clock idle_peer o h p → is_some o ≡ is_some p
kept_there {H} {Job} hub clock idle_peer o h p =
    kept_either {H = H} {Job = Job} hub clock (λ o p. is_some o ≡ is_some p) idle_peer o h p refl (λ t q x. refl)

-- what it did, a peer may do
pub kept_is_peer : {H Job : Type 0} (hub : Hub Job) (clock : IdleClock) (idle_peer : Option IdlePeer) (t : Settings) (h : List PeerEvent) (p : Option (Peer H Job))
    → IsKeptAs {H = H} hub clock idle_peer (Some t) h p → IsPeer hub t h
kept_is_peer {H} {Job} hub clock idle_peer t h p =
    kept_either {H = H} {Job = Job} hub clock (λ o p. IfSome o (λ t. IsPeer hub t h)) idle_peer (Some t) h p tt (λ t q x. x.peer)

-- what it sent while its peer kept up is all that it sent
lag_says : {H Job : Type 0} (hub : Hub Job) (t : Settings) (p : Peer H Job) (h : List PeerEvent) → Lags {H = H} hub t p h → SaysAsSent t h
lag_says hub t p h x =
    subst (λ k. AreSaid k (sent_messages (steps t h))) (sym x.same.coded) (subst (λ ms. AreSaid (codec t x.before) ms) (sym x.same.sent) x.stands.end.said)

-- and each message that it sent is said by its frame
pub kept_says : {H Job : Type 0} (hub : Hub Job) (clock : IdleClock) (idle_peer : Option IdlePeer) (t : Settings) (h : List PeerEvent) (p : Option (Peer H Job))
    → IsKeptAs {H = H} hub clock idle_peer (Some t) h p → SaysAsSent t h
kept_says {H} {Job} hub clock idle_peer t h p =
    kept_either {H = H} {Job = Job} hub clock (λ o p. IfSome o (λ t. SaysAsSent t h)) idle_peer (Some t) h p tt
    (λ t q x. lag_says {H = H} {Job = Job} hub t q h x)

-- ---- one that is there

-- its peer lags behind, or not
pub lags : {H Job : Type 0} (hub : Hub Job) (m : Machine H Job) (w : List MachineEvent) (c : ℕ) (t : Settings) (p : Peer H Job)
    → StandsMachine {H = H} hub m w → settings_there c w ≡ Some t → Some p ≡ peer_at m c → Lags {H = H} hub t p (moves c w)
lags {H} {Job} hub m w c t p s there at =
    kept_either {H = H} {Job = Job} hub m.idle_set.clock (λ o q. IfSome o (λ t. IfSome q (λ p. Lags {H = H} hub t p (moves c w)))) (idle_peer_at m c)
    (Some t) (moves c w) (Some p) tt (λ t q x. x)
    (subst (λ (o : Option Settings). IsKeptAs {H = H} hub m.idle_set.clock (idle_peer_at m c) o (moves c w) (Some p)) there
    (subst (λ (q : Option (Peer H Job)). IsKeptAs {H = H} hub m.idle_set.clock (idle_peer_at m c) (settings_there c w) (moves c w) q) (sym at) (s.at c)))
