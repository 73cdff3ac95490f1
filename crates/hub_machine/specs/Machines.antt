-- What a machine stands for: the happenings of which its peers and its registry remember what matters.
use Rattle.std.specs.Prelude.{◌≡◌, ◌⊎◌, ◌<◌, ◌≤◌, ◌==◌, ℕ, Bool, true, false, not, ◌&&◌, List, [], ◌++◌, Option, Some, None, is_some, if◌then◌else◌}
use Rattle.std.specs.List.{list_all}
use Rattle.std.specs.Ordering.{nat_cmp}
use Rattle.std.specs.BTreeMap.{btree_map_len, get}
use Rattle.std.specs.Vec.{vec_capacity}
use Rattle.hd_delivery.specs.Histories as of
use Rattle.hd_delivery.specs.Histories.{Ticked, present_link, sent_messages}
use Rattle.hd_delivery.specs.Due.{due, is_unseen}
use Rattle.hd_delivery.specs.Bytes.{Does as Step_of}
use Rattle.hd_delivery.specs.Numbers.{most_of_64_bits}
use Rattle.hd_calls.specs.Hubs.{Hub}
use Rattle.hd_calls.specs.Peers.{PeerEvent, Plain, Rounds, Settings, codec, is_shut, steps}
use Rattle.hd_calls.specs.Rules.{IsPeer, IsPeerDue, passed}
use Rattle.hd_rooms.specs.Registry.{without}
use Rattle.he_wire.specs.Wires.{AreSaid}
use Rattle.hg_groups.specs.Standing.{StandsRegistry}
use Rattle.hd_server.specs.Machine.{MachineEvent, ArePeers, has_gone, joined, moves, registry, settings_of}
use Rattle.hp_peer.specs.declared.peer.Peer.{Peer}
use Rattle.hp_peer.specs.Stands.{Stands}
use Rattle.hub_machine.specs.declared.machine.Machine.{Machine}
use Rattle.hub_machine.specs.declared.idle_set.IdleClock.{IdleClock}
use Rattle.hub_machine.specs.declared.idle_set.IdlePeer.{IdlePeer}
use Rattle.hub_machine.specs.IdleSet.{IsKept, is_awake_in, idle_peer_of, rounds_begun}

-- the peer of a connection
abbrev pub peer_at : {H Job : Type 0} → Machine H Job → ℕ → Option (Peer H Job)
peer_at m c = get nat_cmp m.peers c

-- how the peer of a connection was begun, if it is there
abbrev pub settings_there : ℕ → List MachineEvent → Option Settings
settings_there c w = if has_gone c w then None else settings_of c w

-- there is a peer exactly if one is there, and it stands for these moves
abbrev pub IsPeerOf : {H Job : Type 0} → Hub Job → Option Settings → List PeerEvent → Option (Peer H Job) → Type 0
IsPeerOf hub None h None = Unit {0}
IsPeerOf hub (Some t) h (Some p) = Stands hub t p h
IsPeerOf hub _ h _ = ⊥

-- ---- those that sleep

abbrev pub idle_peer_at : {H Job : Type 0} → Machine H Job → ℕ → Option IdlePeer
idle_peer_at m c = idle_peer_of m.idle_set c

-- it has a peer, and doesn't sleep
abbrev pub is_awake_at : {H Job : Type 0} → Machine H Job → ℕ → Bool
is_awake_at m c = is_some (peer_at m c) && not (is_some (idle_peer_at m c))

-- a round's beginning, or a tick on a link that changes nothing but the moment of what was before
abbrev pub is_idle : Settings → List PeerEvent → PeerEvent → Bool
is_idle t g Rounds = true
is_idle t g (Plain (Step_of (Ticked now))) = is_some (present_link (steps t g)) && is_unseen t.config now (steps t g)
is_idle t g _ = false

-- An end on a link has ticked to the moment, and its alarm comes later: before it no tick does more than pass, and from then on each does.
-- Without an alarm it is on no link
abbrev pub IsDeadlineOf : ℕ → Option ℕ → Settings → List PeerEvent → Type 0
IsDeadlineOf clock None t h = present_link (steps t h) ≡ None
IsDeadlineOf clock (Some moment) t h =
    (is_some (present_link (steps t h)) ≡ true) × (of.moment (steps t h) ≡ clock) × (clock < moment)
    × ((now : ℕ) → now < moment → is_unseen t.config now (steps t h) ≡ true)
    × (moment ≤ most_of_64_bits) × ((now : ℕ) → moment ≤ now → now < most_of_64_bits → is_unseen t.config now (steps t h) ≡ false)

-- The connection may sleep: its end is open, no job is due, nothing is due on its link, and before the alarm time only passes. After a turn
-- of a job the beginning of the next round must still be counted
pub record MaySleep (clock : IdleClock) (alarm : Option ℕ) (t : Settings) (h : List PeerEvent) : Type 0 where
  pub unshut : is_shut t h ≡ false
  pub undue : IsPeerDue t h → ⊥
  pub unsaid : due t.config (steps t h) ≡ None
  pub deadline : IsDeadlineOf clock.moment alarm t h
  pub counted : (passed h ≡ 0) ⊎ (clock.rounds < most_of_64_bits)

-- with no alarm, and without one
abbrev pub CannotSleep : IdleClock → Settings → List PeerEvent → Type 0
CannotSleep clock t h = (alarm : Option ℕ) → MaySleep clock alarm t h → ⊥

-- the connection sleeps exactly if it may, with its alarm
abbrev pub IsAtRest : IdleClock → Option IdlePeer → Settings → List PeerEvent → Type 0
IsAtRest clock None t h = CannotSleep clock t h
IsAtRest clock (Some idle_peer) t h = MaySleep clock idle_peer.deadline t h

-- The peer of a connection that sleeps stands for what was before, since which nothing but idle moves came. Whether a round has begun since
-- is told by their number
pub record Sleeps {H Job : Type 0} (hub : Hub Job) (clock : IdleClock) (idle_peer : IdlePeer) (t : Settings) (p : Peer H Job) (h : List PeerEvent) : Type 0 where
  pub before : List PeerEvent
  pub since : List PeerEvent
  pub are : h ≡ since ++ before
  pub idle : list_all (is_idle t before) since ≡ true
  pub stood : Stands hub t p before
  pub begun : idle_peer.rounds ≤ clock.rounds
  pub marked : passed h ≡ (if idle_peer.rounds == clock.rounds then passed before else 0)
  pub peer : IsPeer hub t h
  pub may : MaySleep clock idle_peer.deadline t h

-- the peer of a connection that is awake stands for its moves, and that of one that sleeps lags behind
abbrev pub IsKeptAs : {H Job : Type 0} → Hub Job → IdleClock → Option IdlePeer → Option Settings → List PeerEvent → Option (Peer H Job) → Type 0
IsKeptAs hub clock None t h p = IsPeerOf hub t h p
IsKeptAs hub clock (Some idle_peer) (Some t) h (Some p) = Sleeps hub clock idle_peer t p h
IsKeptAs hub clock (Some idle_peer) _ h _ = ⊥

-- Those that are awake are in the list of these, which has room for all: each connection that is there is awake or sleeps, and none is both.
-- The alarms of those that sleep are set, and no others
pub record IsIndexed {H Job : Type 0} (m : Machine H Job) : Type 0 where
  pub kept : IsKept m.idle_set
  pub awake : (c : ℕ) → is_awake_in m.idle_set c ≡ is_awake_at m c
  pub room : btree_map_len m.peers ≤ vec_capacity m.idle_set.awake.numbers

-- ---- the machine

-- nothing was done by it or for it
pub record IsStranger (c : ℕ) (w : List MachineEvent) : Type 0 where
  pub unknown : has_gone c w ≡ false
  pub unmoved : moves c w ≡ []
  pub in_no_group : without c (joined w) ≡ joined w

-- each message that an end sent is said by its frame, in the codec that the end speaks
abbrev pub SaysAsSent : Settings → List PeerEvent → Type 0
SaysAsSent t h = AreSaid (codec t h) (sent_messages (steps t h))

-- so it is at each connection, those that have gone among them
abbrev pub AllSayAsSent : List MachineEvent → Type 0
AllSayAsSent w = (c : ℕ) (t : Settings) → settings_of c w ≡ Some t → SaysAsSent t (moves c w)

-- The machine stands for these happenings, the latest first. Connections are numbered from 1
pub record StandsMachine {H Job : Type 0} (hub : Hub Job) (m : Machine H Job) (w : List MachineEvent) : Type 0 where
  pub at : (c : ℕ) → IsKeptAs hub m.idle_set.clock (idle_peer_at m c) (settings_there c w) (moves c w) (peer_at m c)
  pub index : IsIndexed m
  pub rounds : m.idle_set.clock.rounds ≡ rounds_begun w
  pub registry : StandsRegistry m.registry (registry w)
  pub peers : ArePeers hub w
  pub said : AllSayAsSent w
  pub strangers : (c : ℕ) → settings_of c w ≡ None → IsStranger c w
  pub from_one : settings_of 0 w ≡ None

-- of all happenings for which the machine stood, how the peer of this connection was begun, which is there, and what it did
abbrev pub OfConn : {H Job : Type 0} → Hub Job → Machine H Job → ℕ → (List MachineEvent → Settings → List PeerEvent → Type 0) → Type 0
OfConn hub m c Holds = (w : List MachineEvent) (t : Settings) → StandsMachine hub m w → settings_there c w ≡ Some t → Holds w t (moves c w)

-- The machine stands for what it stood for, and has the registry that it had
pub record IsAsItWas {H Job : Type 0} (hub : Hub Job) (old new : Machine H Job) : Type 0 where
  pub registry : new.registry ≡ old.registry
  pub stands : (w : List MachineEvent) → StandsMachine hub old w → StandsMachine hub new w
