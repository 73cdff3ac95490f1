-- What becomes of those that sleep as time passes.
use Rattle.std.specs.Prelude.{◌≡◌, ◌<◌, ◌≤◌, ◌==◌, ℕ, false, List, ◌∷◌, Option, Some, None, is_some, if◌then◌else◌}
use Rattle.hd_delivery.specs.Histories as of
use Rattle.hd_delivery.specs.Histories.{Ticked}
use Rattle.hd_delivery.specs.Bytes.{Does as Step_of}
use Rattle.hd_calls.specs.Hubs.{Hub}
use Rattle.hd_calls.specs.Peers.{PeerEvent, Plain, Settings, steps}
use Rattle.hd_server.specs.Machine.{MachineEvent, has_gone, joined, moves, settings_of, user_pairs}
use Rattle.hp_peer.specs.declared.peer.Peer.{Peer}
use Rattle.hp_peer.specs.Stands.{OfEach}
use Rattle.hub_machine.specs.declared.machine.Machine.{Machine}
use Rattle.hub_machine.specs.declared.idle_set.IdleClock.{IdleClock}
use Rattle.hub_machine.specs.declared.idle_set.IdlePeer.{IdlePeer}
use Rattle.hub_machine.specs.Machines.{CannotSleep, MaySleep, idle_peer_at, peer_at, settings_there}
use Rattle.hub_machine.specs.IdleSet.{deadline_in, rounds_begun}

-- the connection is awake, and may have this nap
pub record IsDrowsy {H Job : Type 0} (m : Machine H Job) (c : ℕ) (idle_peer : IdlePeer) (t : Settings) (h : List PeerEvent) : Type 0 where
  pub awake : idle_peer_at m c ≡ None
  pub may : MaySleep m.idle_set.clock idle_peer.deadline t h

-- with this alarm, or without one, the connection may sleep; or it may not
abbrev pub IsNapOf : IdleClock → Option (Option ℕ) → Settings → List PeerEvent → Type 0
IsNapOf clock None t h = CannotSleep clock t h
IsNapOf clock (Some alarm) t h = MaySleep clock alarm t h

-- whatever the peer of one that is awake stands for, it may not sleep
abbrev pub IsUpFor : {H Job : Type 0} → Hub Job → IdleClock → Option IdlePeer → Option (Peer H Job) → Type 0
IsUpFor hub clock (Some idle_peer) p = Unit {0}
IsUpFor hub clock None None = Unit {0}
IsUpFor hub clock None (Some p) = OfEach hub p (λ t h. CannotSleep clock t h)

-- so it is with this connection: it isn't awake where it may sleep
abbrev pub IsUpWithCause : {H Job : Type 0} → Hub Job → Machine H Job → ℕ → Type 0
IsUpWithCause hub m c = IsUpFor hub m.idle_set.clock (idle_peer_at m c) (peer_at m c)

-- at the other connections nothing was done
pub record KeepsOthers {H Job : Type 0} (old new : Machine H Job) (c : ℕ) : Type 0 where
  pub clock : new.idle_set.clock ≡ old.idle_set.clock
  pub peers : (k : ℕ) → (c == k) ≡ false → peer_at new k ≡ peer_at old k
  pub idle_peers : (k : ℕ) → (c == k) ≡ false → idle_peer_at new k ≡ idle_peer_at old k

-- at the moment no alarm has come
abbrev pub NoneRings : {H Job : Type 0} → Machine H Job → ℕ → Type 0
NoneRings m now = (c moment : ℕ) → deadline_in (idle_peer_at m c) ≡ Some moment → now < moment

-- those whose alarms haven't come, and those that have none, sleep on
abbrev pub SleepOn : {H Job : Type 0} → Machine H Job → Machine H Job → ℕ → Type 0
SleepOn old new now = (c : ℕ) → ((moment : ℕ) → deadline_in (idle_peer_at old c) ≡ Some moment → now < moment)
    → idle_peer_at new c ≡ idle_peer_at old c

-- no end did anything after the moment
abbrev pub AreTimely : ℕ → List MachineEvent → Type 0
AreTimely now w = (c : ℕ) (t : Settings) → settings_there c w ≡ Some t → of.moment (steps t (moves c w)) ≤ now

-- the end of each that sleeps on a link ticked at the moment, and nothing else was done
pub record HasPassed {H Job : Type 0} (m : Machine H Job) (now : ℕ) (w v : List MachineEvent) : Type 0 where
  pub settings : (c : ℕ) → settings_of c v ≡ settings_of c w
  pub gone : (c : ℕ) → has_gone c v ≡ has_gone c w
  pub moved : (c : ℕ) → moves c v ≡ (if is_some (deadline_in (idle_peer_at m c)) then Plain (Step_of (Ticked now)) ∷ moves c w else moves c w)
  pub joins : joined v ≡ joined w
  pub users : user_pairs v ≡ user_pairs w
  pub rounds : rounds_begun v ≡ rounds_begun w
