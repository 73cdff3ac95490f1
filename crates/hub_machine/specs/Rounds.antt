-- A round under way, connection by connection.
use Rattle.std.specs.Prelude.{◌≡◌, ℕ, suc, ◌<◌, ◌≤◌, Bool, true, false, ◌&&◌, nat_le, length, List, [], ◌∷◌, ◌++◌, Option, Some, None, is_some}
use Rattle.hd_calls.specs.declared.vocabulary.Deed.{Deed}
use Rattle.hd_calls.specs.Hubs.{Hub}
use Rattle.hd_rooms.specs.declared.vocabulary.Asked.{Asked}
use Rattle.hd_calls.specs.Peers as peers
use Rattle.hd_calls.specs.Peers.{begun}
use Rattle.hd_calls.specs.Rules.{passed}
use Rattle.hd_server.specs.Machine.{MachineEvent, Carries, Rounds, GoesOn, IsAskedFor, IsRound, NothingOwed, OwesDeed, fates_of, is_there, last_turn, moves, owed, settings_of, turn_at, who_of}
use Rattle.hp_peer.specs.declared.peer.Peer.{Peer}
use Rattle.hp_peer.specs.Stands.{OfEach, Stands}
use Rattle.hub_machine.specs.declared.machine.Machine.{Machine}
use Rattle.hub_machine.specs.Spreads.{is_listed}
use Rattle.hub_machine.specs.Machines.{StandsMachine, is_awake_at}
use Rattle.hub_machine.specs.KeeperState.{KeeperState, HasAnsweredDuring}

-- numbers that rise
abbrev pub AreRising : List ℕ → Type 0
AreRising [] = Unit {0}
AreRising (c ∷ []) = Unit {0}
AreRising (c ∷ k ∷ cs) = (c < k) × AreRising (k ∷ cs)

-- these are the connections that are awake, in order
pub record AreNumbers {H Job : Type 0} (m : Machine H Job) (conns : List ℕ) : Type 0 where
  pub rise : AreRising conns
  pub are : (c : ℕ) → is_awake_at m c ≡ is_listed c conns

-- a round has begun at the peer, if there is one
abbrev pub HasBegun : {H Job : Type 0} → Hub Job → Option (Peer H Job) → Option (Peer H Job) → Type 0
HasBegun hub None None = Unit {0}
HasBegun hub (Some old) (Some new) = OfEach hub old (λ t h. Stands hub t new (peers.Rounds ∷ h))
HasBegun hub _ _ = ⊥

-- as many calls have begun a job at this connection, if it is there
abbrev pub IsCountOfJobs : ℕ → List MachineEvent → ℕ → Type 0
IsCountOfJobs c r n = is_there c r ≡ true → n ≡ length (begun (moves c r))

-- a connection would have a turn, if it came now
abbrev pub has_turn : ℕ → List MachineEvent → Bool
has_turn c w = nat_le (last_turn w) c && (is_there c w && is_some (turn_at c w))

-- these are the happenings of a round so far, which began after those
pub record IsOfRound (now : ℕ) (w r : List MachineEvent) : Type 0 where
  pub since : List MachineEvent
  pub are : r ≡ since ++ Rounds now ∷ w
  pub each : GoesOn now since (Rounds now ∷ w)

-- the round has come to this connection: those before it have no turn left
pub record InRound (now : ℕ) (w r : List MachineEvent) (c : ℕ) : Type 0 where
  pub of_round : IsOfRound now w r
  pub settled : owed r ≡ NothingOwed
  pub last : last_turn r ≤ c
  pub none_before : (k : ℕ) → k < c → has_turn k r ≡ false

-- a job of this connection has handed up a deed, which comes next
pub record AtDeed (now : ℕ) (w r : List MachineEvent) (c j : ℕ) (d : Deed) : Type 0 where
  pub of_round : IsOfRound now w r
  pub owes : owed r ≡ OwesDeed c j d
  pub last : last_turn r ≡ c

-- the deed is carried out
pub record IsCarried {H Job : Type 0} (hub : Hub Job) (new : Machine H Job) (before now : KeeperState) (r : List MachineEvent) (c j : ℕ) (d : Deed) : Type 0 where
  pub asked : Option Asked
  pub is_asked : IsAskedFor d (who_of (settings_of c r)) asked
  pub stands : StandsMachine hub new (Carries c j d (fates_of d r) asked ∷ r)
  pub goes : HasAnsweredDuring before now r (Carries c j d (fates_of d r) asked ∷ r)

-- jobs of this connection had turns, and none handed up a deed
pub record HasStepped {H Job : Type 0} (hub : Hub Job) (new : Machine H Job) (now : ℕ) (w r : List MachineEvent) (c : ℕ) : Type 0 where
  pub after : List MachineEvent
  pub stands : StandsMachine hub new after
  pub in_round : InRound now w after (suc c)
  pub same_begun : begun (moves c after) ≡ begun (moves c r)
  pub goes : (o : KeeperState) → HasAnsweredDuring o o r after

-- until one handed one up: its number, and what
pub record HasHandedUp {H Job : Type 0} (hub : Hub Job) (new : Machine H Job) (now : ℕ) (w r : List MachineEvent) (c : ℕ) (number : ℕ) (d : Deed) : Type 0 where
  pub job : ℕ
  pub number_is : number ≡ suc job
  pub after : List MachineEvent
  pub stands : StandsMachine hub new after
  pub at_deed : AtDeed now w after c job d
  pub further : passed (moves c r) < passed (moves c after)
  pub same_begun : begun (moves c after) ≡ begun (moves c r)
  pub goes : (o : KeeperState) → HasAnsweredDuring o o r after

abbrev pub Steps : {H Job : Type 0} → Hub Job → Machine H Job → ℕ → List MachineEvent → List MachineEvent → ℕ → Option (ℕ × Deed) → Type 0
Steps hub new now w r c None = HasStepped hub new now w r c
Steps hub new now w r c (Some (number, d)) = HasHandedUp hub new now w r c number d

-- all jobs of this connection had their turns
pub record HasTurned {H Job : Type 0} (hub : Hub Job) (new : Machine H Job) (before after : KeeperState) (now : ℕ) (w r : List MachineEvent) (c : ℕ) : Type 0 where
  pub to : List MachineEvent
  pub stands : StandsMachine hub new to
  pub in_round : InRound now w to (suc c)
  pub goes : HasAnsweredDuring before after r to

-- a whole round, and what it asked of the keeper
pub record HasRound {H Job : Type 0} (hub : Hub Job) (new : Machine H Job) (before after : KeeperState) (now : ℕ) (w : List MachineEvent) : Type 0 where
  pub round : List MachineEvent
  pub is_round : IsRound now round w
  pub stands : StandsMachine hub new (round ++ Rounds now ∷ w)
  pub goes : HasAnsweredDuring before after w (round ++ Rounds now ∷ w)
