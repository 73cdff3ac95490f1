-- What calls of one connection come to.
use Rattle.std.specs.Prelude.{◌≡◌, ◌⊎◌, ℕ, Bool, true, false, List, [], ◌∷◌, ◌++◌, Option, Some, None}
use Rattle.hm_message.specs.declared.message.Message.{Message}
use Rattle.hd_delivery.specs.declared.vocabulary.Got.TheVariants as gives
use Rattle.hd_delivery.specs.Histories.{EndEvent, Took, Failed, Fault, Lent}
use Rattle.hd_delivery.specs.Frames.{LinkFrame}
use Rattle.hd_delivery.specs.Due.{due}
use Rattle.hd_delivery.specs.Processes.{processes}
use Rattle.hd_delivery.specs.Bytes.{Does as Step_of}
use Rattle.he_end.specs.Calls.{fault_of}
use Rattle.hd_calls.specs.Hubs.{Hub, Invoked}
use Rattle.hd_calls.specs.Peers.{Effect, InUse, TooMany, Flood, PeerEvent, Plain, Reads, Handles, Settings, codec, is_shut, waiting, steps}
use Rattle.hd_calls.specs.Tables.{job_happenings}
use Rattle.hd_rooms.specs.Registry.{Lists, gone}
use Rattle.hd_server.specs.Machine.{MachineEvent, Does}
use Rattle.hg_groups.specs.Standing.{StandsRegistry}
use Rattle.hj_jobs.specs.Calls.{IsTaken}
use Rattle.hp_peer.specs.declared.did.Did.{Did}
use Rattle.hp_peer.specs.declared.did.Did.TheVariants as did
use Rattle.hp_peer.specs.declared.peer.Peer.{Peer}
use Rattle.hp_peer.specs.declared.errors.PeerError.{PeerError}
use Rattle.hp_peer.specs.declared.errors.PeerError.TheVariants as error
use Rattle.hp_peer.specs.Stands.{OfEach, Stands}
use Rattle.hp_peer.specs.Taking.{IsNext, IsToldAs}
use Rattle.hub_machine.specs.declared.machine.Machine.{Machine}
use Rattle.hub_machine.specs.Machines.{StandsMachine, peer_at}

-- ---- what is taken

-- the peer of a connection made these moves, the latest first
abbrev pub doing : ℕ → List PeerEvent → List MachineEvent → List MachineEvent
doing c [] w = w
doing c (m ∷ ms) w = Does c m ∷ doing c ms w

-- of the message that waits or, if none does, of the next frame's: what came, with the moves up to its being read
abbrev pub OfNextHere : Settings → List PeerEvent → Option Message → (Message → List PeerEvent → Type 0) → Type 0
OfNextHere t h (Some m) Holds = Holds m []
OfNextHere t h None Holds = (m : Message) × IsNext t h (Took (gives.Message m)) × Holds m (Reads m ∷ [])

-- the message was handled, and this is told of it
pub record HasHandled {H Job : Type 0} (hub : Hub Job) (new : Machine H Job) (c : ℕ) (w : List MachineEvent) (h : List PeerEvent) (now : ℕ) (told : Did) (m : Message) (read : List PeerEvent) : Type 0 where
  pub effect : Effect
  pub told_as : IsToldAs (read ++ h) now m effect told
  pub stands : StandsMachine hub new (Does c (Handles m effect) ∷ doing c read w)

-- no message waits, and the end took this
abbrev pub HasRead : {H Job : Type 0} → Hub Job → Machine H Job → ℕ → List MachineEvent → Settings → List PeerEvent → EndEvent → Type 0
HasRead hub new c w t h s = (waiting h ≡ None) × IsNext t h s × StandsMachine hub new (Does c (Plain (Step_of s)) ∷ w)

-- what was taken
abbrev pub Takes : {H Job : Type 0} → Hub Job → Machine H Job → ℕ → List MachineEvent → Settings → List PeerEvent → ℕ → Option Did → Type 0
Takes hub new c w t h now None = (waiting h ≡ None) × (processes t.config (steps t h) ≡ None) × StandsMachine hub new w
Takes hub new c w t h now (Some (did.Other got)) = HasRead hub new c w t h (Took got)
Takes hub new c w t h now (Some told) = OfNextHere t h (waiting h) (HasHandled hub new c w h now told)

-- ---- what is refused

-- the call began no job, since this id of it is in use
pub record HasClashed {H Job : Type 0} (hub : Hub Job) (new : Machine H Job) (c : ℕ) (w : List MachineEvent) (t : Settings) (h : List PeerEvent) (id : List ℕ) (m : Message) (read : List PeerEvent) : Type 0 where
  pub call : Invoked
  pub taken : IsTaken (job_happenings t (read ++ h)) call id
  pub stands : StandsMachine hub new (Does c (Handles m (InUse call)) ∷ doing c read w)

-- the call began no job, since too many are live
pub record IsOneTooMany {H Job : Type 0} (hub : Hub Job) (new : Machine H Job) (c : ℕ) (w : List MachineEvent) (m : Message) (read : List PeerEvent) : Type 0 where
  pub call : Invoked
  pub stands : StandsMachine hub new (Does c (Handles m (TooMany call)) ∷ doing c read w)

-- the message wasn't handled for this reason: the end is closed, or memory is out, and the message waits
abbrev pub IsUnhandled : {H Job : Type 0} → Hub Job → Machine H Job → ℕ → List MachineEvent → Settings → List PeerEvent → PeerError → Message → List PeerEvent → Type 0
IsUnhandled hub new c w t h (error.Next e) m read = ⊥
IsUnhandled hub new c w t h (error.InUse id) m read = HasClashed hub new c w t h id m read
IsUnhandled hub new c w t h error.TooMany m read = IsOneTooMany hub new c w m read
IsUnhandled hub new c w t h error.Flood m read = StandsMachine hub new (Does c (Handles m Flood) ∷ doing c read w)
IsUnhandled hub new c w t h error.NoMemory m read = StandsMachine hub new (doing c read w)

-- nothing was taken, for this reason. Out of memory nothing has changed, or a message was read that waits now
abbrev pub IsUntaken : {H Job : Type 0} → Hub Job → Machine H Job → ℕ → List MachineEvent → Settings → List PeerEvent → PeerError → Type 0
IsUntaken hub new c w t h (error.Next e) = (fault : Fault) × (fault_of t.config e ≡ Some fault) × HasRead hub new c w t h (Failed fault)
IsUntaken hub new c w t h error.NoMemory = StandsMachine hub new w ⊎ OfNextHere t h (waiting h) (λ m read. StandsMachine hub new (doing c read w))
IsUntaken hub new c w t h e = OfNextHere t h (waiting h) (IsUnhandled hub new c w t h e)

-- ---- what is said

-- the bytes of what was due were appended; or nothing was due
abbrev pub HasSaid : {H Job : Type 0} → Hub Job → Machine H Job → ℕ → List MachineEvent → Settings → List PeerEvent → Bool → List ℕ → List ℕ → Type 0
HasSaid hub new c w t h false before now = (due t.config (steps t h) ≡ None) × (now ≡ before) × StandsMachine hub new w
HasSaid hub new c w t h true before now =
    (f : LinkFrame) × (due t.config (steps t h) ≡ Some f) × (now ≡ before ++ t.wire.spell (codec t h) f) × StandsMachine hub new (Does c (Plain (Step_of (Lent f))) ∷ w)

-- ---- ends that are closed

-- No peer changed. The connection left its groups and its user if its end is closed, and only then
pub record ClosesOut {H Job : Type 0} (hub : Hub Job) (old new : Machine H Job) (c : ℕ) : Type 0 where
  pub peers : new.peers ≡ old.peers
  pub idle_set : new.idle_set ≡ old.idle_set
  pub scratch : new.scratch ≡ old.scratch
  pub shut : (p : Peer H Job) (t : Settings) (h : List PeerEvent) → peer_at old c ≡ Some p → Stands hub t p h → is_shut t h ≡ true
      → (l : Lists) → StandsRegistry old.registry l → StandsRegistry new.registry (gone l c)
  pub unshut : (p : Peer H Job) (t : Settings) (h : List PeerEvent) → peer_at old c ≡ Some p → Stands hub t p h → is_shut t h ≡ false
      → new.registry ≡ old.registry
  pub absent : peer_at old c ≡ None → new.registry ≡ old.registry

-- the same where this says whether the end of its peer is closed
abbrev pub ClosesOutIf : {H Job : Type 0} → Hub Job → Machine H Job → Machine H Job → ℕ → Bool → Type 0
ClosesOutIf {H} {Job} hub old new c shut = (p : Peer H Job) → peer_at old c ≡ Some p → OfEach hub p (λ t h. shut ≡ is_shut t h) → ClosesOut hub old new c
