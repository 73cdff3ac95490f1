-- What a peer takes, as the machine takes it: what the peer stands for then, the machine stands for too.
use Rattle.std.proofs.Common.{◌⊎◌, inl, inr, ℕ, List, [], ◌∷◌, ◌++◌, Option, Some, None}
use Rattle.hm_message.specs.declared.message.Message.{Message}
use Rattle.hd_delivery.specs.Histories.{Took, Failed}
use Rattle.hd_delivery.specs.Bytes.{Does as Step_of}
use Rattle.hd_calls.specs.Hubs.{Hub}
use Rattle.hd_calls.specs.Peers.{InUse, TooMany, Flood, PeerEvent, Plain, Reads, Handles, Settings, waiting}
use Rattle.hd_server.specs.Machine.{MachineEvent, moves}
use Rattle.hp_peer.specs.declared.did.Did.{Did}
use Rattle.hp_peer.specs.declared.did.Did.TheVariants as did
use Rattle.hp_peer.specs.declared.errors.PeerError.{PeerError}
use Rattle.hp_peer.specs.declared.errors.PeerError.TheVariants as error
use Rattle.hp_peer.specs.declared.peer.Peer.{Peer}
use Rattle.hp_peer.specs.Stands.{Stands}
use Rattle.hp_peer.specs.Taking as peer
use Rattle.hub_machine.specs.declared.machine.Machine.{Machine}
use Rattle.hub_machine.specs.Machines.{StandsMachine}
use Rattle.hub_machine.specs.Calls.{OfNextHere, HasHandled, IsUnhandled, IsUntaken, Takes, doing}

-- the message that waits, or is read first
next_here : (t : Settings) (h : List PeerEvent) (Holds Here : Message → List PeerEvent → Type 0) → ((m : Message) (read : List PeerEvent) → Holds m (read ++ h) → Here m read)
    → (o : Option Message) → peer.OfNext t h o Holds → OfNextHere t h o Here
next_here t h Holds Here each (Some m) x = each m [] x
next_here t h Holds Here each None x = (x.0, x.1, each x.0 (Reads x.0 ∷ []) x.2)

-- the machine stands for what the peer of this connection does
module _ {H Job : Type 0} (hub : Hub Job) (new : Machine H Job) (c : ℕ) (w : List MachineEvent) (t : Settings) (p : Peer H Job)
    (becomes : (ms : List PeerEvent) → Stands {H = H} hub t p (ms ++ moves c w) → StandsMachine {H = H} hub new (doing c ms w)) where
  handled : (now : ℕ) (told : Did) (m : Message) (read : List PeerEvent) → peer.HasHandled {H = H} hub t p now told m (read ++ moves c w)
      → HasHandled {H = H} hub new c w (moves c w) now told m read
  handled now told m read x = record { effect = x.effect; told_as = x.told_as; stands = becomes (Handles m x.effect ∷ read) x.stands }

  pub takes : (now : ℕ) (told : Option Did) → peer.Takes {H = H} hub t (moves c w) p now told → Takes {H = H} hub new c w t (moves c w) now told
  takes now None x = (x.0, x.1, becomes [] x.2)
  takes now (Some (did.Other got)) x = (x.0, x.1, becomes (Plain (Step_of (Took got)) ∷ []) x.2)
  takes now (Some told) x =
      next_here t (moves c w) (peer.HasHandled {H = H} hub t p now told) (HasHandled {H = H} hub new c w (moves c w) now told) (handled now told)
      (waiting (moves c w)) x

  unhandled : (e : PeerError) (m : Message) (read : List PeerEvent) → peer.IsUnhandled {H = H} hub t p e m (read ++ moves c w)
      → IsUnhandled {H = H} hub new c w t (moves c w) e m read
  unhandled (error.Next e) m read x = x
  unhandled (error.InUse id) m read x = record { call = x.call; taken = x.taken; stands = becomes (Handles m (InUse x.call) ∷ read) x.stands }
  unhandled error.TooMany m read x = record { call = x.call; stands = becomes (Handles m (TooMany x.call) ∷ read) x.stands }
  unhandled error.Flood m read x = becomes (Handles m Flood ∷ read) x
  unhandled error.NoMemory m read x = becomes read x

  -- out of memory
  unfinished : Stands {H = H} hub t p (moves c w) ⊎ peer.OfNext t (moves c w) (waiting (moves c w)) (λ m k. Stands {H = H} hub t p k)
      → StandsMachine {H = H} hub new w ⊎ OfNextHere t (moves c w) (waiting (moves c w)) (λ m read. StandsMachine {H = H} hub new (doing c read w))
  unfinished (inl x) = inl (becomes [] x)
  unfinished (inr x) = inr (next_here t (moves c w) (λ m k. Stands {H = H} hub t p k) (λ m read. StandsMachine {H = H} hub new (doing c read w))
      (λ m read y. becomes read y) (waiting (moves c w)) x)

  pub untaken : (e : PeerError) → peer.IsUntaken {H = H} hub t (moves c w) p e → IsUntaken {H = H} hub new c w t (moves c w) e
  untaken (error.Next e) x = (x.0, x.1, (x.2.0, x.2.1, becomes (Plain (Step_of (Failed x.0)) ∷ []) x.2.2))
  untaken error.NoMemory x = unfinished x
  untaken (error.InUse id) x = next_here t (moves c w) (peer.IsUnhandled {H = H} hub t p (error.InUse id))
      (IsUnhandled {H = H} hub new c w t (moves c w) (error.InUse id)) (unhandled (error.InUse id)) (waiting (moves c w)) x
  untaken error.TooMany x = next_here t (moves c w) (peer.IsUnhandled {H = H} hub t p error.TooMany)
      (IsUnhandled {H = H} hub new c w t (moves c w) error.TooMany) (unhandled error.TooMany) (waiting (moves c w)) x
  untaken error.Flood x = next_here t (moves c w) (peer.IsUnhandled {H = H} hub t p error.Flood)
      (IsUnhandled {H = H} hub new c w t (moves c w) error.Flood) (unhandled error.Flood) (waiting (moves c w)) x
