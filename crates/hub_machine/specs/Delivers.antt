-- What dealings with a machine's connections lead to, one by one.
use Rattle.std.specs.Prelude.{◌≡◌, ℕ, ◌==◌, true, false, List, [], ◌∷◌, Option, Some, None, is_some, if◌then◌else◌}
use Rattle.std.specs.BTreeMap.{btree_map_len}
use Rattle.hm_message.specs.declared.message.Codec.{Codec}
use Rattle.hm_message.specs.declared.message.Message.{Message}
use Rattle.hd_delivery.specs.declared.vocabulary.Reason.TheVariants.{Slow}
use Rattle.hd_delivery.specs.Histories.{Closed}
use Rattle.hd_delivery.specs.Worlds.{MaySend}
use Rattle.hd_delivery.specs.Bytes.{Does as Step_of, sizes_of}
use Rattle.hd_calls.specs.Hubs.{Hub, Invoked, message_of}
use Rattle.hd_calls.specs.Peers.{PeerEvent, Plain, Calls, Settings, is_shut, steps}
use Rattle.he_end.specs.declared.errors.SendError.{SendError}
use Rattle.he_end.specs.Spoken.{spoken_in}
use Rattle.hp_peer.specs.declared.peer.Peer.{Peer}
use Rattle.hp_peer.specs.Calling.{IsNotice, IsUnnotified, heard}
use Rattle.hp_peer.specs.Stands.{OfEach, Stands}
use Rattle.hd_rooms.specs.Registry.{gone}
use Rattle.hub_machine.specs.declared.machine.Machine.{Machine}
use Rattle.hub_machine.specs.Spreads.{Delivering, Sends, Slows}
use Rattle.hub_machine.specs.Machines.{peer_at}
use Rattle.hub_machine.specs.MachineView.{MachineView, StandsFor, is_up_in}

-- in which codec a peer is spoken to, if it has one yet
abbrev pub codec_of_peer : {H Job : Type 0} → Option (Peer H Job) → Option Codec
codec_of_peer None = None
codec_of_peer (Some p) = spoken_in p.end

abbrev pub codec_at : {H Job : Type 0} → Machine H Job → ℕ → Option Codec
codec_at m c = codec_of_peer (peer_at m c)

-- the notice was sent to a peer that was begun so
pub record IsSent (t : Settings) (m : Message) (h after : List PeerEvent) : Type 0 where
  pub call : Invoked
  pub notice : IsNotice m call
  pub may : MaySend t.limits (sizes_of t.wire) t.config (steps t h) (message_of (heard t h call))
  pub is : after ≡ Calls None 0 (heard t h call) ∷ h

-- it was refused for this reason
abbrev pub IsUnsent : Settings → Message → List PeerEvent → SendError → Type 0
IsUnsent t m h why = (call : Invoked) → IsNotice m call → IsUnnotified t h call why

-- what sending it came to
abbrev pub IsAnswered : Option Settings → Message → Option SendError → List PeerEvent → List PeerEvent → Type 0
IsAnswered None m refusal h after = after ≡ h
IsAnswered (Some t) m None h after = IsSent t m h after
IsAnswered (Some t) m (Some why) h after = IsUnsent t m h why × (after ≡ h)

-- nothing but what this connection did is other than before
pub record ChangesAt (c : ℕ) (a b : MachineView) : Type 0 where
  pub settings : (k : ℕ) → b.settings k ≡ a.settings k
  pub others : (k : ℕ) → (c == k) ≡ false → b.moves k ≡ a.moves k

-- the notice was sent to a connection, or refused there
pub record HasSent (c : ℕ) (m : Message) (refusal : Option SendError) (a b : MachineView) : Type 0 where
  pub at : ChangesAt c a b
  pub answered : IsAnswered (a.settings c) m refusal (a.moves c) (b.moves c)
  pub lists : b.lists ≡ a.lists

-- A connection was closed as too slow, if it was up. One that is there is in no group now
pub record HasSlowed (c : ℕ) (a b : MachineView) : Type 0 where
  pub at : ChangesAt c a b
  pub closed : is_up_in a c ≡ true → b.moves c ≡ Plain (Step_of (Closed Slow false)) ∷ a.moves c
  pub kept : is_up_in a c ≡ false → b.moves c ≡ a.moves c
  pub lists : b.lists ≡ (if is_some (a.settings c) then gone a.lists c else a.lists)

-- the peer closes its end as too slow, whatever it stood for, unless that is closed
abbrev pub ClosesSlow : {H Job : Type 0} → Hub Job → Peer H Job → Peer H Job → Type 0
ClosesSlow hub old new = OfEach hub old (λ t h.
    (is_shut t h ≡ false → Stands hub t new (Plain (Step_of (Closed Slow false)) ∷ h)) × (is_shut t h ≡ true → Stands hub t new h))

abbrev pub ClosesSlowAt : {H Job : Type 0} → Hub Job → Option (Peer H Job) → Option (Peer H Job) → Type 0
ClosesSlowAt hub None None = Unit {0}
ClosesSlowAt hub (Some p) (Some q) = ClosesSlow hub p q
ClosesSlowAt hub _ _ = ⊥

-- so does the peer of a connection, if there is one, and nothing else changes
pub record HasClosedPeer {H Job : Type 0} (hub : Hub Job) (old new : Machine H Job) (c : ℕ) : Type 0 where
  pub at : ClosesSlowAt hub (peer_at old c) (peer_at new c)
  pub others : (k : ℕ) → (c == k) ≡ false → peer_at new k ≡ peer_at old k
  pub count : btree_map_len new.peers ≡ btree_map_len old.peers
  pub idle_set : new.idle_set ≡ old.idle_set
  pub registry : new.registry ≡ old.registry

-- one dealing leads from one state to another
abbrev pub LeadsBy : Delivering → MachineView → MachineView → Type 0
LeadsBy (Sends c m refusal) a b = HasSent c m refusal a b
LeadsBy (Slows c) a b = HasSlowed c a b

-- several, in order
abbrev pub Lead : List Delivering → MachineView → MachineView → Type 0
Lead [] a b = b ≡ a
Lead (d ∷ ds) a b = (mid : MachineView) × LeadsBy d a mid × Lead ds mid b

-- with these dealings the machine goes from what it stood for to what they lead to, while no time passes
abbrev pub Delivers : {H Job : Type 0} → Hub Job → Machine H Job → List Delivering → Machine H Job → Type 0
Delivers hub old deals new =
    ((a : MachineView) → StandsFor hub old a → (b : MachineView) × Lead deals a b × StandsFor hub new b) × (new.idle_set.clock ≡ old.idle_set.clock)
