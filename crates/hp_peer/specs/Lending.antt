-- What a peer ends as, once the bytes that its end lent are given back.
use Rattle.std.specs.Prelude.{⊤, List, ◌∷◌, Option, Some, None}
use Rattle.std.specs.Borrow.{follows_so, MutBor, Fml, RattleType}
use mathlib.Core.Option.{none}
use Rattle.hd_delivery.specs.Frames.{LinkFrame}
use Rattle.hd_delivery.specs.Histories.{Lent}
use Rattle.hd_delivery.specs.Due.{due}
use Rattle.hd_delivery.specs.Bytes.{Does}
use Rattle.hd_calls.specs.Hubs.{Hub}
use Rattle.hd_calls.specs.Peers.{PeerEvent, Plain, Settings, steps}
use Rattle.hp_peer.specs.declared.peer.Peer.{Peer}
use Rattle.hp_peer.specs.contracts.peer.Peer.{the_row}
use Rattle.hp_peer.specs.Stands.{Stands, OfEach}

-- the peer, of a hub and jobs of these types, ends as P says
abbrev pub EndsAs : (H Job : RattleType) → MutBor (Peer H.Denot Job.Denot) → (Peer H.Denot Job.Denot → Type 0) → Fml
EndsAs H Job peer P = follows_so (the_row H Job) (the_row H Job) peer.ghost_name none (λ _ _. ⊤) P

-- what was due was lent
abbrev pub HasLent : {H Job : Type 0} → Hub Job → Settings → List PeerEvent → Peer H Job → Option LinkFrame → Type 0
HasLent hub t h new None = Stands hub t new h
HasLent hub t h new (Some f) = Stands hub t new (Plain (Does (Lent f)) ∷ h)

abbrev pub Lends : {H Job : Type 0} → Hub Job → Peer H Job → Peer H Job → Type 0
Lends hub old new = OfEach hub old (λ t h. HasLent hub t h new (due t.config (steps t h)))
