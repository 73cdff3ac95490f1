-- What a peer of a replay says of itself holds of the moves for which its party stands.
use Rattle.std.proofs.Common.{◌≡◌, List, sym, subst}
use Rattle.hd_calls.specs.Hubs.{Hub}
use Rattle.hd_calls.specs.Peers.{PeerEvent, Settings}
use Rattle.hp_peer.specs.declared.peer.Peer.{Peer}
use Rattle.hp_peer.specs.Stands as of_peer
use Rattle.sr_peers.specs.declared.party.Party.{Party}
use Rattle.sr_peers.specs.Plays.{Plays}

pub said_of : {H Job : Type 0} (hub : Hub Job) (t : Settings) (h : List PeerEvent) (party : Party H Job) → Plays hub t party h → (x : Peer H Job) → x ≡ party.peer
    → (Said : Settings → List PeerEvent → Type 0) → of_peer.OfEach hub x Said → Said t h
said_of hub t h party plays x is Said said = said t h (subst (λ y. of_peer.Stands hub t y h) (sym is) plays.stands)
