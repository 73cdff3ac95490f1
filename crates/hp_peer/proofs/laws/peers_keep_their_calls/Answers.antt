use Rattle.hp_peer.proofs.Heavy.{is_peer}
use Rattle.hp_peer.proofs.laws.peers_keep_their_calls.Goals as goal

pub returns : goal.returns
returns g c = λ t h s.
    let p = is_peer {H = g.row.H.Denot} _ t c.args._peer.now h s in
    let k = c.peers_keep.ensures _ t h p in
    record { peer = p; keeps = k.0; closes = k.1; bounded = c.peers_are_bounded.ensures _ t h p }
