use Rattle.std.proofs.Common.{take}
use Rattle.hd_calls.specs.Peers.{byte_steps}
use Rattle.hd_delivery.specs.Bytes.{Bytes}
use Rattle.hp_peer.proofs.Plain.{steps_on}
use Rattle.hp_peer.proofs.peer.Peer.feed.Goals as goal

pub returns-clause-fed : goal.returns-clause-fed
returns-clause-fed g c = λ t h s l at live.
    steps_on {H = g.row.H.Denot} _ t c.args.self.now h s c.feed.new.self c.feed.ensures.limits (Bytes (take c.feed.result c.args.piece.now)) tt
    (c.feed.ensures.fed t.wire t.config (byte_steps t h) s.end l at live)
