use Rattle.hd_calls.specs.Peers.{byte_steps}
use Rattle.hp_peer.proofs.Plain.{ticks}
use Rattle.hp_peer.proofs.peer.Peer.tick.Goals as goal

pub returns-clause-ticks : goal.returns-clause-ticks
returns-clause-ticks g c = λ t h s late.
    let ticked = c.tick.ensures.ticks t.wire t.config (byte_steps t h) s.end late in
    (ticked.0, ticks {H = g.row.H.Denot} _ t c.args.self.now h s c.tick.new.self c.tick.ensures.limits c.tick.result c.args.now ticked.1)
