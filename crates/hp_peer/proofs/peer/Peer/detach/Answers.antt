use Rattle.hd_calls.specs.Peers.{byte_steps}
use Rattle.hd_delivery.specs.Bytes.{Does}
use Rattle.hd_delivery.specs.Histories.{Detached}
use Rattle.hp_peer.proofs.Plain.{steps_on}
use Rattle.hp_peer.proofs.peer.Peer.detach.Goals as goal

pub returns-clause-left : goal.returns-clause-left
returns-clause-left g c = λ t h s l at late.
    steps_on {H = g.row.H.Denot} _ t c.args.self.now h s c.detach.new.self c.detach.ensures.limits (Does (Detached c.args.now)) tt
    (c.detach.ensures.left t.wire t.config (byte_steps t h) s.end l at late)
