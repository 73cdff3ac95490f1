use Rattle.hp_peer.proofs.Taken.{settled_call}
use Rattle.hp_peer.proofs.peer.Peer.settle.Goals as goal

pub returns-clause-calls : goal.returns-clause-calls
returns-clause-calls g c = λ prefix h s live.
    settled_call c.settle-settled.result _ _ prefix h c.args.id.now c.args.call s c.settle-settled.ensures.ok c.settle-settled.ensures.unknown live
