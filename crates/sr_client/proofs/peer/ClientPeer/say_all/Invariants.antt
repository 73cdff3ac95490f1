use Rattle.sr_client.specs.Peers.{OfEach}
use Rattle.sr_client.proofs.Said.{HasLent}
use Rattle.sr_client.proofs.peer.ClientPeer.say_all.Given as goal

abbrev pub invariant-loop-said : goal.invariant-loop-said
invariant-loop-said l = OfEach l.fn.self (λ t h. HasLent t h l.self l.any l.fn.out.items l.out.items l._said)
