use Rattle.sr_client.specs.Peers.{OfEach}
use Rattle.sr_client.proofs.Gone.{HasLost}
use Rattle.sr_client.proofs.peer.ClientPeer.tell_gone.Given as goal

abbrev pub invariant-loop-gone : goal.invariant-loop-gone
invariant-loop-gone l = OfEach l.fn.self (λ t h. HasLost t h l.self l.fn.out.items l.out.items l._gone)
