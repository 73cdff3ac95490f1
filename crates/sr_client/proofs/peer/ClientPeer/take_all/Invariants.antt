use Rattle.sr_client.specs.Taking.{OfEachOn}
use Rattle.sr_client.proofs.Taken.{HasTaken}
use Rattle.sr_client.proofs.peer.ClientPeer.take_all.Given as goal

abbrev pub invariant-loop-taken : goal.invariant-loop-taken
invariant-loop-taken l = OfEachOn l.fn.self (λ t h. HasTaken t h l.self l.now l.fn.out.items l.out.items l._taken)
