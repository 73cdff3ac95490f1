use Rattle.std.proofs.Common.{length, ◌-◌, ◌≤◌}
use Rattle.sr_client.specs.Peers.{OfEach}
use Rattle.sr_client.proofs.Fed.{HasFed}
use Rattle.sr_client.proofs.peer.ClientPeer.feed.Given as goal

abbrev pub invariant-loop-at : goal.invariant-loop-at
invariant-loop-at l = record {
  within : l.at ≤ length l.bytes;
  fed : OfEach l.fn.self (λ t h. HasFed t h l.self l.now l.bytes l.fn.out.items l.out.items l.at);
}

abbrev pub decreases-loop-at : goal.decreases-loop-at
decreases-loop-at l = length l.bytes - l.at
