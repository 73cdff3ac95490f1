use Rattle.std.proofs.Common.{length, ◌-◌, ◌≤◌}
use Rattle.hj_jobs.specs.Meaning.{meaning}
use Rattle.hp_peer.specs.Stands.{OfEach}
use Rattle.hub_machine.specs.Traffic.{IsClear}
use Rattle.hub_machine.proofs.FeedPieces.{HasFed}
use Rattle.hub_machine.proofs.peer_traffic.feed_peer.Given as goal

abbrev pub invariant-loop-at : goal.invariant-loop-at
invariant-loop-at g l = record {
  within : l.at ≤ length l.bytes;
  fed : OfEach {H = g.row.H.Denot} (meaning g.H.Hub.begin_of g.H.Hub.step_of) l.fn.peer (λ t h. IsClear t h →
      HasFed {H = g.row.H.Denot} (meaning g.H.Hub.begin_of g.H.Hub.step_of) t h l.peer l.now l.bytes l.at);
}

abbrev pub decreases-loop-at : goal.decreases-loop-at
decreases-loop-at g l = length l.bytes - l.at
