use Rattle.hj_jobs.specs.Meaning.{meaning}
use Rattle.hp_peer.specs.Stands.{OfEach}
use Rattle.hub_machine.proofs.FeedTaken.{HasTaken}
use Rattle.hub_machine.proofs.peer_traffic.take_all.Given as goal

abbrev pub invariant-loop-taken : goal.invariant-loop-taken
invariant-loop-taken g l = OfEach {H = g.row.H.Denot} (meaning g.H.Hub.begin_of g.H.Hub.step_of) l.fn.peer (λ t h.
    HasTaken {H = g.row.H.Denot} (meaning g.H.Hub.begin_of g.H.Hub.step_of) t h l.peer l.now l._taken)
