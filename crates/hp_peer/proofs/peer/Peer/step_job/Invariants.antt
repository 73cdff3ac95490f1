use Rattle.std.proofs.Common.{◌≡◌, false}
use Rattle.hj_jobs.specs.Meaning.{meaning}
use Rattle.hp_peer.specs.Stands.{OfEach}
use Rattle.hp_peer.proofs.JobLoop.{HasHad}
use Rattle.hp_peer.proofs.peer.Peer.step_job.Given as goal

abbrev pub invariant-loop-turn : goal.invariant-loop-turn
invariant-loop-turn g l = (l.self.stalled ≡ false) × OfEach {H = g.row.H.Denot} (meaning g.H.Hub.begin_of g.H.Hub.step_of) l.initial.self (λ t h.
    HasHad {H = g.row.H.Denot} (meaning g.H.Hub.begin_of g.H.Hub.step_of) t h l.self l.now l._turn)
