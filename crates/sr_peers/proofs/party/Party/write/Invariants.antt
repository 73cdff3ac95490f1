use Rattle.hj_jobs.specs.Meaning.{meaning}
use Rattle.sr_peers.specs.Plays.{OfEach}
use Rattle.sr_peers.proofs.Going.{HasWritten}
use Rattle.sr_peers.proofs.party.Party.write.Given as goal

abbrev pub invariant-loop-written : goal.invariant-loop-written
invariant-loop-written g l = OfEach {H = g.row.H.Denot} (meaning g.H.Hub.begin_of g.H.Hub.step_of) l.fn.self (λ t h.
    HasWritten {H = g.row.H.Denot} (meaning g.H.Hub.begin_of g.H.Hub.step_of) t h l.self l.fn.lane.items l.lane.items l._written l.wrote)
