use Rattle.hj_jobs.specs.Meaning.{meaning}
use Rattle.sr_peers.specs.Plays.{OfEach}
use Rattle.sr_peers.proofs.Losses.{HasLost}
use Rattle.sr_peers.proofs.party.Party.tell_gone.Given as goal

abbrev pub invariant-loop-gone : goal.invariant-loop-gone
invariant-loop-gone g l = OfEach {H = g.row.H.Denot} (meaning g.H.Hub.begin_of g.H.Hub.step_of) l.fn.self (λ t h.
    HasLost {H = g.row.H.Denot} (meaning g.H.Hub.begin_of g.H.Hub.step_of) t h l.self l.fn.report.items l.report.items l._gone)
