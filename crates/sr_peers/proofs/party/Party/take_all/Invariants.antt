use Rattle.std.proofs.Common.{◌≡◌}
use Rattle.hj_jobs.specs.Meaning.{meaning}
use Rattle.sr_peers.specs.Plays.{OfEach}
use Rattle.sr_peers.proofs.Going.{HasTakenSome}
use Rattle.sr_peers.proofs.party.Party.take_all.Given as goal

abbrev pub invariant-loop-taken : goal.invariant-loop-taken
invariant-loop-taken g l = record {
  link : l.self.link ≡ l.fn.self.link;
  taken : OfEach {H = g.row.H.Denot} (meaning g.H.Hub.begin_of g.H.Hub.step_of) l.fn.self (λ t h.
      HasTakenSome {H = g.row.H.Denot} (meaning g.H.Hub.begin_of g.H.Hub.step_of) t l.fn.now h l.self l.fn.report.items l.report.items l._taken);
}
