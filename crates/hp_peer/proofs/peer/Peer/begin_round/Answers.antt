use Rattle.hd_calls.specs.Tables.{job_happenings}
use Rattle.hp_peer.proofs.Plain.{rounds}
use Rattle.hp_peer.proofs.peer.Peer.begin_round.Goals as goal

pub returns-clause-begins : goal.returns-clause-begins
returns-clause-begins g c = λ t h s.
    rounds {H = g.row.H.Denot} _ t c.args.self.now h s c.begin_round.new.self (c.begin_round.ensures.begins t.who (job_happenings t h) s.jobs)
