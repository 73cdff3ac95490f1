use Rattle.hd_calls.specs.Tables.{job_happenings}
use Rattle.hp_peer.proofs.JobMoves.{due_turns, turns_due}
use Rattle.hp_peer.proofs.peer.Peer.due.Goals as goal

pub returns : goal.returns
returns g c = λ t h s. (
  (λ e. due_turns t h (c.tables_agree.ensures t h).1 ((c.may_turn.ensures t h s).0 c.if-not-may_turn.false) ((c.due.ensures t.who (job_happenings t h) s.jobs).0 e)),
  (λ d. (c.due.ensures t.who (job_happenings t h) s.jobs).1 (turns_due t h (c.tables_agree.ensures t h).1 d)),
)
