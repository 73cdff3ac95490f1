use Rattle.hp_peer.proofs.Taken.{marks, marks_none}
use Rattle.hp_peer.proofs.peer.Peer.mark.Goals as goal

pub returns-in-Ok-clause-told : goal.returns-in-Ok-clause-told
returns-in-Ok-clause-told g c = λ headers now t h s.
    marks {H = g.row.H.Denot} _ t c.args.self.now headers c.args.id h s (c.tables_agree.ensures t h).1 c.requires.none_waits now _ _ (c.in-Ok.ensures.ok t.who _ s.jobs)

pub returns-in-Err-clause-told : goal.returns-in-Err-clause-told
returns-in-Err-clause-told g c = λ headers now t h s.
    marks_none {H = g.row.H.Denot} _ t c.args.self.now headers c.args.id h s (c.tables_agree.ensures t h).1 c.requires.none_waits now 0 _ (c.in-Err.ensures.unknown t.who _ s.jobs) c.in-Err.ensures.unchanged
