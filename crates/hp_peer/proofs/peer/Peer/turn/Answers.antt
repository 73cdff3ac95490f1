use Rattle.hd_calls.specs.Tables.{job_happenings}
use Rattle.hp_peer.proofs.JobLoop.{attempted_stands, prepared, no_turn, on_err_anyway, turned_out}
use Rattle.hp_peer.proofs.JobMoves.{other_jobs}
use Rattle.hp_peer.proofs.peer.Peer.turn.Goals as goal

pub returns-in_err-stepped-clause-unchanged : goal.returns-in_err-stepped-clause-unchanged
returns-in_err-stepped-clause-unchanged g c = on_err_anyway c.from_residual.result _ (λ t h s.
    other_jobs {H = g.row.H.Denot} _ t h c.args.self.now s c.prepare.new.self (c.in_err-stepped.ensures.unchanged t.who (job_happenings t h) s.jobs))

pub returns-in_default-clause-ok : goal.returns-in_default-clause-ok
returns-in_default-clause-ok g c = λ t h s.
    no_turn {H = g.row.H.Denot} _ t h c.args.self.now s c.args.now c.prepare.new.self c.may_turn-room.result (c.tables_agree.ensures t h).1 (c.may_turn-room.ensures t h s)
    (rw c.in_default.is at (c.in_ok-stepped.ensures.ok t.who (job_happenings t h) s.jobs))

pub returns-in_err-carry_out-clause-unchanged : goal.returns-in_err-carry_out-clause-unchanged
returns-in_err-carry_out-clause-unchanged g c = on_err_anyway c.from_residual-in_err-carry_out.result _ (λ t h s.
    c.in_err-carry_out.ensures.unchanged t h
    (attempted_stands {H = g.row.H.Denot} _ t h c.args.self.now s c.args.now c.prepare.new.self c.may_turn-room.result c.in-Some.stepped
    (rw c.in-Some.is at (c.in_ok-stepped.ensures.ok t.who (job_happenings t h) s.jobs))))

pub returns-clause-ok : goal.returns-clause-ok
returns-clause-ok g c = λ t h s.
    rw c.turned_with.ensures
    (turned_out {H = g.row.H.Denot} _ t h c.carry_out.new.self c.args.now c.in-Some.stepped
    (c.in_ok-carry_out.ensures.ok c.args.now t h
    (prepared {H = g.row.H.Denot} _ t h c.args.self.now s c.args.now c.prepare.new.self c.may_turn-room.result c.in-Some.stepped
    (rw c.in-Some.is at (c.in_ok-stepped.ensures.ok t.who (job_happenings t h) s.jobs)) (c.may_turn-room.ensures t h s))))
