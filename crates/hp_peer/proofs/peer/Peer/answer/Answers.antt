use Rattle.std.proofs.Common.{refl}
use Rattle.std.proofs.lemmas.Result.{IfOk-weaker, IfErr-weaker}
use Rattle.hd_calls.specs.declared.vocabulary.Input.TheVariants as input
use Rattle.hd_calls.specs.Tables.{job_happenings}
use Rattle.hp_peer.proofs.JobMoves.{answered_with, unanswerable}
use Rattle.hp_peer.proofs.peer.Peer.answer.Goals as goal

pub returns-in-Done-clause-ok : goal.returns-in-Done-clause-ok
returns-in-Done-clause-ok g c = IfOk-weaker c.answer.result _ _
    (λ u a t h s. answered_with {H = g.row.H.Denot} _ t h (c.tables_agree.ensures t h).1 c.args.self.now s c.answer.new.self c.args.job (input.Done c.in-Done.value) c.args.input c.in-Done.is refl
    (a t.who (job_happenings t h) s.jobs))
    c.answer.ensures.ok

pub returns-in-Done-clause-unknown : goal.returns-in-Done-clause-unknown
returns-in-Done-clause-unknown g c = IfErr-weaker c.answer.result _ _
    (λ e a t h s. unanswerable t h (c.tables_agree.ensures t h).1 c.args.job (input.Done c.in-Done.value) c.args.input c.in-Done.is (a t.who (job_happenings t h) s.jobs))
    c.answer.ensures.unknown

pub returns-in-Failed-clause-ok : goal.returns-in-Failed-clause-ok
returns-in-Failed-clause-ok g c = IfOk-weaker c.answer-in-Failed.result _ _
    (λ u a t h s. answered_with {H = g.row.H.Denot} _ t h (c.tables_agree.ensures t h).1 c.args.self.now s c.answer-in-Failed.new.self c.args.job input.Failed c.args.input c.in-Failed.is refl
    (a t.who (job_happenings t h) s.jobs))
    c.answer-in-Failed.ensures.ok

pub returns-in-Failed-clause-unknown : goal.returns-in-Failed-clause-unknown
returns-in-Failed-clause-unknown g c = IfErr-weaker c.answer-in-Failed.result _ _
    (λ e a t h s. unanswerable t h (c.tables_agree.ensures t h).1 c.args.job input.Failed c.args.input c.in-Failed.is (a t.who (job_happenings t h) s.jobs))
    c.answer-in-Failed.ensures.unknown
