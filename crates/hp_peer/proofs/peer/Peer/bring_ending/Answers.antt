use Rattle.std.proofs.Common.{◌∙◌, ap, subst, sym}
use Rattle.std.proofs.lemmas.Result.{IfErr-weaker, IfOk-weaker}
use Rattle.he_end.specs.Stands.{limits_of}
use Rattle.hd_calls.specs.Tables.{call_happenings, job_happenings}
use Rattle.hj_jobs.specs.Meaning.{meaning}
use Rattle.hj_jobs.specs.Stands as of_jobs
use Rattle.hp_peer.proofs.Taken.{answered, end_strange, ended_asked, ended_unasked}
use Rattle.hp_peer.proofs.peer.Peer.bring_ending.Goals as goal

pub returns-in_default-clause-ok : goal.returns-in_default-clause-ok
returns-in_default-clause-ok g c = IfOk-weaker c.feed_end.result _ _
    (λ told f now t h s. f t h s
    (end_strange {H = g.row.H.Denot} _ t _ c.args.id c.args.ending h s (c.tables_agree.ensures t h).0 c.ids_are_of_a_side.ensures (c.in_default.ensures.unknown _ (call_happenings h) s.calls)) now)
    c.feed_end.ensures.ok

pub returns-in_default-clause-refused : goal.returns-in_default-clause-refused
returns-in_default-clause-refused g c = IfErr-weaker c.feed_end.result _ _
    (λ e f t h s. f t h s
    (end_strange {H = g.row.H.Denot} _ t _ c.args.id c.args.ending h s (c.tables_agree.ensures t h).0 c.ids_are_of_a_side.ensures (c.in_default.ensures.unknown _ (call_happenings h) s.calls)))
    c.feed_end.ensures.refused

pub returns-in_default-asker-clause-ok : goal.returns-in_default-asker-clause-ok
returns-in_default-asker-clause-ok g c = λ now t h s.
    let live = c.in-Ok.ensures.ok _ (call_happenings h) s.calls in
    ended_unasked {H = g.row.H.Denot} _ t c.args.self.now c.args.headers c.args.id c.args.ending h s c.tables_agree.ensures c.requires.none_waits
    c.ids_are_of_a_side.ensures c.ids_are_drawn.ensures now c.in-Ok.call live c.settle.new.self
    (ap (λ p. limits_of p.end) c.settle.ensures.others) (ap (λ p. p.who) c.settle.ensures.others) (ap (λ p. p.waiting) c.settle.ensures.others ∙ c.requires.none_waits)
    (c.settle.ensures.calls _ (call_happenings h) s.calls live) c.settle.ensures.jobs_by_call
    c.peers_are_bounded.ensures (sym c.asker.ensures ∙ c.in_default-asker.is) (ap (λ p. p.jobs) c.settle.ensures.others) (ap (λ p. p.end) c.settle.ensures.others)

pub returns-clause-ok : goal.returns-clause-ok
returns-clause-ok g c = λ now t h s.
    let live = c.in-Ok.ensures.ok _ (call_happenings h) s.calls in
    let others = c.settle-2.ensures.others in
    let closes = c.close_if_heavy.ensures in
    rw closes.others
    (ended_asked {H = g.row.H.Denot} _ t c.args.self.now c.args.headers c.args.id c.args.ending h s c.tables_agree.ensures c.requires.none_waits
    c.ids_are_of_a_side.ensures c.ids_are_drawn.ensures now c.in-Ok.call live (record c.settle-2.new.self { jobs = c.answer-answered.new.self; end = c.close_if_heavy.new.self.end })
    (closes.limits ∙ ap (λ p. limits_of p.end) others) (ap (λ p. p.who) others) (ap (λ p. p.waiting) others ∙ c.requires.none_waits)
    (c.settle-2.ensures.calls _ (call_happenings h) s.calls live) c.settle-2.ensures.jobs_by_call
    c.in-Some.job (sym c.asker.ensures ∙ c.in-Some.is)
    (answered {H = g.row.H.Denot} (meaning g.H.Hub.begin_of g.H.Hub.step_of) t h (c.tables_agree.ensures t h).1 s.follows c.args.ending c.in-Ok-copy.copy c.in-Ok-copy.ensures c.settle-2.new.self.jobs _ c.in-Some.job
    c.answer-answered.result (subst (λ j. of_jobs.Stands {H = g.row.H.Denot} (meaning g.H.Hub.begin_of g.H.Hub.step_of) j t.who (job_happenings t h)) (sym (ap (λ p. p.jobs) others)) s.jobs)
    c.answer-answered.ensures.ok c.answer-answered.ensures.unknown c.answer-answered.ensures.unchanged)
    (rw (← ap (λ p. p.end) others) closes.closes))
