use Rattle.hj_jobs.specs.Meaning.{meaning}
use Rattle.hub_server.proofs.ExpireAll.{expires_all, expires_begin, expires_on, expires_over, none_overdue}
use Rattle.hub_server.proofs.server.Server.expire.Goals as goal

pub loop-expired-init : goal.loop-expired-init
loop-expired-init g c = expires_begin {H = g.row.H.Denot} (meaning g.H.Hub.begin_of g.H.Hub.step_of) c.args.self.now

pub returns-then-not-expire_next-clause-expired : goal.returns-then-not-expire_next-clause-expired
returns-then-not-expire_next-clause-expired g c =
    expires_over {H = g.row.H.Denot} (meaning g.H.Hub.begin_of g.H.Hub.step_of) c.args.self.now c.loop-expired.self c.expire_next.new.self
    c.loop-expired._expired
    c.expire_next.result c.if-not-expire_next.true c.expire_next.ensures c.loop-expired.invariant

pub returns-then-not-expire_next-clause-over : goal.returns-then-not-expire_next-clause-over
returns-then-not-expire_next-clause-over g c = λ s u before h st. none_overdue c.moments_come_once.ensures c.parts_of_turns.ensures h

pub loop-expired-preserved : goal.loop-expired-preserved
loop-expired-preserved g c =
    expires_on {H = g.row.H.Denot} (meaning g.H.Hub.begin_of g.H.Hub.step_of) c.args.self.now c.moments_come_once.ensures c.parts_of_turns.ensures
    c.loop-expired.self c.expire_next.new.self c.loop-expired._expired c.expire_next.result c.if-not-expire_next.false c.expire_next.ensures
    c.loop-expired.invariant

pub returns-clause-expired : goal.returns-clause-expired
returns-clause-expired g c =
    expires_all {H = g.row.H.Denot} (meaning g.H.Hub.begin_of g.H.Hub.step_of) c.args.self.now c.loop-expired.self c.loop-expired._expired
    c.loop-expired-test.false c.loop-expired.invariant

pub returns-clause-over : goal.returns-clause-over
returns-clause-over g c = λ s u before h st. none_overdue c.moments_come_once.ensures c.parts_of_turns.ensures h
