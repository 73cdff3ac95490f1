use Rattle.std.proofs.lemmas.Bool.{not-false, not-true}
use Rattle.hj_jobs.specs.Meaning.{meaning}
use Rattle.hub_server.proofs.FlushSocket.{writes_none, writes_some}
use Rattle.hub_server.proofs.server.Server.write.Goals as goal

pub returns-then-not-spoken-clause-closed : goal.returns-then-not-spoken-clause-closed
returns-then-not-spoken-clause-closed g c = c.in_ok-spoken.ensures.closed

pub returns-then-not-spoken-clause-written : goal.returns-then-not-spoken-clause-written
returns-then-not-spoken-clause-written g c s u before h x there =
    writes_none {H = g.row.H.Denot} {Job = g.row.H-Job.Denot}
    (meaning g.H.Hub.begin_of g.H.Hub.step_of) s u before c.args.self.now c.speak.new.self c.args.conn c.args.lane
    c.in_ok-spoken.spoken.any c.in_ok-spoken.spoken.text c.new-bytes.result.items c.speak.new.out.items h c.new-bytes.ensures.items x there
    c.in_ok-spoken.ensures.lent (not-true _ c.if-not-spoken.true)

pub returns-clause-closed : goal.returns-clause-closed
returns-clause-closed g c = c.in_ok-spoken.ensures.closed

pub returns-clause-written : goal.returns-clause-written
returns-clause-written g c s u before h x there =
    writes_some {H = g.row.H.Denot} {Job = g.row.H-Job.Denot}
    (meaning g.H.Hub.begin_of g.H.Hub.step_of) s u before c.args.self.now c.speak.new.self c.args.conn c.args.lane
    c.in_ok-spoken.spoken.any c.in_ok-spoken.spoken.text c.new-bytes.result.items c.speak.new.out.items h c.new-bytes.ensures.items x there
    c.in_ok-spoken.ensures.lent c.from_vec.result c.bytes.new.self (not-false _ c.if-not-spoken.false) c.from_vec.ensures c.in_ok-spoken.ensures.text
    c.in_ok-bytes.ensures
