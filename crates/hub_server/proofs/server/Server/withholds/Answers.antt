use Rattle.std.specs.Ordering.{nat_cmp}
use Rattle.std.specs.BTreeMap.{get}
use Rattle.hj_jobs.specs.Meaning.{meaning}
use Rattle.hub_server.proofs.FlushSocket.{empty_tells, full_withholds}
use Rattle.hub_server.proofs.GoneServer.{none_kept}
use Rattle.hub_server.proofs.server.Server.withholds.Goals as goal

pub returns-in_default : goal.returns-in_default
returns-in_default g c s u before h x there on =
    absurd (none_kept u (get nat_cmp c.args.self.now.lanes c.args.lane) c.args.lane c.args.conn h c.in_default.ensures.value (x.lanes c.args.lane) on)

pub returns-then-not-kept : goal.returns-then-not-kept
returns-then-not-kept g c s u before h x there on =
    empty_tells {H = g.row.H.Denot} {Job = g.row.H-Job.Denot} (meaning g.H.Hub.begin_of g.H.Hub.step_of) s u before c.args.self.now c.args.conn
    c.args.lane h x there c.in-Some.kept.now c.in-Some.ensures.value c.if-not-kept.true

pub returns : goal.returns
returns g c s u before h x there on =
    full_withholds {H = g.row.H.Denot} {Job = g.row.H-Job.Denot} (meaning g.H.Hub.begin_of g.H.Hub.step_of) s u before c.args.self.now c.args.conn
    c.args.lane h x there c.in-Some.kept.now c.in-Some.ensures.value c.if-not-kept.false c.is_closed.result c.is_closed.ensures.there
