use Rattle.std.proofs.Common.{sym, ◌∙◌}
use Rattle.hj_jobs.specs.Meaning.{meaning}
use Rattle.hub_server.proofs.FlushOne.{on_ok, on_ok_both}
use Rattle.hub_server.proofs.FlushSocket.{at_socket, settled_writes, tells_closed, tells_open, tells_withheld}
use Rattle.hub_server.proofs.Resting.{keeps_same, keeps_then}
use Rattle.hub_server.proofs.server.Server.flush_socket.Goals as goal

pub returns-then-withholds-clause-flushed : goal.returns-then-withholds-clause-flushed
returns-then-withholds-clause-flushed g c s u before h x calm there on =
    let hub = meaning g.H.Hub.begin_of g.H.Hub.step_of in
    tells_withheld {H = g.row.H.Denot} {Job = g.row.H-Job.Denot} hub s u before c.args.self.now c.args.conn c.args.lane h x there calm on
    (sym (c.withholds.ensures s u before h x there (at_socket c.args.lane c.args.conn h there on)) ∙ c.if-withholds.true)

pub returns-then-not-branch-clause-flushed : goal.returns-then-not-branch-clause-flushed
returns-then-not-branch-clause-flushed g c = on_ok_both c.park.result _ _ _ (λ rests up s u before h x calm there on.
    let hub = meaning g.H.Hub.begin_of g.H.Hub.step_of in
    tells_open {H = g.row.H.Denot} {Job = g.row.H-Job.Denot} hub s before c.write.new.self c.args.conn c.args.lane h
    (settled_writes {H = g.row.H.Denot} {Job = g.row.H-Job.Denot} hub s u before c.write.new.self c.args.conn c.args.lane h calm
    (c.in_ok-write.ensures.written s u before h x there))
    there on
    (sym (c.withholds.ensures s u before h x there (at_socket c.args.lane c.args.conn h there on)) ∙ c.if-withholds.false)
    c.in_ok-write.field-0 c.park.new.self c.if-not-branch.true c.in_ok-write.ensures.closed rests up) c.park.ensures.stands c.park.ensures.cause

pub returns-then-not-branch-clause-keeps : goal.returns-then-not-branch-clause-keeps
returns-then-not-branch-clause-keeps g c = on_ok c.park.result _ _ (λ keeps.
    keeps_then {H = g.row.H.Denot} {Job = g.row.H-Job.Denot} c.args.self.now.machine c.write.new.self.machine c.park.new.self c.args.conn
    c.write.ensures.keeps keeps) c.park.ensures.keeps

pub returns-clause-flushed : goal.returns-clause-flushed
returns-clause-flushed g c s u before h x calm there on =
    let hub = meaning g.H.Hub.begin_of g.H.Hub.step_of in
    tells_closed {H = g.row.H.Denot} {Job = g.row.H-Job.Denot} hub s before c.write.new.self c.args.conn c.args.lane h
    (settled_writes {H = g.row.H.Denot} {Job = g.row.H-Job.Denot} hub s u before c.write.new.self c.args.conn c.args.lane h calm
    (c.in_ok-write.ensures.written s u before h x there))
    there on
    (sym (c.withholds.ensures s u before h x there (at_socket c.args.lane c.args.conn h there on)) ∙ c.if-withholds.false)
    c.in_ok-write.field-0 c.shut.new.self c.remove_conn.new.self c.if-not-branch.false c.in_ok-write.ensures.closed c.in_ok-shut.ensures.shuts
    c.remove_conn.ensures.gone c.remove_conn.ensures.absent

pub returns-clause-keeps : goal.returns-clause-keeps
returns-clause-keeps g c =
    keeps_then {H = g.row.H.Denot} {Job = g.row.H-Job.Denot} c.args.self.now.machine c.write.new.self.machine c.remove_conn.new.self.machine c.args.conn
    c.write.ensures.keeps
    (keeps_then {H = g.row.H.Denot} {Job = g.row.H-Job.Denot} c.write.new.self.machine c.shut.new.self.machine c.remove_conn.new.self.machine c.args.conn
    (keeps_same {H = g.row.H.Denot} {Job = g.row.H-Job.Denot} c.write.new.self.machine c.shut.new.self.machine c.args.conn c.shut.ensures.machine)
    c.remove_conn.ensures.keeps)
