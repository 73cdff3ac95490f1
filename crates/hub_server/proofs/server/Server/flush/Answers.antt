use Rattle.std.proofs.Common.{Some, None, true, false, sym, subst}
use Rattle.hd_server.specs.Doings.{notes}
use Rattle.hd_server.specs.Lives.{poll_of}
use Rattle.hj_jobs.specs.Meaning.{meaning}
use Rattle.hub_server.specs.Flushes.{FlushesOne}
use Rattle.hub_server.proofs.FlushOne.{mute_closed, mute_open, on_ok, on_ok_both, polls_told, socket_told}
use Rattle.hub_server.proofs.server.Server.flush.Goals as goal

pub returns-in-Some-clause-flushed : goal.returns-in-Some-clause-flushed
returns-in-Some-clause-flushed g c = on_ok c.flush_socket.result _ _ (λ tells s u before h x calm there.
    let hub = meaning g.H.Hub.begin_of g.H.Hub.step_of in
    let on = socket_told {H = g.row.H.Denot} {Job = g.row.H-Job.Denot} hub s u before c.args.self.now c.args.conn h c.lane.result
    (Some c.in-Some.lane) x there c.lane.ensures c.in-Some.is in
    subst (λ o. FlushesOne {H = g.row.H.Denot} hub s before c.flush_socket.new.self c.args.conn o (poll_of c.args.conn (notes h)) h) (sym on)
    (tells s u before h x calm there on)) c.flush_socket.ensures.flushed

pub returns-in-None-clause-flushed : goal.returns-in-None-clause-flushed
returns-in-None-clause-flushed g c = on_ok c.flush_poller.result _ _ (λ tells s u before h x calm there.
    let hub = meaning g.H.Hub.begin_of g.H.Hub.step_of in
    let off = socket_told {H = g.row.H.Denot}
    {Job = g.row.H-Job.Denot} hub s u before c.args.self.now c.args.conn h c.lane.result None x there c.lane.ensures c.in-None.is in
    subst (λ o. FlushesOne {H = g.row.H.Denot} hub s before c.flush_poller.new.self c.args.conn o (poll_of c.args.conn (notes h)) h) (sym off)
    (tells s u before h x calm there off
    (polls_told {H = g.row.H.Denot} {Job = g.row.H-Job.Denot} hub s u before c.args.self.now c.args.conn h c.polls.result true x there c.polls.ensures
    c.if-polls.true))) c.flush_poller.ensures.flushed

pub returns-then-is_closed-clause-flushed : goal.returns-then-is_closed-clause-flushed
returns-then-is_closed-clause-flushed g c s u before h x calm there =
    let hub = meaning g.H.Hub.begin_of g.H.Hub.step_of in
    mute_closed {H = g.row.H.Denot} {Job = g.row.H-Job.Denot} hub s u before c.args.self.now c.args.conn h c.is_closed.result x calm there
    (socket_told {H = g.row.H.Denot} {Job = g.row.H-Job.Denot} hub s u before c.args.self.now c.args.conn h c.lane.result None x there c.lane.ensures
    c.in-None-2.is)
    (polls_told {H = g.row.H.Denot} {Job = g.row.H-Job.Denot} hub s u before c.args.self.now c.args.conn h c.polls.result false x there
    c.polls.ensures c.if-polls.false)
    c.is_closed.ensures.there c.remove_conn.new.self c.if-is_closed.true c.remove_conn.ensures.gone c.remove_conn.ensures.absent

pub returns-else-is_closed-clause-flushed : goal.returns-else-is_closed-clause-flushed
returns-else-is_closed-clause-flushed g c = on_ok_both c.park.result _ _ _ (λ rests up s u before h x calm there.
    let hub = meaning g.H.Hub.begin_of g.H.Hub.step_of in
    mute_open {H = g.row.H.Denot} {Job = g.row.H-Job.Denot} hub s u before c.args.self.now c.args.conn h c.is_closed.result x calm there
    (socket_told {H = g.row.H.Denot} {Job = g.row.H-Job.Denot} hub s u before c.args.self.now c.args.conn h c.lane.result None x there c.lane.ensures
    c.in-None-2.is)
    (polls_told {H = g.row.H.Denot} {Job = g.row.H-Job.Denot} hub s u before c.args.self.now c.args.conn h c.polls.result false x there
    c.polls.ensures c.if-polls.false)
    c.is_closed.ensures.there c.park.new.self c.if-is_closed.false rests up) c.park.ensures.stands c.park.ensures.cause
