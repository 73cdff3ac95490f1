use Rattle.std.proofs.Common.{subst}
use Rattle.hd_server.specs.Doings.{moment}
use Rattle.hd_server.specs.Plans.{onto}
use Rattle.hd_server.specs.Serves.{ending}
use Rattle.hj_jobs.specs.Meaning.{meaning}
use Rattle.hub_server.specs.Servers.{Standing}
use Rattle.hub_server.proofs.FlushOne.{on_ok, tells_held, tells_nothing}
use Rattle.hub_server.proofs.Resting.{keeps_same, keeps_then}
use Rattle.hub_server.proofs.server.Server.flush_poller.Goals as goal

pub returns-in-Some-clause-flushed : goal.returns-in-Some-clause-flushed
returns-in-Some-clause-flushed g c = on_ok c.flush_poll.result _ _ (λ tells s u before h x calm there off polls.
    let hub = meaning g.H.Hub.begin_of g.H.Hub.step_of in
    tells_held {H = g.row.H.Denot} {Job = g.row.H-Job.Denot} hub s before c.end_poller.new.self c.args.conn h
    (subst (λ w. Standing {H = g.row.H.Denot} hub s w before c.end_poller.new.self (onto (ending (moment h) c.args.conn h) h)) calm
    (c.end_poller.ensures.ends s u before h x there polls))
    there polls c.parts_of_turns.ensures c.held.result c.in-Some.held c.flush_poll.new.self c.held.ensures c.in-Some.is tells) c.flush_poll.ensures.flushed

pub returns-in-None-clause-flushed : goal.returns-in-None-clause-flushed
returns-in-None-clause-flushed g c s u before h x calm there off polls =
    let hub = meaning g.H.Hub.begin_of g.H.Hub.step_of in
    tells_nothing {H = g.row.H.Denot} {Job = g.row.H-Job.Denot} hub s before c.end_poller.new.self c.args.conn h
    (subst (λ w. Standing {H = g.row.H.Denot} hub s w before c.end_poller.new.self (onto (ending (moment h) c.args.conn h) h)) calm
    (c.end_poller.ensures.ends s u before h x there polls))
    there polls c.parts_of_turns.ensures c.held.result c.held.ensures c.in-None.is

pub returns-in-Some-clause-keeps : goal.returns-in-Some-clause-keeps
returns-in-Some-clause-keeps g c = on_ok c.flush_poll.result _ _ (λ keeps.
    keeps_then {H = g.row.H.Denot} {Job = g.row.H-Job.Denot} c.args.self.now.machine c.end_poller.new.self.machine c.flush_poll.new.self.machine c.args.conn
    (keeps_same {H = g.row.H.Denot} {Job = g.row.H-Job.Denot} c.args.self.now.machine c.end_poller.new.self.machine c.args.conn c.end_poller.ensures.machine)
    keeps) c.flush_poll.ensures.keeps

pub returns-in-None-clause-keeps : goal.returns-in-None-clause-keeps
returns-in-None-clause-keeps g c =
    keeps_same {H = g.row.H.Denot} {Job = g.row.H-Job.Denot} c.args.self.now.machine c.end_poller.new.self.machine c.args.conn c.end_poller.ensures.machine
