use Rattle.std.proofs.Common.{sym, subst, ◌∙◌}
use Rattle.hd_server.specs.Doings.{moment, notes}
use Rattle.hd_server.specs.Plans.{onto}
use Rattle.hd_server.specs.Serves.{ticking}
use Rattle.hj_jobs.specs.Meaning.{meaning}
use Rattle.hub_server.specs.Servers.{Standing}
use Rattle.hub_server.proofs.TickOne.{lost_shut, lost_shut_before, muted, unsilenced}
use Rattle.hub_server.proofs.server.Server.tick.Goals as goal

pub returns-in_default-clause-ticked : goal.returns-in_default-clause-ticked
returns-in_default-clause-ticked g c = λ s u before h st sound there.
    unsilenced {H = g.row.H.Denot} (meaning g.H.Hub.begin_of g.H.Hub.step_of) s u before c.args.self.now c.args.conn h st there
    c.tick_there.result c.tick_there.new.self c.tick_there.ensures.ticked c.in_default.is

pub returns-in_default-lane-clause-ticked : goal.returns-in_default-lane-clause-ticked
returns-in_default-lane-clause-ticked g c = λ s u before h st sound there.
    muted {H = g.row.H.Denot} (meaning g.H.Hub.begin_of g.H.Hub.step_of) s u before c.args.self.now c.args.conn h st there
    c.tick_there.result c.tick_there.new.self c.tick_there.ensures.ticked c.in-Some.granted c.in-Some.is
    (sym c.in_default-lane.is ∙ c.lane.ensures (notes h) st.front.stands)

pub returns-in_ok-shut-clause-ticked : goal.returns-in_ok-shut-clause-ticked
returns-in_ok-shut-clause-ticked g c = λ s u before h st sound there.
    subst (λ said. Standing {H = g.row.H.Denot} (meaning g.H.Hub.begin_of g.H.Hub.step_of) s u before (record c.lose.new.self { words = said })
    (onto (ticking (moment h) c.args.conn h) h)) (sym c.in_ok-shut.ensures)
    (lost_shut {H = g.row.H.Denot} (meaning g.H.Hub.begin_of g.H.Hub.step_of) s u before c.args.self.now c.args.conn h st there
    c.tick_there.result c.tick_there.new.self c.tick_there.ensures.ticked c.in-Some.granted c.in-Some.is sound
    c.in-Some-lane.lane (sym c.in-Some-lane.is ∙ c.lane.ensures (notes h) st.front.stands)
    c.may_shut-shuts.result c.may_shut-shuts.ensures c.lose.new.self c.lose.ensures.lost c.if-shuts.true)

pub returns-else-shuts-clause-ticked : goal.returns-else-shuts-clause-ticked
returns-else-shuts-clause-ticked g c = λ s u before h st sound there.
    lost_shut_before {H = g.row.H.Denot} (meaning g.H.Hub.begin_of g.H.Hub.step_of) s u before c.args.self.now c.args.conn h st there
    c.tick_there.result c.tick_there.new.self c.tick_there.ensures.ticked c.in-Some.granted c.in-Some.is sound
    c.in-Some-lane.lane (sym c.in-Some-lane.is ∙ c.lane.ensures (notes h) st.front.stands)
    c.may_shut-shuts.result c.may_shut-shuts.ensures c.lose.new.self c.lose.ensures.lost c.if-shuts.false

pub returns-in_ok-shut-clause-clock : goal.returns-in_ok-shut-clause-clock
returns-in_ok-shut-clause-clock g c = c.lose.ensures.clock ∙ c.tick_there.ensures.clock

pub returns-else-shuts-clause-clock : goal.returns-else-shuts-clause-clock
returns-else-shuts-clause-clock g c = c.lose.ensures.clock ∙ c.tick_there.ensures.clock
