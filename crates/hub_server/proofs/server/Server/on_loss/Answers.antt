use Rattle.std.proofs.Common.{sym, subst, ◌∙◌}
use Rattle.std.specs.Cmp.{unsigned_tied}
use Rattle.hd_server.specs.Lives.{LaneLost}
use Rattle.hd_server.specs.Doings.{notes}
use Rattle.hj_jobs.specs.Meaning.{meaning}
use Rattle.hub_server.specs.Servers.{Standing}
use Rattle.hub_server.proofs.HoldLanes.{turned}
use Rattle.hub_server.proofs.TickLost.{lost_none, lost_poll, lost_socket, made_there}
use Rattle.hub_server.proofs.FrontNoted.{noted_front}
use Rattle.hub_server.proofs.server.Server.on_loss.Goals as goal

pub returns-in_default : goal.returns-in_default
returns-in_default g c = λ s u before h st is.
    lost_none {H = g.row.H.Denot} c.connections_are_found.ensures (meaning g.H.Hub.begin_of g.H.Hub.step_of) s before c.args.self.now c.args.lane h
    (subst (λ w. Standing {H = g.row.H.Denot} (meaning g.H.Hub.begin_of g.H.Hub.step_of) s w before c.args.self.now h) is st)
    (sym c.get.ensures.value ∙ sym c.copied.ensures ∙ c.in_default.is)

pub returns-then-kept : goal.returns-then-kept
returns-then-kept g c = λ s u before h st is.
    let was = subst (λ w. Standing {H = g.row.H.Denot} (meaning g.H.Hub.begin_of g.H.Hub.step_of) s w before c.args.self.now h) is st in
    let kept = sym c.get.ensures.value ∙ sym c.copied.ensures ∙ c.in-Some.is in
    lost_poll {H = g.row.H.Denot} c.connections_are_found.ensures (meaning g.H.Hub.begin_of g.H.Hub.step_of) s before c.args.self.now c.args.lane h
    was c.in-Some.kept kept c.if-kept.true
    c.lost.new.self c.remove.new.self
    (noted_front s.live c.args.self.now.front c.lost.new.self c.in-Some.kept.conn (LaneLost c.in-Some.kept.conn c.args.lane c.args.self.now.moment) (notes h)
    c.lost.ensures st.front
    (made_there {H = g.row.H.Denot} c.connections_are_found.ensures (meaning g.H.Hub.begin_of g.H.Hub.step_of) s before c.args.self.now
    c.args.lane h was c.in-Some.kept kept))
    c.remove.ensures.updates.1 (λ k e. c.remove.ensures.updates.2 k (unsigned_tied c.args.lane k ∙ turned k c.args.lane e))

pub returns : goal.returns
returns g c = λ s u before h st is.
    lost_socket {H = g.row.H.Denot} c.connections_are_found.ensures (meaning g.H.Hub.begin_of g.H.Hub.step_of) s before c.args.self.now c.args.lane h
    (subst (λ w. Standing {H = g.row.H.Denot} (meaning g.H.Hub.begin_of g.H.Hub.step_of) s w before c.args.self.now h) is st)
    c.in-Some.kept (sym c.get.ensures.value ∙ sym c.copied.ensures ∙ c.in-Some.is) c.if-kept.false c.detach.new.self c.detach.ensures.left
    c.may_resume-granted.result c.may_resume-granted.ensures c.lose.new.self c.lose.ensures.lost
