use Rattle.std.proofs.Common.{sym, ap, subst, ◌∙◌}
use Rattle.std.specs.Ordering.{nat_cmp}
use Rattle.std.specs.BTreeMap.{get}
use Rattle.std.specs.Cmp.{unsigned_tied}
use Rattle.hd_server.specs.Lives.{Removed}
use Rattle.hd_server.specs.Doings.{notes, work}
use Rattle.hj_jobs.specs.Meaning.{meaning}
use Rattle.hub_machine.specs.Machines.{StandsMachine}
use Rattle.hub_server.specs.Servers.{StandsFront}
use Rattle.hub_server.proofs.GoneServer.{lets_go, no_peer}
use Rattle.hub_server.proofs.FrontNoted.{noted_front}
use Rattle.hub_server.proofs.Resting.{keeps_same, keeps_then}
use Rattle.hub_server.proofs.server.Server.remove_conn.Goals as goal

pub returns-clause-gone : goal.returns-clause-gone
returns-clause-gone g c = λ s u before h stands known.
    let hub = meaning g.H.Hub.begin_of g.H.Hub.step_of in
    let left = c.detach_lanes.ensures.left s u before h stands known in
    lets_go {H = g.row.H.Denot} {Job = g.row.H-Job.Denot} hub s u before c.args.self.now
    (record {
      base = c.detach_lanes.new.self.base;
      resend = c.detach_lanes.new.self.resend;
      machine = c.remove_conn.new.self;
      front = c.closed.new.self;
      callers = c.remove.new.self;
      lanes = c.detach_lanes.new.self.lanes;
      moment = c.detach_lanes.new.self.moment;
      words = c.detach_lanes.new.self.words;
      is_ended = c.detach_lanes.new.self.is_ended;
    })
    c.args.conn h stands known left.base left.resend left.clock left.words left.lanes
    c.remove.ensures.updates.1 (λ k e. c.remove.ensures.updates.2 k (unsigned_tied c.args.conn k ∙ e) ∙ ap (λ m. get nat_cmp m k) left.callers)
    (λ t there. c.remove_conn.ensures.gone (work h) t
    (subst (λ m. StandsMachine {H = g.row.H.Denot} hub m (work h)) (sym left.machine) stands.machine) there)
    (λ none. subst (λ m. StandsMachine {H = g.row.H.Denot} hub m (work h)) (sym (c.remove_conn.ensures.none
    (no_peer {H = g.row.H.Denot} {Job = g.row.H-Job.Denot} hub c.detach_lanes.new.self.machine (work h) c.args.conn
    (subst (λ m. StandsMachine {H = g.row.H.Denot} hub m (work h)) (sym left.machine) stands.machine) none) ∙ left.machine)) stands.machine)
    (noted_front s.live c.detach_lanes.new.self.front c.closed.new.self c.args.conn (Removed c.args.conn) (notes h) c.closed.ensures
    (subst (λ f. StandsFront s.live f (notes h)) (sym left.front) stands.front) known.made)

pub returns-clause-keeps : goal.returns-clause-keeps
returns-clause-keeps g c =
    keeps_then {H = g.row.H.Denot} {Job = g.row.H-Job.Denot} c.args.self.now.machine c.detach_lanes.new.self.machine c.remove_conn.new.self c.args.conn
    (keeps_same {H = g.row.H.Denot} {Job = g.row.H-Job.Denot} c.args.self.now.machine c.detach_lanes.new.self.machine c.args.conn c.detach_lanes.ensures.machine)
    c.remove_conn.ensures.keeps
