use Rattle.std.proofs.Common.{refl, sym, ap, ◌∙◌}
use Rattle.hd_server.specs.Machine.{moves}
use Rattle.hj_jobs.specs.Meaning.{meaning}
use Rattle.hub_machine.proofs.Ends.{awake_now, closes_if, stood}
use Rattle.hub_machine.proofs.TickThere.{granted_none, granted_some, not_there, ticks_there}
use Rattle.hub_machine.proofs.machine.Machine.tick_there.Goals as goal

pub returns-then-not-is_attached-clause-ticked : goal.returns-then-not-is_attached-clause-ticked
returns-then-not-is_attached-clause-ticked g c w t s there in_time =
    let hub = meaning g.H.Hub.begin_of g.H.Hub.step_of in
    let conn = c.args.conn in
    let mid = c.ensure_awake.new.self in
    let was = c.in-Some.peer.now in
    let at = c.in-Some.ensures.value in
    let stands = c.ensure_awake.ensures.stands w s in
    let awake = awake_now {H = g.row.H.Denot} {Job = g.row.H-Job.Denot} mid conn was (c.ensure_awake.ensures.awake s.index) at in
    not_there {H = g.row.H.Denot} {Job = g.row.H-Job.Denot} hub mid w conn t was was stands there at awake _
    (c.get_mut.follows.holds was) c.args.now c.is_attached.result c.is_attached.ensures refl c.if-not-is_attached.true

pub returns-then-silent-clause-ticked : goal.returns-then-silent-clause-ticked
returns-then-silent-clause-ticked g c w t s there in_time =
    let hub = meaning g.H.Hub.begin_of g.H.Hub.step_of in
    let conn = c.args.conn in
    let mid = c.ensure_awake.new.self in
    let was = c.in-Some.peer.now in
    let peer = c.tick-silent.new.self in
    let at = c.in-Some.ensures.value in
    let stands = c.ensure_awake.ensures.stands w s in
    let awake = awake_now {H = g.row.H.Denot} {Job = g.row.H-Job.Denot} mid conn was (c.ensure_awake.ensures.awake s.index) at in
    let own = stood {H = g.row.H.Denot} {Job = g.row.H-Job.Denot} hub mid w conn t was stands there at awake in
    ticks_there {H = g.row.H.Denot} {Job = g.row.H-Job.Denot} hub mid w conn t was peer stands there at awake _ (c.get_mut.follows.holds peer)
    c.args.now c.is_attached.result c.is_attached.ensures c.if-not-is_attached.false c.tick-silent.result
    (c.tick-silent.ensures.ticks t (moves conn w) own in_time) c.close_out_if.new.self c.is_over-over.result c.close_out_if.ensures
    c.is_over-over.ensures _ (sym c.if-silent.true) (granted_some _ _ (c.may_resume-granted.ensures t (moves conn w) own))

pub returns-clause-ticked : goal.returns-clause-ticked
returns-clause-ticked g c w t s there in_time =
    let hub = meaning g.H.Hub.begin_of g.H.Hub.step_of in
    let conn = c.args.conn in
    let mid = c.ensure_awake.new.self in
    let was = c.in-Some.peer.now in
    let peer = c.tick-silent.new.self in
    let at = c.in-Some.ensures.value in
    let stands = c.ensure_awake.ensures.stands w s in
    let awake = awake_now {H = g.row.H.Denot} {Job = g.row.H-Job.Denot} mid conn was (c.ensure_awake.ensures.awake s.index) at in
    let own = stood {H = g.row.H.Denot} {Job = g.row.H-Job.Denot} hub mid w conn t was stands there at awake in
    ticks_there {H = g.row.H.Denot} {Job = g.row.H-Job.Denot} hub mid w conn t was peer stands there at awake _ (c.get_mut.follows.holds peer)
    c.args.now c.is_attached.result c.is_attached.ensures c.if-not-is_attached.false c.tick-silent.result
    (c.tick-silent.ensures.ticks t (moves conn w) own in_time) c.close_out_if.new.self c.is_over-over.result c.close_out_if.ensures
    c.is_over-over.ensures _ (sym c.if-silent.false) (granted_none _)

pub returns-then-silent-clause-clock : goal.returns-then-silent-clause-clock
returns-then-silent-clause-clock g c =
    ap (λ s. s.clock)
    (closes_if {H = g.row.H.Denot} {Job = g.row.H-Job.Denot} _ c.ensure_awake.new.self c.args.conn c.in-Some.peer.now c.tick-silent.new.self
    c.in-Some.ensures.value _ (c.get_mut.follows.holds c.tick-silent.new.self) c.close_out_if.new.self c.is_over-over.result c.close_out_if.ensures
    c.is_over-over.ensures).idle_set
    ∙ c.ensure_awake.ensures.keeps.clock

pub returns-clause-clock : goal.returns-clause-clock
returns-clause-clock g c =
    ap (λ s. s.clock)
    (closes_if {H = g.row.H.Denot} {Job = g.row.H-Job.Denot} _ c.ensure_awake.new.self c.args.conn c.in-Some.peer.now c.tick-silent.new.self
    c.in-Some.ensures.value _ (c.get_mut.follows.holds c.tick-silent.new.self) c.close_out_if.new.self c.is_over-over.result c.close_out_if.ensures
    c.is_over-over.ensures).idle_set
    ∙ c.ensure_awake.ensures.keeps.clock
