use Rattle.std.proofs.Common.{refl}
use Rattle.std.proofs.lemmas.Result.{IfOk-weaker, IfErr-weaker}
use Rattle.hd_server.specs.Machine.{moves}
use Rattle.hj_jobs.specs.Meaning.{meaning}
use Rattle.hub_machine.proofs.Ends.{awake_now, closes_out, stood}
use Rattle.hub_machine.proofs.Took.{takes, untaken}
use Rattle.hub_machine.proofs.machine.Machine.take.Goals as goal

pub returns-clause-ok : goal.returns-clause-ok
returns-clause-ok g c = IfOk-weaker c.take-took.result _ _ (λ told took w t s there.
    let hub = meaning g.H.Hub.begin_of g.H.Hub.step_of in
    let conn = c.args.conn in
    let mid = c.wake.new.self in
    let was = c.in-Some.peer.now in
    let peer = c.take-took.new.self in
    let at = c.in-Some.ensures.value in
    let stands = c.wake.ensures.stands w s in
    let awake = awake_now {H = g.row.H.Denot} {Job = g.row.H-Job.Denot} mid conn was c.wake.ensures.awake at in
    let stood_for = stood {H = g.row.H.Denot} {Job = g.row.H-Job.Denot} hub mid w conn t was stands there at awake in
    takes {H = g.row.H.Denot} {Job = g.row.H-Job.Denot} hub c.close_out.new.self conn w t peer
    (λ ms now. closes_out {H = g.row.H.Denot} {Job = g.row.H-Job.Denot} hub mid w conn t was peer ms stands there at awake _
    (c.get_mut.follows.holds peer) (λ h. now) _ c.close_out.new.self refl c.close_out.ensures)
    c.args.now told
    (took t (moves conn w) stood_for))
    c.take-took.ensures.ok

pub returns-clause-refused : goal.returns-clause-refused
returns-clause-refused g c = IfErr-weaker c.take-took.result _ _ (λ e refused w t s there.
    let hub = meaning g.H.Hub.begin_of g.H.Hub.step_of in
    let conn = c.args.conn in
    let mid = c.wake.new.self in
    let was = c.in-Some.peer.now in
    let peer = c.take-took.new.self in
    let at = c.in-Some.ensures.value in
    let stands = c.wake.ensures.stands w s in
    let awake = awake_now {H = g.row.H.Denot} {Job = g.row.H-Job.Denot} mid conn was c.wake.ensures.awake at in
    let stood_for = stood {H = g.row.H.Denot} {Job = g.row.H-Job.Denot} hub mid w conn t was stands there at awake in
    untaken {H = g.row.H.Denot} {Job = g.row.H-Job.Denot} hub c.close_out.new.self conn w t peer
    (λ ms now. closes_out {H = g.row.H.Denot} {Job = g.row.H-Job.Denot} hub mid w conn t was peer ms stands there at awake _
    (c.get_mut.follows.holds peer) (λ h. now) _ c.close_out.new.self refl c.close_out.ensures)
    e
    (refused t (moves conn w) stood_for))
    c.take-took.ensures.refused
