use Rattle.std.proofs.lemmas.Result.{IfOk-weaker}
use Rattle.hd_server.specs.Machine.{moves}
use Rattle.hj_jobs.specs.Meaning.{meaning}
use Rattle.hub_machine.proofs.Ends.{awake_now, stood}
use Rattle.hub_machine.proofs.TookSaid.{says}
use Rattle.hub_machine.proofs.machine.Machine.say.Goals as goal

pub returns-clause-said : goal.returns-clause-said
returns-clause-said g c = IfOk-weaker c.say_one.result _ _ (λ more one w t s there.
    let hub = meaning g.H.Hub.begin_of g.H.Hub.step_of in
    let conn = c.args.conn in
    let mid = c.wake.new.self in
    let was = c.in-Some.peer.now in
    let peer = c.say_one.new.peer in
    let at = c.in-Some.ensures.value in
    let stands = c.wake.ensures.stands w s in
    let awake = awake_now {H = g.row.H.Denot} {Job = g.row.H-Job.Denot} mid conn was c.wake.ensures.awake at in
    says {H = g.row.H.Denot} {Job = g.row.H-Job.Denot} hub mid w conn t was peer stands there at awake _ (c.get_mut.follows.holds peer) more
    c.args.out.now.items c.say_one.new.out.items
    (one t (moves conn w) (stood {H = g.row.H.Denot} {Job = g.row.H-Job.Denot} hub mid w conn t was stands there at awake)))
    c.say_one.ensures
