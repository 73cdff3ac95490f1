use Rattle.std.proofs.lemmas.Result.{IfOk-weaker}
use Rattle.hd_server.specs.Machine.{moves}
use Rattle.hj_jobs.specs.Meaning.{meaning}
use Rattle.hub_machine.proofs.Ends.{awake_now, stood}
use Rattle.hub_machine.proofs.TookSaid.{lends_on}
use Rattle.hub_machine.proofs.machine.Machine.say_some.Goals as goal

pub returns-clause-lent : goal.returns-clause-lent
returns-clause-lent g c = IfOk-weaker c.say_body.result _ _ (λ any says w t s there empty.
    let hub = meaning g.H.Hub.begin_of g.H.Hub.step_of in
    let conn = c.args.conn in
    let mid = c.ensure_awake.new.self in
    let was = c.in-Some.peer.now in
    let peer = c.say_body.new.peer in
    let at = c.in-Some.ensures.value in
    let stands = c.ensure_awake.ensures.stands w s in
    let awake = awake_now {H = g.row.H.Denot} {Job = g.row.H-Job.Denot} mid conn was (c.ensure_awake.ensures.awake s.index) at in
    let said = says t (moves conn w) (stood {H = g.row.H.Denot} {Job = g.row.H-Job.Denot} hub mid w conn t was stands there at awake) empty in
    record {
      frames = said.frames;
      due = said.due;
      some = said.some;
      bytes = said.bytes;
      stands = lends_on {H = g.row.H.Denot} {Job = g.row.H-Job.Denot} hub mid w conn t was peer stands there at awake _
          (c.get_mut.follows.holds peer) said.frames said.stands;
    })
    c.say_body.ensures
