use Rattle.hd_server.specs.Machine.{moves}
use Rattle.hj_jobs.specs.Meaning.{meaning}
use Rattle.hub_machine.proofs.Ends.{awake_now, stood}
use Rattle.hub_machine.proofs.TookSaid.{lends_on, shut_there}
use Rattle.hub_machine.proofs.machine.Machine.speak.Goals as goal

pub returns-clause-lent : goal.returns-clause-lent
returns-clause-lent g c = λ w t s there.
    let hub = meaning g.H.Hub.begin_of g.H.Hub.step_of in
    let conn = c.args.conn in
    let mid = c.ensure_awake.new.self in
    let was = c.in-Some.peer.now in
    let peer = c.say_due.new.peer in
    let at = c.in-Some.ensures.value in
    let stands = c.ensure_awake.ensures.stands w s in
    let awake = awake_now {H = g.row.H.Denot} {Job = g.row.H-Job.Denot} mid conn was (c.ensure_awake.ensures.awake s.index) at in
    let said = c.in_ok-any.ensures t (moves conn w)
    (stood {H = g.row.H.Denot} {Job = g.row.H-Job.Denot} hub mid w conn t was stands there at awake) in
    record {
      frames = said.frames;
      due = said.due;
      some = said.some;
      bytes = said.bytes;
      stands = lends_on {H = g.row.H.Denot} {Job = g.row.H-Job.Denot} hub mid w conn t was peer stands there at awake _
          (c.get_mut.follows.holds peer) said.frames said.stands;
    }

pub returns-clause-text : goal.returns-clause-text
returns-clause-text g c = λ w t s there servers.
    let hub = meaning g.H.Hub.begin_of g.H.Hub.step_of in
    let conn = c.args.conn in
    let mid = c.ensure_awake.new.self in
    let was = c.in-Some.peer.now in
    let at = c.in-Some.ensures.value in
    c.says_texts-text.ensures t (moves conn w)
    (stood {H = g.row.H.Denot} {Job = g.row.H-Job.Denot} hub mid w conn t was (c.ensure_awake.ensures.stands w s) there at
    (awake_now {H = g.row.H.Denot} {Job = g.row.H-Job.Denot} mid conn was (c.ensure_awake.ensures.awake s.index) at)) servers

pub returns-clause-closed : goal.returns-clause-closed
returns-clause-closed g c = λ w t s there.
    shut_there {H = g.row.H.Denot} {Job = g.row.H-Job.Denot} (meaning g.H.Hub.begin_of g.H.Hub.step_of) c.ensure_awake.new.self c.args.conn
    c.in-Some.peer.now c.say_due.new.peer c.in-Some.ensures.value _ (c.get_mut.follows.holds c.say_due.new.peer) c.is_over-closed.result
    c.is_over-closed.ensures w t s there
