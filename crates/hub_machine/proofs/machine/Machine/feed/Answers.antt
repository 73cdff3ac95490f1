use Rattle.std.proofs.Common.{[], ◌∷◌, take, refl}
use Rattle.hd_delivery.specs.Bytes.{Bytes}
use Rattle.hd_calls.specs.Peers.{Plain}
use Rattle.hd_server.specs.Machine.{moves}
use Rattle.hj_jobs.specs.Meaning.{meaning}
use Rattle.hub_machine.proofs.Ends.{awake_now, goes_on, stood, woken_as_it_was, written_same}
use Rattle.hub_machine.proofs.machine.Machine.feed.Goals as goal

pub returns-in-Some-clause-fed : goal.returns-in-Some-clause-fed
returns-in-Some-clause-fed g c w t s there l present unshut =
    let hub = meaning g.H.Hub.begin_of g.H.Hub.step_of in
    let conn = c.args.conn in
    let mid = c.wake.new.self in
    let was = c.in-Some.peer.now in
    let at = c.in-Some.ensures.value in
    let awake = awake_now {H = g.row.H.Denot} {Job = g.row.H-Job.Denot} mid conn was c.wake.ensures.awake at in
    goes_on {H = g.row.H.Denot} {Job = g.row.H-Job.Denot} hub mid w conn t was c.feed.new.self
    (Plain (Bytes (take c.feed.result c.args.piece.now)) ∷ []) (c.wake.ensures.stands w s) there at awake _
    (c.get_mut.follows.holds c.feed.new.self) (λ h. c.feed.ensures.fed t (moves conn w) h l present unshut) refl

pub returns-in-Some-clause-none : goal.returns-in-Some-clause-none
returns-in-Some-clause-none g c w t s there none =
    let hub = meaning g.H.Hub.begin_of g.H.Hub.step_of in
    let conn = c.args.conn in
    let mid = c.wake.new.self in
    let was = c.in-Some.peer.now in
    let at = c.in-Some.ensures.value in
    let awake = awake_now {H = g.row.H.Denot} {Job = g.row.H-Job.Denot} mid conn was c.wake.ensures.awake at in
    let stood_for = stood {H = g.row.H.Denot} {Job = g.row.H-Job.Denot} hub mid w conn t was (c.wake.ensures.stands w s) there at awake in
    let same = c.feed.ensures.none t (moves conn w) stood_for none in (
      same.0,
      woken_as_it_was {H = g.row.H.Denot} {Job = g.row.H-Job.Denot} hub c.args.self.now mid _
          c.wake.ensures.registry c.wake.ensures.stands
          (written_same {H = g.row.H.Denot} {Job = g.row.H-Job.Denot} hub mid conn was c.feed.new.self _ at (c.get_mut.follows.holds c.feed.new.self) same.1),
    )
