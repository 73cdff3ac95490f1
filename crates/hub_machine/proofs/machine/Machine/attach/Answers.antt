use Rattle.std.proofs.Common.{[], ◌∷◌, refl}
use Rattle.std.proofs.lemmas.Result.{on_ok_weaker, on_err_weaker}
use Rattle.hd_delivery.specs.Histories.{Attached}
use Rattle.hd_delivery.specs.Bytes.{Does as Step_of}
use Rattle.hd_calls.specs.Peers.{Plain}
use Rattle.hd_server.specs.Machine.{moves}
use Rattle.hj_jobs.specs.Meaning.{meaning}
use Rattle.hub_machine.proofs.Ends.{awake_now, goes_on, woken_as_it_was, written_same}
use Rattle.hub_machine.proofs.machine.Machine.attach.Goals as goal

pub returns-clause-ok : goal.returns-clause-ok
returns-clause-ok g c = on_ok_weaker c.attach.result
    (λ ok w t s there l unused in_time.
    let hub = meaning g.H.Hub.begin_of g.H.Hub.step_of in
    let conn = c.args.conn in
    let mid = c.wake.new.self in
    let was = c.in-Some.peer.now in
    let at = c.in-Some.ensures.value in
    goes_on {H = g.row.H.Denot} {Job = g.row.H-Job.Denot} hub mid w conn t was c.attach.new.self
    (Plain (Step_of (Attached l c.args.now)) ∷ []) (c.wake.ensures.stands w s) there at
    (awake_now {H = g.row.H.Denot} {Job = g.row.H-Job.Denot} mid conn was c.wake.ensures.awake at) _
    (c.get_mut.follows.holds c.attach.new.self) (λ h. ok t (moves conn w) h l unused in_time) refl) c.attach.ensures.ok

pub returns-clause-unchanged : goal.returns-clause-unchanged
returns-clause-unchanged g c =
    let hub = meaning g.H.Hub.begin_of g.H.Hub.step_of in
    let mid = c.wake.new.self in
    on_err_weaker c.attach.result
    (λ same. woken_as_it_was {H = g.row.H.Denot} {Job = g.row.H-Job.Denot} hub c.args.self.now mid _ c.wake.ensures.registry c.wake.ensures.stands
    (written_same {H = g.row.H.Denot} {Job = g.row.H-Job.Denot} hub mid c.args.conn
    c.in-Some.peer.now c.attach.new.self _ c.in-Some.ensures.value (c.get_mut.follows.holds c.attach.new.self) same)) c.attach.ensures.unchanged
