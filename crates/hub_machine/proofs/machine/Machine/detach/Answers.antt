use Rattle.std.proofs.Common.{[], ◌∷◌, sym, subst}
use Rattle.hd_delivery.specs.Histories.{Detached}
use Rattle.hd_delivery.specs.Bytes.{Does as Step_of}
use Rattle.hd_calls.specs.Peers.{Plain}
use Rattle.hd_server.specs.Machine.{moves}
use Rattle.hj_jobs.specs.Meaning.{meaning}
use Rattle.hp_peer.specs.Stands.{Stands}
use Rattle.hub_machine.proofs.Ends.{awake_now, closes_out, unstood}
use Rattle.hub_machine.proofs.machine.Machine.detach.Goals.{in-Some, in_default}
use Rattle.hub_machine.proofs.machine.Machine.detach.Goals as goal

pub returns-clause-left : goal.returns-clause-left
returns-clause-left g c w t s there l present in_time =
    let hub = meaning g.H.Hub.begin_of g.H.Hub.step_of in
    let conn = c.args.conn in
    let mid = c.wake.new.self in
    let stands = c.wake.ensures.stands w s in
    let awake = awake_now {H = g.row.H.Denot} {Job = g.row.H-Job.Denot} mid conn in
    elim c.match-get_mut.branch [
      | in-Some b ↦ closes_out {H = g.row.H.Denot} {Job = g.row.H-Job.Denot} hub mid w conn t b.in-Some.peer.now b.detach.new.self
          (Plain (Step_of (Detached c.args.now)) ∷ []) stands there b.in-Some.ensures.value
          (awake b.in-Some.peer.now c.wake.ensures.awake b.in-Some.ensures.value) _ (c.get_mut.follows.holds b.detach.new.self)
          (λ h. b.detach.ensures.left t (moves conn w) h l present in_time) c.match-get_mut.self c.close_out.new.self b.self-is c.close_out.ensures
      | in_default b ↦ absurd (unstood {H = g.row.H.Denot} {Job = g.row.H-Job.Denot} hub mid w conn t stands there b.in_default.ensures.value)
    ]

pub returns-clause-none : goal.returns-clause-none
returns-clause-none g c w t s there absent =
    let hub = meaning g.H.Hub.begin_of g.H.Hub.step_of in
    let conn = c.args.conn in
    let mid = c.wake.new.self in
    let stands = c.wake.ensures.stands w s in
    let awake = awake_now {H = g.row.H.Denot} {Job = g.row.H-Job.Denot} mid conn in
    elim c.match-get_mut.branch [
      | in-Some b ↦ closes_out {H = g.row.H.Denot} {Job = g.row.H-Job.Denot} hub mid w conn t b.in-Some.peer.now b.detach.new.self
          [] stands there b.in-Some.ensures.value
          (awake b.in-Some.peer.now c.wake.ensures.awake b.in-Some.ensures.value) _ (c.get_mut.follows.holds b.detach.new.self)
          (λ h. subst (λ p. Stands {H = g.row.H.Denot} hub t p (moves conn w)) (sym (b.detach.ensures.none t (moves conn w) h absent)) h)
          c.match-get_mut.self c.close_out.new.self b.self-is c.close_out.ensures
      | in_default b ↦ absurd (unstood {H = g.row.H.Denot} {Job = g.row.H-Job.Denot} hub mid w conn t stands there b.in_default.ensures.value)
    ]
