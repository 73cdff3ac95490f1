use Rattle.std.proofs.Common.{[], ◌∷◌, sym, subst}
use Rattle.hd_delivery.specs.Histories as of
use Rattle.hd_delivery.specs.Bytes.{Does as Step_of}
use Rattle.hd_calls.specs.Peers.{Plain}
use Rattle.hd_server.specs.Machine.{moves}
use Rattle.hj_jobs.specs.Meaning.{meaning}
use Rattle.hp_peer.specs.Stands.{Stands}
use Rattle.hub_machine.proofs.Ends.{awake_now, closes_out, unstood}
use Rattle.hub_machine.proofs.machine.Machine.close.Goals.{in-Some, in_default}
use Rattle.hub_machine.proofs.machine.Machine.close.Goals as goal

pub returns-clause-live : goal.returns-clause-live
returns-clause-live g c w t s there live =
    let hub = meaning g.H.Hub.begin_of g.H.Hub.step_of in
    let conn = c.args.conn in
    let mid = c.wake.new.self in
    let stands = c.wake.ensures.stands w s in
    let awake = awake_now {H = g.row.H.Denot} {Job = g.row.H-Job.Denot} mid conn in
    elim c.match-get_mut.branch [
      | in-Some b ↦ closes_out {H = g.row.H.Denot} {Job = g.row.H-Job.Denot} hub mid w conn t b.in-Some.peer.now b.close.new.self
          (Plain (Step_of (of.Closed c.args.reason _)) ∷ []) stands there b.in-Some.ensures.value
          (awake b.in-Some.peer.now c.wake.ensures.awake b.in-Some.ensures.value) _ (c.get_mut.follows.holds b.close.new.self)
          (λ h. b.close.ensures.live t (moves conn w) h live) c.match-get_mut.self c.close_out.new.self b.self-is c.close_out.ensures
      | in_default b ↦ absurd (unstood {H = g.row.H.Denot} {Job = g.row.H-Job.Denot} hub mid w conn t stands there b.in_default.ensures.value)
    ]

pub returns-clause-closed : goal.returns-clause-closed
returns-clause-closed g c w t s there shut =
    let hub = meaning g.H.Hub.begin_of g.H.Hub.step_of in
    let conn = c.args.conn in
    let mid = c.wake.new.self in
    let stands = c.wake.ensures.stands w s in
    let awake = awake_now {H = g.row.H.Denot} {Job = g.row.H-Job.Denot} mid conn in
    elim c.match-get_mut.branch [
      | in-Some b ↦ closes_out {H = g.row.H.Denot} {Job = g.row.H-Job.Denot} hub mid w conn t b.in-Some.peer.now b.close.new.self
          [] stands there b.in-Some.ensures.value
          (awake b.in-Some.peer.now c.wake.ensures.awake b.in-Some.ensures.value) _ (c.get_mut.follows.holds b.close.new.self)
          (λ h. subst (λ p. Stands {H = g.row.H.Denot} hub t p (moves conn w)) (sym (b.close.ensures.closed t (moves conn w) h shut)) h)
          c.match-get_mut.self c.close_out.new.self b.self-is c.close_out.ensures
      | in_default b ↦ absurd (unstood {H = g.row.H.Denot} {Job = g.row.H-Job.Denot} hub mid w conn t stands there b.in_default.ensures.value)
    ]
