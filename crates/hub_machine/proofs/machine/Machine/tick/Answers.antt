use Rattle.std.proofs.Common.{[], ◌∷◌, ◌∙◌, sym, subst, if◌then◌else◌}
use Rattle.hd_delivery.specs.Histories.{Silenced, Ticked}
use Rattle.hd_delivery.specs.Bytes.{Does as Step_of}
use Rattle.hd_calls.specs.Peers.{Plain}
use Rattle.hd_server.specs.Machine.{moves}
use Rattle.hj_jobs.specs.Meaning.{meaning}
use Rattle.hp_peer.specs.Stands.{Stands}
use Rattle.hub_machine.proofs.Ends.{awake_now, closes_out, stood, unstood}
use Rattle.hub_machine.proofs.machine.Machine.tick.Goals.{in-Some, in-None}
use Rattle.hub_machine.proofs.machine.Machine.tick.Goals as goal

pub returns-clause-ticks : goal.returns-clause-ticks
returns-clause-ticks g c w t s there in_time =
    let hub = meaning g.H.Hub.begin_of g.H.Hub.step_of in
    let conn = c.args.conn in
    let mid = c.wake.new.self in
    let stands = c.wake.ensures.stands w s in
    let awake = awake_now {H = g.row.H.Denot} {Job = g.row.H-Job.Denot} mid conn in (
      elim c.match-get_mut.branch [
        | in-Some b ↦
            let was = stood {H = g.row.H.Denot} {Job = g.row.H-Job.Denot} hub mid w conn t b.in-Some.peer.now stands there
            b.in-Some.ensures.value (awake b.in-Some.peer.now c.wake.ensures.awake b.in-Some.ensures.value) in
            b.silent-is ∙ (b.tick-silent.ensures.ticks t (moves conn w) was in_time).0
        | in-None b ↦ absurd (unstood {H = g.row.H.Denot} {Job = g.row.H-Job.Denot} hub mid w conn t stands there b.in-None.ensures.value)
      ],
      elim c.match-get_mut.branch [
        | in-Some b ↦ closes_out {H = g.row.H.Denot} {Job = g.row.H-Job.Denot} hub mid w conn t b.in-Some.peer.now b.tick-silent.new.self
            (Plain (Step_of (if c.match-get_mut.silent then Silenced c.args.now else Ticked c.args.now)) ∷ []) stands there b.in-Some.ensures.value
            (awake b.in-Some.peer.now c.wake.ensures.awake b.in-Some.ensures.value) _ (c.get_mut.follows.holds b.tick-silent.new.self)
            (λ h. subst (λ x. Stands {H = g.row.H.Denot} hub t b.tick-silent.new.self
            (Plain (Step_of (if x then Silenced c.args.now else Ticked c.args.now)) ∷ moves conn w)) (sym b.silent-is)
            (b.tick-silent.ensures.ticks t (moves conn w) h in_time).1)
            c.match-get_mut.self c.close_out.new.self b.self-is c.close_out.ensures
        | in-None b ↦ absurd (unstood {H = g.row.H.Denot} {Job = g.row.H-Job.Denot} hub mid w conn t stands there b.in-None.ensures.value)
      ],
    )
