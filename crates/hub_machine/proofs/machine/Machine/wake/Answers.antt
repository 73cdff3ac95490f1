use Rattle.hj_jobs.specs.Meaning.{meaning}
use Rattle.std.proofs.Common.{refl, sym, subst}
use Rattle.hub_machine.specs.Machines.{Sleeps}
use Rattle.hub_machine.proofs.Waking.{woke, woke_for}
use Rattle.hub_machine.proofs.machine.Machine.wake.Goals as goal

pub returns-clause-stands : goal.returns-clause-stands
returns-clause-stands g c =
    let hub = meaning g.H.Hub.begin_of g.H.Hub.step_of in
    woke {H = g.row.H.Denot} {Job = g.row.H-Job.Denot} hub c.args.self.now c.args.conn c.in-Some.peer.now c.catch_up.new.peer
    c.in-Some-wake.idle_peer (c.get_mut.follows.lender c.catch_up.new.peer) c.wake.new.self c.in-Some.ensures.value
    (c.get_mut.follows.holds c.catch_up.new.peer)
    c.in-Some-wake.ensures.idle_peer (c.in-Some-wake.ensures.wakes refl)
    (λ t h s. c.catch_up.ensures.stands t h
    (subst (λ k. Sleeps {H = g.row.H.Denot} hub k c.in-Some-wake.idle_peer t c.in-Some.peer.now h) (sym c.wake.ensures.clock) s))

pub returns-clause-stands_for : goal.returns-clause-stands_for
returns-clause-stands_for g c =
    let hub = meaning g.H.Hub.begin_of g.H.Hub.step_of in
    woke_for {H = g.row.H.Denot} {Job = g.row.H-Job.Denot} hub c.args.self.now c.args.conn c.in-Some.peer.now c.catch_up.new.peer
    c.in-Some-wake.idle_peer (c.get_mut.follows.lender c.catch_up.new.peer) c.wake.new.self c.in-Some.ensures.value
    (c.get_mut.follows.holds c.catch_up.new.peer)
    c.in-Some-wake.ensures.idle_peer (c.in-Some-wake.ensures.wakes refl)
    (λ t h s. c.catch_up.ensures.stands t h
    (subst (λ k. Sleeps {H = g.row.H.Denot} hub k c.in-Some-wake.idle_peer t c.in-Some.peer.now h) (sym c.wake.ensures.clock) s))
