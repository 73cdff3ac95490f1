use Rattle.std.proofs.Common.{subst, sym, ap, ◌∙◌}
use Rattle.hd_server.specs.Doings.{work}
use Rattle.hj_jobs.specs.Meaning.{meaning}
use Rattle.hub_machine.specs.Rounds.{AreNumbers}
use Rattle.hub_server.proofs.Asleep.{asleep, awake_there, mute_asleep, not_awake, not_held}
use Rattle.hub_server.proofs.FlushAll.{all_told, none_told, one_told}
use Rattle.hub_server.proofs.Resting.{up_unawake}
use Rattle.hub_server.proofs.server.Server.flush_all.Goals as goal

pub loop-conn-init : goal.loop-conn-init
loop-conn-init g c s u before h x calm on_time =
    let hub = meaning g.H.Hub.begin_of g.H.Hub.step_of in
    let v = c.wake_pollers.new.self in
    let stands = c.wake_pollers.ensures.stands s u before h x in
    let numbers = subst (λ cs. AreNumbers {H = g.row.H.Denot} v.machine cs) (sym c.deref-conn-items.ensures.value)
    (c.in_ok-conns.ensures (work h) stands.machine) in
    none_told {H = g.row.H.Denot} {Job = g.row.H-Job.Denot} hub s u before v c.deref-conn-items.result.now h numbers.rise calm stands
    (ap (λ k. k.moment) c.wake_pollers.ensures.clock ∙ on_time)
    (λ k e. up_unawake {H = g.row.H.Denot} {Job = g.row.H-Job.Denot} hub v.machine k (numbers.are k ∙ e))

pub loop-conn-preserved : goal.loop-conn-preserved
loop-conn-preserved g c s u before h x calm on_time =
    let hub = meaning g.H.Hub.begin_of g.H.Hub.step_of in
    let v = c.wake_pollers.new.self in
    let stands = c.wake_pollers.ensures.stands s u before h x in
    let numbers = subst (λ cs. AreNumbers {H = g.row.H.Denot} v.machine cs) (sym c.deref-conn-items.ensures.value)
    (c.in_ok-conns.ensures (work h) stands.machine) in
    one_told {H = g.row.H.Denot} {Job = g.row.H-Job.Denot} c.parts_of_turns.ensures hub s before c.loop-conn.self c.flush.new.self c.deref-conn-items.result.now
    c.loop-conn.conn-index h c.loop-conn-test.true
    (λ k e. awake_there {H = g.row.H.Denot} {Job = g.row.H-Job.Denot} hub v.machine (work h) k stands.machine (numbers.are k ∙ e))
    (c.loop-conn.invariant s u before h x calm on_time) c.in_ok-flush.ensures.flushed c.in_ok-flush.ensures.keeps

pub returns : goal.returns
returns g c s u before h x calm on_time =
    let hub = meaning g.H.Hub.begin_of g.H.Hub.step_of in
    let v = c.wake_pollers.new.self in
    let stands = c.wake_pollers.ensures.stands s u before h x in
    let numbers = subst (λ cs. AreNumbers {H = g.row.H.Denot} v.machine cs) (sym c.deref-conn-items.ensures.value)
    (c.in_ok-conns.ensures (work h) stands.machine) in
    all_told {H = g.row.H.Denot} {Job = g.row.H-Job.Denot} c.connections_are_numbered.ensures c.parts_of_turns.ensures hub s
    before v.machine c.loop-conn.self c.deref-conn-items.result.now
    c.loop-conn.conn-index h c.loop-conn-test.false stands.machine numbers
    (λ k there e. let z = asleep {H = g.row.H.Denot} {Job = g.row.H-Job.Denot} hub v.machine (work h) k stands.machine
    (not_awake {H = g.row.H.Denot} {Job = g.row.H-Job.Denot} hub v.machine (work h) k stands.machine there e) in
    mute_asleep {H = g.row.H.Denot} {Job = g.row.H-Job.Denot} s v.machine k h z there
    (λ lane since f. not_held {H = g.row.H.Denot} {Job = g.row.H-Job.Denot} v.machine k h z since
    (λ late. c.wake_pollers.ensures.awake s u before h x k lane since f there late)))
    (c.loop-conn.invariant s u before h x calm on_time)
