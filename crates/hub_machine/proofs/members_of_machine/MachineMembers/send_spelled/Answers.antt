use Rattle.std.proofs.Common.{refl}
use Rattle.std.proofs.lemmas.Result.{err_from_is_err_and}
use Rattle.hub_machine.proofs.Deliver.{deals_more, sent, unsent}
use Rattle.hub_machine.proofs.Ends.{awake_now, keeps, written}
use Rattle.hub_machine.proofs.members_of_machine.MachineMembers.send_spelled.Goals as goal

pub returns-in_err-send_spelled-clause-dealt : goal.returns-in_err-send_spelled-clause-dealt
returns-in_err-send_spelled-clause-dealt g c =
    let e = err_from_is_err_and c.from_residual.result c.from_residual.ensures.1 in
    let old = c.wake.new.self in
    let new = record old { peers = c.get_mut.follows.lender c.send_spelled.new.self } in
    let at = c.in-Some.ensures.value in
    let through = c.get_mut.follows.holds c.send_spelled.new.self in
    rw (e.1, e.2) (λ s deals d. deals_more {H = g.row.H.Denot} {Job = g.row.H-Job.Denot} _ s c.args.self.now new deals _ d c.wake.ensures.clock
    (λ a stands. unsent {H = g.row.H.Denot} {Job = g.row.H-Job.Denot} _ old new c.args.conn c.in-Some.peer.now c.send_spelled.new.self c.args.message.now
    c.in_err-send_spelled.field-0.0
    (awake_now {H = g.row.H.Denot} {Job = g.row.H-Job.Denot} old c.args.conn c.in-Some.peer.now c.wake.ensures.awake at)
    (keeps {H = g.row.H.Denot} {Job = g.row.H-Job.Denot} old new c.args.conn c.in-Some.peer.now c.send_spelled.new.self at through refl) at
    (written {H = g.row.H.Denot} {Job = g.row.H-Job.Denot} old new c.args.conn c.in-Some.peer.now c.send_spelled.new.self at through)
    refl c.in_err-send_spelled.ensures.unchanged c.in_err-send_spelled.ensures.refused a (c.wake.ensures.stands_for a stands)))

pub returns-clause-dealt : goal.returns-clause-dealt
returns-clause-dealt g c =
    let old = c.wake.new.self in
    let new = record old { peers = c.get_mut.follows.lender c.send_spelled.new.self } in
    let at = c.in-Some.ensures.value in
    let through = c.get_mut.follows.holds c.send_spelled.new.self in
    let notice = c.requires.notice in λ s deals d. deals_more {H = g.row.H.Denot} {Job = g.row.H-Job.Denot} _ s c.args.self.now new deals _ d c.wake.ensures.clock
    (λ a stands. sent {H = g.row.H.Denot} {Job = g.row.H-Job.Denot} _ old new c.args.conn c.in-Some.peer.now c.send_spelled.new.self c.args.message.now
    notice.0 c.in_ok-send_spelled.field-0
    (awake_now {H = g.row.H.Denot} {Job = g.row.H-Job.Denot} old c.args.conn c.in-Some.peer.now c.wake.ensures.awake at)
    (keeps {H = g.row.H.Denot} {Job = g.row.H-Job.Denot} old new c.args.conn c.in-Some.peer.now c.send_spelled.new.self at through refl) at
    (written {H = g.row.H.Denot} {Job = g.row.H-Job.Denot} old new c.args.conn c.in-Some.peer.now c.send_spelled.new.self at through)
    refl notice.1 (λ t h x. c.in_ok-send_spelled.ensures.ok t h x notice.0 notice.1) a (c.wake.ensures.stands_for a stands))
