use Rattle.std.proofs.Common.{sym, subst}
use Rattle.hd_delivery.specs.Histories.{first_of}
use Rattle.hd_trace.specs.ByMarks.{sequence_by, ack_by, message_by, ping_by, close_by, next_by}
use Rattle.hd_trace.specs.Owed.{IsOwed}
use Rattle.hd_trace.proofs.Owing.{or_owed, later_due, first_due}
use Rattle.hd_trace.proofs.marks.Marks.due.Goals as goal

pub returns-then-not-self : goal.returns-then-not-self
returns-then-not-self c config sent side many small = let m = c.args.self in
    subst (λ f. IsOwed config (next_by m sent) c.opening.result f) (sym (first_due config m sent c.in-Some.link c.in-Some.is c.if-not-self.true))
    (c.opening.ensures config (next_by m sent) side small)

pub returns : goal.returns
returns c config sent side many small =
    let m = c.args.self in
    let next = next_by m sent in
    let l = c.in-Some.link in
    let one = or_owed config next (sequence_by m sent) (ack_by m) c.sequence.result c.ack.result c.or.result c.or.ensures (c.sequence.ensures config sent many) (c.ack.ensures config next) in
    let two = or_owed config next (first_of (sequence_by m sent) (ack_by m)) (message_by m sent l) c.or.result c.message.result c.or-2.result c.or-2.ensures one (c.message.ensures config sent many) in
    let three = or_owed config next (first_of (first_of (sequence_by m sent) (ack_by m)) (message_by m sent l)) (ping_by m) c.or-2.result c.ping.result c.or-3.result c.or-3.ensures two (c.ping.ensures config next) in
    let all = or_owed config next (first_of (first_of (first_of (sequence_by m sent) (ack_by m)) (message_by m sent l)) (ping_by m)) (close_by m) c.or-3.result c.parting.result c.or-4.result c.or-4.ensures three (c.parting.ensures config next) in
    subst (λ f. IsOwed config next c.or-4.result f) (sym (later_due config m sent l c.in-Some.is c.if-not-self.false)) all
