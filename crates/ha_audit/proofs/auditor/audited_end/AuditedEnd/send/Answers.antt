use Rattle.std.proofs.Common.{refl, arith, ◌≡◌, ◌+◌, length}
use Rattle.ha_audit.specs.AuditState.{framed_size, sum_of_first}
use Rattle.ha_audit.proofs.auditor.audited_end.AuditedEnd.send.Goals as goal

pub returns : goal.returns
returns c =
    let old = c.args.self.now in
    let sum : c.in-Some.sum ≡ sum_of_first old.sent.items (length old.sent.items) + framed_size old.marks.codec c.args.message =
    omega (arith, c.in-Some.ensures, c.sum_of_all.ensures, c.in_ok-size.ensures.framed) in
    let room = (c.has_room.ensures c.args.message c.in_ok-size.ensures.frame sum).0 c.if-not-has_room.false in (
      record { unclosed = c.if-self.false; shaken = c.if-not-self.false },
      room,
      record {
        marks = c.send-self.ensures (let few = room.few in omega arith);
        last = _;
        message = refl;
        sum = sum;
        sent = c.in_ok-push.ensures.items;
        links = refl;
        last_is = refl;
        fed = refl;
        taken = refl;
        is_said = c.in_ok-size.ensures.said;
        as_read = c.in_ok-size.ensures.as_read;
      },
    )
