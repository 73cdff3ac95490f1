use Rattle.std.proofs.Common.{Ok, Err, Some}
use Rattle.hm_codec.specs.declared.why.FrameWhy.TheVariants.{Split}
use Rattle.he_wire.specs.declared.reading.LinkFault.TheVariants.{Refused}
use Rattle.he_wire.proofs.Tellings.{later_read, later_refused, later_stopped, told_later}
use Rattle.he_wire.proofs.reading.read_wire_message.Goals as goal

pub returns-in-Ok-clause-reads : goal.returns-in-Ok-clause-reads
returns-in-Ok-clause-reads c =
    let lent = (rw c.in-Ok-Some.field-0-is at c.in-Ok-Some.ensures.lent).1 in
    later_read c.args.codec c.args.splitter.now lent.0 c.in-Ok-Some.frame.now c.in-Ok.read lent.1 c.in-Ok.ensures.message c.in-Ok.ensures.unknown

pub returns-in-Err-Refused-clause-reads : goal.returns-in-Err-Refused-clause-reads
returns-in-Err-Refused-clause-reads c =
    let lent = (rw c.in-Ok-Some.field-0-is at c.in-Ok-Some.ensures.lent).1 in
    let refused = rw c.in-Err-Refused.field-0-is at c.in-Err-Refused.ensures.refused in
    later_refused c.args.codec c.args.splitter.now lent.0 c.in-Ok-Some.frame.now _ _ lent.1 refused c.place-at.ensures

pub returns-in-Err-clause-reads : goal.returns-in-Err-clause-reads
returns-in-Err-clause-reads c = later_stopped c.args.codec c.args.splitter.now _ c.in-Err.fault c.in-Err.ensures.fault c.place-at.ensures

pub returns-in-Ok-clause-told : goal.returns-in-Ok-clause-told
returns-in-Ok-clause-told c = told_later c.reads_once.ensures c.args.codec c.args.splitter.now (Ok (Some c.in-Ok.read)) (returns-in-Ok-clause-reads c)

pub returns-in-Err-Refused-clause-told : goal.returns-in-Err-Refused-clause-told
returns-in-Err-Refused-clause-told c =
    told_later c.reads_once.ensures c.args.codec c.args.splitter.now (Err (Refused _ _)) (returns-in-Err-Refused-clause-reads c)

pub returns-in-Err-clause-told : goal.returns-in-Err-clause-told
returns-in-Err-clause-told c =
    told_later c.reads_once.ensures c.args.codec c.args.splitter.now (Err (Refused c.place-at.result (Split c.in-Err.fault)))
    (returns-in-Err-clause-reads c)
