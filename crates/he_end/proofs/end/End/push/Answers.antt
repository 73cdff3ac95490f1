use Rattle.std.proofs.Common.{length, subst, ap, arith}
use Rattle.hq_resend.specs.Buffers.{IsPushFault}
use Rattle.he_end.proofs.Sends.{has_size, within, full, exhausted, sends, unchanged}
use Rattle.he_end.proofs.end.End.push.Goals as goal

pub push-requires : goal.push-requires
push-requires c =
    let e = c.args.self.now.session in
    let is = c.requires.spelled in
    let size = has_size c.frame_is_of_image.ensures e.codec is.0 c.args.frame is.1 c.bytes.result.now c.unframed_size-size.result c.bytes.ensures c.unframed_size-size.ensures in
    within c.frame_is_of_image.ensures e.codec is.0 c.args.frame is.1 c.wrapped_begins.ensures e.ring.limits.frame
    (let small = c.if-size-frame.false in let value = c.frame-2.ensures.value in let all = ap (λ x. x.frame) c.limits.ensures in omega arith)

pub returns-in-Ok-clause-ok : goal.returns-in-Ok-clause-ok
returns-in-Ok-clause-ok c m counts fits is wire config h st =
    let e = c.args.self.now.session in
    let live = c.requires.live wire config h st in
    let sized = has_size c.frame_is_of_image.ensures e.codec m c.args.frame is c.bytes.result.now c.unframed_size-size.result c.bytes.ensures c.unframed_size-size.ensures in
    let room = c.in-Ok.ensures.room in
    sends wire config c.args.self.now h st c.frame_is_of_image.ensures live.0 live.1 m c.args.frame is c.unframed_size-size.result sized
    (let small = c.if-size-frame.false in let value = c.frame-2.ensures.value in let all = ap (λ x. x.frame) c.limits.ensures in omega arith)
    c.message_image_is_as_deep.ensures c.image_is_its_image.ensures c.unread_stays.ensures counts fits room.0 room.1 c.push.new.self c.push.ensures.limits c.in-Ok.number c.in-Ok.ensures.ok

pub returns-in-Err-Full-clause-refused : goal.returns-in-Err-Full-clause-refused
returns-in-Err-Full-clause-refused c m is =
    let e = c.args.self.now.session in
    let sized = has_size c.frame_is_of_image.ensures e.codec m c.args.frame is c.bytes.result.now c.unframed_size-size.result c.bytes.ensures c.unframed_size-size.ensures in
    let fault = subst (IsPushFault e.ring (length c.args.frame)) c.in-Err-Full.field-0-is c.in-Err-Full.ensures.err.0 in (
      λ wire config h st. let live = c.requires.live wire config h st in
          full wire config c.args.self.now h st c.frame_is_of_image.ensures live.0 live.1 m c.args.frame is c.unframed_size-size.result sized
          (let small = c.if-size-frame.false in let value = c.frame-2.ensures.value in let all = ap (λ x. x.frame) c.limits.ensures in omega arith)
          c.in-Err-Full.held c.in-Err-Full.bytes c.in-Err-Full.size fault.0 fault.1 fault.2 fault.3,
      λ wire config h st. unchanged wire config c.args.self.now h st c.push.new.self c.in-Err-Full.ensures.err.1,
    )

pub returns-in-Err-Exhausted-clause-refused : goal.returns-in-Err-Exhausted-clause-refused
returns-in-Err-Exhausted-clause-refused c m is =
    let e = c.args.self.now.session in
    let sized = has_size c.frame_is_of_image.ensures e.codec m c.args.frame is c.bytes.result.now c.unframed_size-size.result c.bytes.ensures c.unframed_size-size.ensures in
    let fault = subst (IsPushFault e.ring (length c.args.frame)) c.in-Err-Exhausted.field-0-is c.in-Err-Exhausted.ensures.err.0 in (
      λ wire config h st. let live = c.requires.live wire config h st in
          exhausted wire config c.args.self.now h st c.frame_is_of_image.ensures live.0 live.1 m c.args.frame is c.unframed_size-size.result sized
          (let small = c.if-size-frame.false in let value = c.frame-2.ensures.value in let all = ap (λ x. x.frame) c.limits.ensures in omega arith)
          fault.0 fault.1,
      λ wire config h st. unchanged wire config c.args.self.now h st c.push.new.self c.in-Err-Exhausted.ensures.err.1,
    )
