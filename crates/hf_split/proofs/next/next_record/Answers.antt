use Rattle.std.proofs.Common.{◌≡◌, ◌+◌, length, min, arith}
use Rattle.hf_split.proofs.Places.{marked_frame, mark_within, plain_within, plain_waits}
use Rattle.hf_split.proofs.next.next_record.Goals as goal

pub returns-in-Some : goal.returns-in-Some
returns-in-Some c =
    let limit : c.min-limit.result ≡ min (length c.args.bytes.now) (c.args.most + 1) = omega arith in
    let seen : c.min-seen.result ≡ min c.args.plain (min (length c.args.bytes.now) (c.args.most + 1)) = omega arith in
    marked_frame c.args.most c.args.bytes.now (c.min-seen.result + c.in-Some.mark)
    (mark_within c.args.most c.args.plain c.min-seen.result c.args.bytes.now c.in-Some.mark seen c.requires.plain (rw (← limit) c.in-Some.ensures))

pub returns-in-None : goal.returns-in-None
returns-in-None c =
    let limit : c.min-limit.result ≡ min (length c.args.bytes.now) (c.args.most + 1) = omega arith in
    let seen : c.min-seen.result ≡ min c.args.plain (min (length c.args.bytes.now) (c.args.most + 1)) = omega arith in
    (omega arith, plain_within c.args.most c.args.plain c.min-seen.result c.args.bytes.now seen c.requires.plain (rw (← limit) c.in-None.ensures))

pub returns-in-None-2 : goal.returns-in-None-2
returns-in-None-2 c =
    let limit : c.min-limit.result ≡ min (length c.args.bytes.now) (c.args.most + 1) = omega arith in
    let seen : c.min-seen.result ≡ min c.args.plain (min (length c.args.bytes.now) (c.args.most + 1)) = omega arith in
    plain_waits c.args.most c.args.bytes.now
    (plain_within c.args.most c.args.plain c.min-seen.result c.args.bytes.now seen c.requires.plain (rw (← limit) c.in-None-2.ensures)) (omega arith)
