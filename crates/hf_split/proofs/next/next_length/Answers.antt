use Rattle.std.proofs.Common.{◌+◌, refl, arith}
use Rattle.hf_split.proofs.Finding.{length_too_long, waits_for_body, frame_after_length}
use Rattle.hf_split.proofs.next.next_length.Goals as goal

pub returns-then-number-most : goal.returns-then-number-most
returns-then-number-most c = length_too_long c.args.most c.in-Whole.size c.in-Whole.number c.args.bytes.now c.in-Whole.ensures c.if-number-most.true

pub returns-then-past-bytes : goal.returns-then-past-bytes
returns-then-past-bytes c =
    waits_for_body c.args.most c.in-Whole.size c.in-Whole.number c.args.bytes.now c.in-Whole.ensures c.if-number-most.false (omega arith)

pub returns : goal.returns
returns c =
    frame_after_length c.args.most c.in-Whole.size c.in-Whole.number (c.in-Whole.size + c.in-Whole.number) c.args.bytes.now c.in-Whole.ensures c.if-number-most.false refl (omega arith)
