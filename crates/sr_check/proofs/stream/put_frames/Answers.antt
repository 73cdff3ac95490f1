use Rattle.std.proofs.Common.{◌≡◌, ◌++◌, List, ℕ, None, codes, ap, refl}
use Rattle.std.proofs.lemmas.Result.{err_from_is_err_and}
use Rattle.hf_split.specs.Cuts.{Spelled, always}
use Rattle.hm_codec.specs.declared.why.FrameWhy.TheVariants.{Split}
use Rattle.hm_codec.specs.Words.{why_words}
use Rattle.sr_check.specs.Output.{framing, IsWritten, last_text}
use Rattle.sr_check.specs.Going.{IsRefusal}
use Rattle.sr_check.proofs.Following.{desk_next, desk_ends, bad_frame, bad_rest, rests}
use Rattle.sr_check.proofs.stream.put_frames.Goals as goal

pub loop-at-preserved : goal.loop-at-preserved
loop-at-preserved c =
    let lent = rw c.in-Ok-Some.field-0-is at c.in-Ok-Some.ensures.lent in
    let item : Spelled = record { spelling = lent.1.0; frame = c.in-Ok-Some.frame.now } in
    let good = c.in_ok-put_frame-in-Ok-Some.ensures.good in
    let written : IsWritten c.args.task c.loop-at.splitter.place c.in-Ok-Some.frame.now good.0 = rw lent.0 at good.1 in
    desk_next c.args.task c.args.splitter.now c.loop-at.splitter c.pass.new.self c.args.output_buffer.now.text.items c.loop-at.output_buffer.text.items c.put_frame.new.output_buffer.text.items
    good.0 item c.loop-at.invariant written (c.pass.ensures.past item lent.1.1)
    (λ stream passed stands step. c.pass.ensures.stands (always (framing c.args.task)) stream passed item stands step lent.1.1)
    good.2

pub returns-in_err-put_frame-in-Ok-Some-clause-ended : goal.returns-in_err-put_frame-in-Ok-Some-clause-ended
returns-in_err-put_frame-in-Ok-Some-clause-ended c =
    let lent = rw c.in-Ok-Some.field-0-is at c.in-Ok-Some.ensures.lent in
    let item : Spelled = record { spelling = lent.1.0; frame = c.in-Ok-Some.frame.now } in
    let p = err_from_is_err_and c.from_residual.result c.from_residual.ensures.1 in
    rw (p.1, p.2) (desk_ends c.args.task c.args.splitter.now c.loop-at.splitter c.args.output_buffer.now.text.items c.loop-at.output_buffer.text.items c.put_frame.new.output_buffer.text.items
    (IsRefusal c.args.task c.loop-at.splitter.place c.in-Ok-Some.frame.now) c.in_err-put_frame-in-Ok-Some.field-0.0 c.loop-at.invariant
    (λ stream items front last at bad. bad_frame c.args.task c.loop-at.splitter stream items front last item at lent.1.1 bad)
    (rw lent.0 at c.in_err-put_frame-in-Ok-Some.ensures.ended))

pub returns-in-Ok-None-clause-resting : goal.returns-in-Ok-None-clause-resting
returns-in-Ok-None-clause-resting c =
    rests c.args.task c.loop-at.splitter (c.loop-at.invariant None).reader (rw c.in-Ok-None.field-0-is at c.in-Ok-None.ensures.waiting) (rw c.in-Ok-None.field-0-is at c.in-Ok-None.ensures.not_full)

pub returns-in-Ok-None-clause-so_far : goal.returns-in-Ok-None-clause-so_far
returns-in-Ok-None-clause-so_far c stream before now far = (c.loop-at.invariant now).goes stream before far

pub returns-in-Err-clause-ended : goal.returns-in-Err-clause-ended
returns-in-Err-clause-ended c =
    desk_ends c.args.task c.args.splitter.now c.loop-at.splitter c.args.output_buffer.now.text.items c.loop-at.output_buffer.text.items c.put_refusal.new.output_buffer.text.items
    (λ text. text ≡ last_text c.args.task c.loop-at.splitter.place (codes "refused " ++ why_words (Split c.in-Err.fault))) c.put_refusal.result c.loop-at.invariant
    (λ stream items front last at is. bad_rest c.faults_last.ensures c.args.task c.loop-at.splitter stream items front last c.in-Err.fault at c.in-Err.ensures.fault is)
    (rw c.place.ensures at c.put_refusal.ensures)
