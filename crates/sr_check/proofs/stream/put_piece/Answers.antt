use Rattle.std.proofs.Common.{length, drop, None, arith, length-drop}
use Rattle.std.proofs.lemmas.Result.{err_from_is_err_and}
use Rattle.std.proofs.lemmas.List.{take_rest}
use Rattle.hf_split.specs.Cuts.{always}
use Rattle.sr_check.specs.Output.{framing}
use Rattle.sr_check.specs.Going.{IsReader, with_output_buffer}
use Rattle.sr_check.proofs.Pieces.{piecewise_first, piecewise_next, piecewise_all, piecewise_ends, resting_feeds, fed_reader}
use Rattle.sr_check.proofs.stream.put_piece.Goals as goal

pub loop-at-init : goal.loop-at-init
loop-at-init c now = piecewise_first c.args.task c.args.splitter.now c.args.piece.now (with_output_buffer now c.args.output_buffer.now.text.items) c.requires

pub put_frames-requires : goal.put_frames-requires
put_frames-requires c = fed_reader c.args.task c.loop-at.splitter c.feed-at.new.self _ (c.loop-at.invariant None).resting.reader c.feed-at.ensures.fed

pub loop-at-smaller : goal.loop-at-smaller
loop-at-smaller c =
    let size = length-drop c.loop-at.at c.args.piece.now in
    let some = resting_feeds c.args.task c.loop-at.splitter c.feed-at.result (length (drop c.loop-at.at c.args.piece.now)) (c.loop-at.invariant None).resting (omega arith) (rw take_rest at c.feed-at.ensures.count) in
    omega (arith, some, rw take_rest at c.feed-at.ensures.within, size)

pub loop-at-preserved : goal.loop-at-preserved
loop-at-preserved c now =
    let size = length-drop c.loop-at.at c.args.piece.now in
    let reader : IsReader c.args.task c.feed-at.new.self = fed_reader c.args.task c.loop-at.splitter c.feed-at.new.self _ (c.loop-at.invariant None).resting.reader c.feed-at.ensures.fed in
    piecewise_next c.args.task c.args.splitter.now c.loop-at.splitter c.feed-at.new.self c.put_frames.new.splitter c.args.piece.now c.loop-at.at c.feed-at.result
    (with_output_buffer now c.args.output_buffer.now.text.items) (with_output_buffer now c.loop-at.output_buffer.text.items) (with_output_buffer now c.put_frames.new.output_buffer.text.items) (c.loop-at.invariant now) reader
    (omega (arith, rw take_rest at c.feed-at.ensures.within, size)) (rw take_rest at (c.feed-at.ensures.stands (always (framing c.args.task)))) c.in_ok-put_frames.ensures.resting
    (λ stream before. c.in_ok-put_frames.ensures.so_far stream before now)

pub returns-in_err-put_frames-clause-ended : goal.returns-in_err-put_frames-clause-ended
returns-in_err-put_frames-clause-ended c =
    let size = length-drop c.loop-at.at c.args.piece.now in
    let reader : IsReader c.args.task c.feed-at.new.self = fed_reader c.args.task c.loop-at.splitter c.feed-at.new.self _ (c.loop-at.invariant None).resting.reader c.feed-at.ensures.fed in
    let p = err_from_is_err_and c.from_residual.result c.from_residual.ensures.1 in
    rw (p.1, p.2) (λ stream before now. piecewise_ends c.faults_last.ensures c.args.task c.args.splitter.now c.loop-at.splitter c.feed-at.new.self c.args.piece.now c.loop-at.at c.feed-at.result
    (with_output_buffer now c.args.output_buffer.now.text.items) (with_output_buffer now c.loop-at.output_buffer.text.items) (with_output_buffer now c.put_frames.new.output_buffer.text.items) c.in_err-put_frames.field-0.0 (c.loop-at.invariant now) reader
    (omega (arith, rw take_rest at c.feed-at.ensures.within, size)) (rw take_rest at (c.feed-at.ensures.stands (always (framing c.args.task))))
    (λ stream before. c.in_err-put_frames.ensures.ended stream before now) stream before)

pub returns-clause-resting : goal.returns-clause-resting
returns-clause-resting c = (c.loop-at.invariant None).resting

pub returns-clause-so_far : goal.returns-clause-so_far
returns-clause-so_far c stream before now =
    piecewise_all c.args.task c.args.splitter.now c.loop-at.splitter c.args.piece.now c.loop-at.at (with_output_buffer now c.args.output_buffer.now.text.items) (with_output_buffer now c.loop-at.output_buffer.text.items)
    (c.loop-at.invariant now) (omega arith) stream before
