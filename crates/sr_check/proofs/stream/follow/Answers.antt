use Rattle.std.proofs.Common.{◌≡◌, [], length, take, drop, Result, Ok, Err, ◌∙◌, arith, length-take, length-drop, refl, inl}
use Rattle.std.proofs.lemmas.Result.{on_ok_weaker, IfErr-weaker, err_from_is_err_and}
use Rattle.std.proofs.lemmas.List.{append-nil}
use Rattle.std.specs.Prelude.{codes}
use Rattle.sr_check.specs.declared.task.Stop.{Stop}
use Rattle.sr_check.specs.declared.task.Stop.TheVariants.{ReadFault, WriteFault}
use Rattle.sr_check.specs.Output.{last_text}
use Rattle.sr_check.proofs.Following.{touched_more}
use Rattle.sr_check.proofs.Inputs.{reading_first, reading_next, input_whole, input_ends, input_stops, input_past, input_fails, piece_parts, no_read_fault, read_further, read_no_more}
use Rattle.sr_check.proofs.stream.follow.Goals as goal

pub loop-splitter-init : goal.loop-splitter-init
loop-splitter-init g c = record {
  reading = reading_first c.args.task c.args.splitter.now (g.S.Source.left c.args.input.now) (g.K.Sink.holds c.args.out.now) c.requires;
  source = refl;
  sink = refl;
  touched = inl refl;
  empty = c.new-output_buffer.ensures;
}

pub returns-in-Ok-eq0-clause-done : goal.returns-in-Ok-eq0-clause-done
returns-in-Ok-eq0-clause-done g c =
    let none : length (take c.in-Ok-eq0.field-0 c.take.new.buf) ≡ 0 = omega (arith, length-take c.in-Ok-eq0.field-0 c.take.new.buf) in
    let ended = c.in-Ok-eq0.ensures.bytes.1 (omega arith) (omega arith) in
    on_ok_weaker c.write_rest.result
    (λ whole. input_whole c.args.task c.loop-splitter.splitter (g.S.Source.left c.args.input.now) (g.S.Source.left c.loop-splitter.input) (g.S.Source.left c.take.new.self) c.loop-splitter.left
    (g.K.Sink.holds c.args.out.now) (g.K.Sink.holds c.loop-splitter.out) (g.K.Sink.holds c.write_rest.new.out) (take c.in-Ok-eq0.field-0 c.take.new.buf)
    c.loop-splitter.invariant.reading c.in-Ok-eq0.ensures.bytes.0 none ended whole) c.write_rest.ensures.whole

pub returns-in-Ok-eq0-clause-ended : goal.returns-in-Ok-eq0-clause-ended
returns-in-Ok-eq0-clause-ended g c =
    let none : length (take c.in-Ok-eq0.field-0 c.take.new.buf) ≡ 0 = omega (arith, length-take c.in-Ok-eq0.field-0 c.take.new.buf) in
    let ended = c.in-Ok-eq0.ensures.bytes.1 (omega arith) (omega arith) in
    IfErr-weaker c.write_rest.result _ _
    (λ how ends _. input_ends c.args.task c.loop-splitter.splitter (g.S.Source.left c.args.input.now) (g.S.Source.left c.loop-splitter.input) (g.S.Source.left c.take.new.self) c.loop-splitter.left
    (g.K.Sink.holds c.args.out.now) (g.K.Sink.holds c.loop-splitter.out) (g.K.Sink.holds c.write_rest.new.out) (take c.in-Ok-eq0.field-0 c.take.new.buf) how
    c.loop-splitter.invariant.reading c.in-Ok-eq0.ensures.bytes.0 none ended ends) c.write_rest.ensures.ended

pub returns-in-Ok-eq0-clause-no_further : goal.returns-in-Ok-eq0-clause-no_further
returns-in-Ok-eq0-clause-no_further g c =
    read_further c.args.task c.loop-splitter.splitter (g.S.Source.left c.args.input.now) (g.S.Source.left c.loop-splitter.input) (g.S.Source.left c.take.new.self) c.loop-splitter.left
    (g.K.Sink.holds c.args.out.now) (g.K.Sink.holds c.loop-splitter.out) (take c.in-Ok-eq0.field-0 c.take.new.buf)
    c.loop-splitter.invariant.reading c.in-Ok-eq0.ensures.bytes.0 (omega (arith, length-take c.in-Ok-eq0.field-0 c.take.new.buf))

pub returns-in-Err-clause-no_further : goal.returns-in-Err-clause-no_further
returns-in-Err-clause-no_further g c =
    read_no_more c.args.task c.loop-splitter.splitter (g.S.Source.left c.args.input.now) (g.S.Source.left c.loop-splitter.input) (g.S.Source.left c.take.new.self) c.loop-splitter.left
    (g.K.Sink.holds c.args.out.now) (g.K.Sink.holds c.loop-splitter.out) c.loop-splitter.invariant.reading c.in-Err.ensures.bytes

pub returns-in_err-write_piece-clause-ended : goal.returns-in_err-write_piece-clause-ended
returns-in_err-write_piece-clause-ended g c =
    let p = err_from_is_err_and c.from_residual.result c.from_residual.ensures.1 in
    let parts = piece_parts c.loop-splitter.left c.in-Ok.count c.take.new.buf (omega arith) in
    rw (p.1, p.2) (λ _. input_stops c.faults_last.ensures c.args.task c.loop-splitter.splitter (g.S.Source.left c.args.input.now) (g.S.Source.left c.loop-splitter.input) (g.S.Source.left c.take.new.self) c.loop-splitter.left
    (g.K.Sink.holds c.args.out.now) (g.K.Sink.holds c.loop-splitter.out) (g.K.Sink.holds c.write_piece.new.out) (take c.loop-splitter.left c.take.new.buf) (drop c.loop-splitter.left (take c.in-Ok.count c.take.new.buf))
    c.in_err-write_piece.field-0.0 c.loop-splitter.invariant.reading (rw parts c.in-Ok.ensures.bytes.0) (omega (arith, length-take c.loop-splitter.left c.take.new.buf)) c.in_err-write_piece.ensures.ended)

ok_is_no_fault : (u : Unit {0}) → ◌≡◌ {A = Result (Unit {0}) Stop} (Ok u) (Err WriteFault) → ⊥
ok_is_no_fault u is = cc

how_is : (how : Stop) → ◌≡◌ {A = Result (Unit {0}) Stop} (Err how) (Err ReadFault) → how ≡ ReadFault
how_is how is = cc

pub returns-in_err-write_piece-clause-read_fault : goal.returns-in_err-write_piece-clause-read_fault
returns-in_err-write_piece-clause-read_fault g c =
    let p = err_from_is_err_and c.from_residual.result c.from_residual.ensures.1 in
    rw (p.1, p.2) (λ is. absurd (no_read_fault c.args.task c.loop-splitter.splitter (g.S.Source.left c.args.input.now) (g.S.Source.left c.loop-splitter.input) c.loop-splitter.left
    (g.K.Sink.holds c.args.out.now) (g.K.Sink.holds c.loop-splitter.out) (g.K.Sink.holds c.write_piece.new.out) (take c.loop-splitter.left c.take.new.buf)
    c.in_err-write_piece.field-0.0 c.loop-splitter.invariant.reading (omega (arith, length-take c.loop-splitter.left c.take.new.buf)) c.in_err-write_piece.ensures.ended
    (how_is c.in_err-write_piece.field-0.0 is)))

pub returns-in_err-write_piece-clause-no_further : goal.returns-in_err-write_piece-clause-no_further
returns-in_err-write_piece-clause-no_further g c =
    read_further c.args.task c.loop-splitter.splitter (g.S.Source.left c.args.input.now) (g.S.Source.left c.loop-splitter.input) (g.S.Source.left c.take.new.self) c.loop-splitter.left
    (g.K.Sink.holds c.args.out.now) (g.K.Sink.holds c.loop-splitter.out) (take c.in-Ok.count c.take.new.buf)
    c.loop-splitter.invariant.reading c.in-Ok.ensures.bytes.0 (omega (arith, length-take c.in-Ok.count c.take.new.buf, c.in-Ok.ensures.bound))

pub returns-then-count-left-clause-ended : goal.returns-then-count-left-clause-ended
returns-then-count-left-clause-ended g c =
    let parts = piece_parts c.loop-splitter.left c.in-Ok.count c.take.new.buf (omega arith) in
    let size = length-take c.loop-splitter.left c.take.new.buf in
    let last = rw c.place-at.ensures at c.write_last.ensures.last in
    λ _. input_past c.args.task c.loop-splitter.splitter c.write_piece.new.splitter (g.S.Source.left c.args.input.now) (g.S.Source.left c.loop-splitter.input) (g.S.Source.left c.take.new.self) c.loop-splitter.left
    (g.K.Sink.holds c.args.out.now) (g.K.Sink.holds c.loop-splitter.out) (g.K.Sink.holds c.write_piece.new.out) (g.K.Sink.holds c.write_last.new.out)
    (take c.loop-splitter.left c.take.new.buf) (drop c.loop-splitter.left (take c.in-Ok.count c.take.new.buf)) (last_text c.args.task c.write_piece.new.splitter.place (codes "limit")) c.write_last.result c.loop-splitter.invariant.reading
    (rw parts c.in-Ok.ensures.bytes.0) (omega (arith, size, c.in-Ok.ensures.bound))
    (omega (arith, length-drop c.loop-splitter.left (take c.in-Ok.count c.take.new.buf), length-take c.in-Ok.count c.take.new.buf, c.in-Ok.ensures.bound)) c.in_ok-write_piece.ensures.so_far c.in_ok-write_piece.ensures.resting refl last

pub returns-then-count-left-clause-no_further : goal.returns-then-count-left-clause-no_further
returns-then-count-left-clause-no_further g c =
    read_further c.args.task c.loop-splitter.splitter (g.S.Source.left c.args.input.now) (g.S.Source.left c.loop-splitter.input) (g.S.Source.left c.take.new.self) c.loop-splitter.left
    (g.K.Sink.holds c.args.out.now) (g.K.Sink.holds c.loop-splitter.out) (take c.in-Ok.count c.take.new.buf)
    c.loop-splitter.invariant.reading c.in-Ok.ensures.bytes.0 (omega (arith, length-take c.in-Ok.count c.take.new.buf, c.in-Ok.ensures.bound))

pub returns-in_err-write_piece-2-clause-ended : goal.returns-in_err-write_piece-2-clause-ended
returns-in_err-write_piece-2-clause-ended g c =
    let p = err_from_is_err_and c.from_residual-in_err-write_piece-2.result c.from_residual-in_err-write_piece-2.ensures.1 in
    rw (p.1, p.2) (λ _. input_stops c.faults_last.ensures c.args.task c.loop-splitter.splitter (g.S.Source.left c.args.input.now) (g.S.Source.left c.loop-splitter.input) (g.S.Source.left c.take.new.self) c.loop-splitter.left
    (g.K.Sink.holds c.args.out.now) (g.K.Sink.holds c.loop-splitter.out) (g.K.Sink.holds c.write_piece-in-loop-splitter.new.out) (take c.in-Ok.count c.take.new.buf) []
    c.in_err-write_piece-2.field-0.0 c.loop-splitter.invariant.reading (rw (append-nil (take c.in-Ok.count c.take.new.buf)) c.in-Ok.ensures.bytes.0)
    (omega (arith, length-take c.in-Ok.count c.take.new.buf)) c.in_err-write_piece-2.ensures.ended)

pub returns-in_err-write_piece-2-clause-read_fault : goal.returns-in_err-write_piece-2-clause-read_fault
returns-in_err-write_piece-2-clause-read_fault g c =
    let p = err_from_is_err_and c.from_residual-in_err-write_piece-2.result c.from_residual-in_err-write_piece-2.ensures.1 in
    rw (p.1, p.2) (λ is. absurd (no_read_fault c.args.task c.loop-splitter.splitter (g.S.Source.left c.args.input.now) (g.S.Source.left c.loop-splitter.input) c.loop-splitter.left
    (g.K.Sink.holds c.args.out.now) (g.K.Sink.holds c.loop-splitter.out) (g.K.Sink.holds c.write_piece-in-loop-splitter.new.out) (take c.in-Ok.count c.take.new.buf)
    c.in_err-write_piece-2.field-0.0 c.loop-splitter.invariant.reading (omega (arith, length-take c.in-Ok.count c.take.new.buf)) c.in_err-write_piece-2.ensures.ended
    (how_is c.in_err-write_piece-2.field-0.0 is)))

pub returns-in_err-write_piece-2-clause-no_further : goal.returns-in_err-write_piece-2-clause-no_further
returns-in_err-write_piece-2-clause-no_further g c =
    read_further c.args.task c.loop-splitter.splitter (g.S.Source.left c.args.input.now) (g.S.Source.left c.loop-splitter.input) (g.S.Source.left c.take.new.self) c.loop-splitter.left
    (g.K.Sink.holds c.args.out.now) (g.K.Sink.holds c.loop-splitter.out) (take c.in-Ok.count c.take.new.buf)
    c.loop-splitter.invariant.reading c.in-Ok.ensures.bytes.0 (omega (arith, length-take c.in-Ok.count c.take.new.buf, c.in-Ok.ensures.bound))

pub returns-in-Ok-eq0-clause-touched : goal.returns-in-Ok-eq0-clause-touched
returns-in-Ok-eq0-clause-touched g c = λ differ.
    touched_more g.K.Sink.holds c.args.out.now c.loop-splitter.out c.write_rest.new.out c.loop-splitter.invariant.touched (c.write_rest.ensures.touched differ)

pub returns-in_err-write_piece-clause-touched : goal.returns-in_err-write_piece-clause-touched
returns-in_err-write_piece-clause-touched g c =
    let p = err_from_is_err_and c.from_residual.result c.from_residual.ensures.1 in
    rw (p.1, p.2) (λ differ. touched_more g.K.Sink.holds c.args.out.now c.loop-splitter.out c.write_piece.new.out c.loop-splitter.invariant.touched
    (c.in_err-write_piece.ensures.touched (λ is. differ cc)))

pub returns-then-count-left-clause-touched : goal.returns-then-count-left-clause-touched
returns-then-count-left-clause-touched g c = λ differ.
    touched_more g.K.Sink.holds c.args.out.now c.loop-splitter.out c.write_last.new.out c.loop-splitter.invariant.touched
    (touched_more g.K.Sink.holds c.loop-splitter.out c.write_piece.new.out c.write_last.new.out
    (c.in_ok-write_piece.ensures.touched (λ is. absurd (ok_is_no_fault c.in_ok-write_piece.field-0 is)))
    (c.write_last.ensures.touched (λ is. differ cc)))

pub returns-in_err-write_piece-2-clause-touched : goal.returns-in_err-write_piece-2-clause-touched
returns-in_err-write_piece-2-clause-touched g c =
    let p = err_from_is_err_and c.from_residual-in_err-write_piece-2.result c.from_residual-in_err-write_piece-2.ensures.1 in
    rw (p.1, p.2) (λ differ. touched_more g.K.Sink.holds c.args.out.now c.loop-splitter.out c.write_piece-in-loop-splitter.new.out c.loop-splitter.invariant.touched
    (c.in_err-write_piece-2.ensures.touched (λ is. differ cc)))

pub loop-splitter-preserved : goal.loop-splitter-preserved
loop-splitter-preserved g c = record {
  reading = reading_next c.args.task c.loop-splitter.splitter c.write_piece-in-loop-splitter.new.splitter (g.S.Source.left c.args.input.now) (g.S.Source.left c.loop-splitter.input) (g.S.Source.left c.take.new.self)
      c.loop-splitter.left c.in-Ok.count (g.K.Sink.holds c.args.out.now) (g.K.Sink.holds c.loop-splitter.out) (g.K.Sink.holds c.write_piece-in-loop-splitter.new.out) (take c.in-Ok.count c.take.new.buf)
      c.loop-splitter.invariant.reading (omega (arith, length-take c.in-Ok.count c.take.new.buf, c.in-Ok.ensures.bound)) (omega arith) c.in-Ok.ensures.bytes.0 c.in_ok-write_piece-2.ensures.resting c.in_ok-write_piece-2.ensures.so_far;
  source = c.in-Ok.ensures.cause.unfailed ∙ c.loop-splitter.invariant.source;
  sink = c.in_ok-write_piece-2.ensures.unfailed (λ is. absurd (ok_is_no_fault c.in_ok-write_piece-2.field-0 is)) ∙ c.loop-splitter.invariant.sink;
  touched = touched_more g.K.Sink.holds c.args.out.now c.loop-splitter.out c.write_piece-in-loop-splitter.new.out c.loop-splitter.invariant.touched
      (c.in_ok-write_piece-2.ensures.touched (λ is. absurd (ok_is_no_fault c.in_ok-write_piece-2.field-0 is)));
  empty = c.write_piece-in-loop-splitter.ensures.empty;
}
