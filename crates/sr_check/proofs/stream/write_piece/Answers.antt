use Rattle.std.proofs.Common.{◌++◌, sym, subst, Option, List, ℕ}
use Rattle.std.proofs.lemmas.Result.{err_from_is_err_and, on_ok_weaker, IfErr-weaker}
use Rattle.sr_check.specs.Going.{IsSoFar, with_output_buffer}
use Rattle.sr_check.proofs.Following.{desk_empty, so_far_put, ends_put, ends_part}
use Rattle.sr_check.proofs.stream.write_piece.Goals as goal

pub returns-clause-so_far : goal.returns-clause-so_far
returns-clause-so_far g c stream before short far =
    let here : IsSoFar c.args.task c.args.splitter.now stream before (with_output_buffer (g.K.Sink.holds c.args.out.now) c.args.output_buffer.now.text.items) =
    subst (λ (now : Option (List ℕ)). IsSoFar c.args.task c.args.splitter.now stream before now) (sym (desk_empty (g.K.Sink.holds c.args.out.now) c.args.output_buffer.now.text.items c.requires.empty)) far in
    on_ok_weaker c.put_piece-end.result
    (so_far_put c.args.task c.put_piece-end.new.splitter (stream ++ c.args.piece.now) before (g.K.Sink.holds c.args.out.now) (g.K.Sink.holds c.put.new.out) c.put_piece-end.new.output_buffer.text.items c.in_ok-put.ensures.ok)
    (c.put_piece-end.ensures.so_far stream before (g.K.Sink.holds c.args.out.now) short here)

pub returns-clause-ended : goal.returns-clause-ended
returns-clause-ended g c =
    IfErr-weaker c.put_piece-end.result _ _
    (λ how ends stream before short far. ends_put c.args.task how (stream ++ c.args.piece.now) before (g.K.Sink.holds c.args.out.now) (g.K.Sink.holds c.put.new.out) c.put_piece-end.new.output_buffer.text.items c.in_ok-put.ensures.ok
    (ends stream before (g.K.Sink.holds c.args.out.now) short
    (subst (λ (now : Option (List ℕ)). IsSoFar c.args.task c.args.splitter.now stream before now) (sym (desk_empty (g.K.Sink.holds c.args.out.now) c.args.output_buffer.now.text.items c.requires.empty)) far)))
    c.put_piece-end.ensures.ended

pub returns-in_err-put-clause-ended : goal.returns-in_err-put-clause-ended
returns-in_err-put-clause-ended g c =
    let p = err_from_is_err_and c.from_residual.result c.from_residual.ensures.1 in
    let put = c.in_err-put.ensures.err in
    rw (p.1, p.2) (λ stream before short far.
    (let here : IsSoFar c.args.task c.args.splitter.now stream before (with_output_buffer (g.K.Sink.holds c.args.out.now) c.args.output_buffer.now.text.items) =
    subst (λ (now : Option (List ℕ)). IsSoFar c.args.task c.args.splitter.now stream before now) (sym (desk_empty (g.K.Sink.holds c.args.out.now) c.args.output_buffer.now.text.items c.requires.empty)) far in
    ends_part c.args.task c.put_piece-end.result c.in_err-put.field-0.0 c.put_piece-end.new.splitter (stream ++ c.args.piece.now) far.text before (g.K.Sink.holds c.args.out.now) (g.K.Sink.holds c.put.new.out)
    c.put_piece-end.new.output_buffer.text.items put.0 c.in_err-put.ensures.fault c.put_piece-end.ensures.no_fault
    (c.put_piece-end.ensures.so_far stream before (g.K.Sink.holds c.args.out.now) short here)
    (IfErr-weaker c.put_piece-end.result _ _ (λ how ends. ends stream before (g.K.Sink.holds c.args.out.now) short here) c.put_piece-end.ensures.ended)
    far.wrote put.1))
