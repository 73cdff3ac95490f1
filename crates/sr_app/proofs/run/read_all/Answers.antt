use Rattle.std.proofs.Common.{◌++◌, take, arith, length-append, length-take}
use Rattle.sr_app.proofs.Told.{consumed_in_turn}
use Rattle.sr_app.proofs.run.read_all.Goals as goal

pub returns-then-is_err-clause-bounded : goal.returns-then-is_err-clause-bounded
returns-then-is_err-clause-bounded g c = (
  c.loop-piece.text.items ++ take c.in-Ok.count c.take.new.buf,
  consumed_in_turn (g.S.Source.left c.args.input.now) (g.S.Source.left c.loop-piece.input) (g.S.Source.left c.take.new.self) c.loop-piece.text.items (take c.in-Ok.count c.take.new.buf)
      c.loop-piece.invariant.read c.in-Ok.ensures.bytes.0,
  omega (arith, length-append c.loop-piece.text.items (take c.in-Ok.count c.take.new.buf), length-take c.in-Ok.count c.take.new.buf, c.in-Ok.ensures.bound, c.loop-piece.text.ok.0),
)
