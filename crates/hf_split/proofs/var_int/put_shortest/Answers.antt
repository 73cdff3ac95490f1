use Rattle.std.proofs.Common.{◌++◌, ◌/◌, ap, sym, ◌∙◌, arith}
use Rattle.hf_split.specs.VarInts.{shortest, shortest_in}
use Rattle.hf_split.proofs.Digits.{shortest_is, written_more}
use Rattle.hf_split.proofs.var_int.put_shortest.Goals as goal

pub loop-rest-init : goal.loop-rest-init
loop-rest-init c = record {
  room = 4;
  below = omega arith;
  written = ap (λ xs. c.args.out.now.items ++ xs) (sym (shortest_is c.args.number));
  len = omega arith;
  capacity = omega arith;
}

pub loop-rest-preserved : goal.loop-rest-preserved
loop-rest-preserved c =
    let more = written_more c.loop-rest.invariant.room c.loop-rest.rest c.loop-rest.out.items (c.args.out.now.items ++ shortest c.args.number) c.loop-rest-test.true
    c.loop-rest.invariant.below c.loop-rest.invariant.written in
    let len = rw c.unwrap.ensures at c.push.ensures.len in
    record {
      room = more.0;
      below = more.2;
      written = ap (λ xs. xs ++ shortest_in more.0 (c.loop-rest.rest / 128)) (rw c.unwrap.ensures at c.push.ensures.items) ∙ more.3;
      len = omega (arith, more.1, c.loop-rest.invariant.len);
      capacity = omega (arith, c.loop-rest.invariant.capacity);
    }
