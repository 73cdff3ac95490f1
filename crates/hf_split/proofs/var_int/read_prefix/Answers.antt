use Rattle.std.proofs.Common.{◌≡◌, ◌+◌, ◌*◌, ◌<◌, ◌≤◌, length, get_or, ap, ◌∙◌, arith}
use Rattle.hf_split.proofs.Digits.{whole_at, more_at, digits_more, weight_more, digit_below}
use Rattle.hf_split.proofs.var_int.read_prefix.Goals as goal

pub returns-then-byte-lt128 : goal.returns-then-byte-lt128
returns-then-byte-lt128 c =
    let inside : c.loop-size.size < length c.args.bytes.now = c.in-Some.ensures.lookup.3.0 in
    let is : c.in-Some.byte.now ≡ get_or c.args.bytes.now c.loop-size.size 0 = c.in-Some.ensures.lookup.3.1 0 in
    rw c.from.ensures (whole_at c.loop-size.size c.loop-size.number c.loop-size.weight c.in-Some.byte.now c.args.bytes.now c.loop-size-test.true inside is
    c.loop-size.invariant.number c.loop-size.invariant.weight c.loop-size.invariant.more c.if-byte-lt128.true)

pub loop-size-preserved : goal.loop-size-preserved
loop-size-preserved c =
    let inside : c.loop-size.size < length c.args.bytes.now = c.in-Some.ensures.lookup.3.0 in
    let is : c.in-Some.byte.now ≡ get_or c.args.bytes.now c.loop-size.size 0 = c.in-Some.ensures.lookup.3.1 0 in
    let digit : c.from.result < 128 = omega (arith, c.from.ensures) in
    let most : c.from.result * c.loop-size.weight ≤ 127 * c.loop-size.weight = digit_below c.from.result c.loop-size.weight digit in
    record {
      inside = omega arith;
      more = more_at c.loop-size.size c.in-Some.byte.now c.args.bytes.now inside is c.loop-size.invariant.more c.if-byte-lt128.false;
      number = ap (λ d. c.loop-size.number + d * c.loop-size.weight) c.from.ensures
          ∙ digits_more c.loop-size.size c.loop-size.number c.loop-size.weight c.in-Some.byte.now c.args.bytes.now inside is c.loop-size.invariant.number c.loop-size.invariant.weight;
      weight = weight_more c.loop-size.size c.loop-size.weight c.loop-size.invariant.weight;
      below = omega (arith, c.loop-size.invariant.below);
    }
