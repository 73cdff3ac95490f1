use Rattle.std.proofs.Common.{arith}
use Rattle.hv_value.proofs.Places.{sorted_from_adjacent}
use Rattle.hv_value.proofs.value.merge.are_in_order.Goals as goal

pub returns : goal.returns
returns c = λ _. sorted_from_adjacent c.args.pairs.now c.loop-i.i (omega arith) c.loop-i.invariant
