use Rattle.std.proofs.Common.{arith}
use Rattle.std.proofs.lemmas.List.{take_rest}
use Rattle.hf_split.proofs.Places.{mark_past_front, plain_past_front}
use Rattle.hf_split.proofs.mark.first_mark.Goals as goal

pub returns : goal.returns
returns c =
    mark_past_front c.min-near.result c.args.bytes.now c.in_ok-place.place (omega arith) c.in_default.ensures (rw take_rest at c.in_ok-place.ensures)

pub returns-in_err-place : goal.returns-in_err-place
returns-in_err-place c =
    rw c.from_residual.ensures (plain_past_front c.min-near.result c.args.bytes.now c.in_default.ensures (rw take_rest at c.in_err-place.ensures))
