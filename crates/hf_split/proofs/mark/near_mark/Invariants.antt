use Rattle.std.proofs.Common.{take}
use Rattle.hf_split.specs.Cuts.{IsPlain}
use Rattle.hf_split.proofs.mark.near_mark.Given as goal

abbrev pub invariant-loop-i : goal.invariant-loop-i
invariant-loop-i l = IsPlain (take l.i l.bytes)
