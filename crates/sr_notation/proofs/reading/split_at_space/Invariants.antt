use Rattle.std.proofs.Common.{take}
use Rattle.sr_notation.specs.Words.{IsWord}
use Rattle.sr_notation.proofs.reading.split_at_space.Given as goal

abbrev pub invariant-loop-i : goal.invariant-loop-i
invariant-loop-i l = IsWord (take l.i l.bytes)
