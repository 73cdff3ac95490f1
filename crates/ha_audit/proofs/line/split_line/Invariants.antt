use Rattle.std.proofs.Common.{take}
use Rattle.ha_audit.specs.Grammar.{IsOneLine}
use Rattle.ha_audit.proofs.line.split_line.Given as goal

abbrev pub invariant-loop-i : goal.invariant-loop-i
invariant-loop-i l = IsOneLine (take l.i l.bytes)
