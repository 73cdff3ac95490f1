use Rattle.std.proofs.Common.{take}
use Rattle.sr_script.specs.Reading.{IsOneLine}
use Rattle.sr_script.proofs.script.line_end.Given as goal

abbrev pub invariant-loop-i : goal.invariant-loop-i
invariant-loop-i l = IsOneLine (take l.i l.text)
