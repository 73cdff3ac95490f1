use Rattle.std.proofs.Common.{◌≤◌, ◌-◌, length}
use Rattle.sr_script.specs.Script.{Program}
use Rattle.sr_script.specs.Reading.{HasRead}
use Rattle.sr_script.proofs.script.Reader.next.Given as goal

abbrev pub invariant-loop-self : goal.invariant-loop-self
invariant-loop-self l = record {
  same : (p : Program) → HasRead l.fn.self l.text p → HasRead l.self l.text p;
  forth : l.fn.self.at ≤ l.self.at;
}

abbrev pub decreases-loop-self : goal.decreases-loop-self
decreases-loop-self l = length l.text - l.self.at
