use Rattle.std.proofs.Common.{length, ◌-◌}
use Rattle.sr_client.specs.Reading.{HasRead}
use Rattle.sr_client.proofs.script.parse.Given as goal

abbrev pub invariant-loop-reader : goal.invariant-loop-reader
invariant-loop-reader l = HasRead l.reader l.text

abbrev pub decreases-loop-reader : goal.decreases-loop-reader
decreases-loop-reader l = length l.text - l.reader.at
