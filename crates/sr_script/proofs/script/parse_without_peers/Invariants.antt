use Rattle.std.proofs.Common.{length, ◌-◌}
use Rattle.sr_script.specs.Script.{Program}
use Rattle.sr_script.specs.Reading.{HasReadWithoutPeers}
use Rattle.sr_script.proofs.script.parse_without_peers.Given as goal

abbrev pub invariant-loop-reader : goal.invariant-loop-reader
invariant-loop-reader l = (p : Program) × HasReadWithoutPeers l.reader l.text p

abbrev pub decreases-loop-reader : goal.decreases-loop-reader
decreases-loop-reader l = length l.text - l.reader.at
