use Rattle.std.proofs.Common.{◌-◌, [], length}
use Rattle.sr_script.specs.Script.{Program}
use Rattle.sr_script.specs.Reading.{HasRead}
use Rattle.sr_replay.specs.Replays.{ActsAll, HasSettings}
use Rattle.sr_replay.proofs.replaying.act_all.Given as goal

abbrev pub invariant-loop-reader : goal.invariant-loop-reader
invariant-loop-reader l = (p : Program) × (HasRead l.reader l.script p × HasSettings l.script p × ActsAll l.fn.pair p.actions [] l.pair)

abbrev pub decreases-loop-reader : goal.decreases-loop-reader
decreases-loop-reader l = length l.script - l.reader.at
