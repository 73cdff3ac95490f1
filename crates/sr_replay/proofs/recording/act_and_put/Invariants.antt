use Rattle.std.proofs.Common.{◌≡◌, ◌-◌, length}
use Rattle.sr_script.specs.Script.{Program}
use Rattle.sr_script.specs.Reading.{HasRead}
use Rattle.sr_replay.specs.Replays.{HasSettings}
use Rattle.sr_replay.proofs.Recorded.{PutsFirst}
use Rattle.sr_replay.proofs.recording.act_and_put.Given as goal

abbrev pub invariant-loop-reader : goal.invariant-loop-reader
invariant-loop-reader g l = record {
  read : (p : Program) × (HasRead l.reader l.script p × HasSettings l.script p × PutsFirst l.fn.pair p.actions l.pair (g.K.Sink.holds l.fn.out) (g.K.Sink.holds l.out));
  unfailed : g.K.Sink.faults l.out ≡ g.K.Sink.faults l.fn.out;
}

abbrev pub decreases-loop-reader : goal.decreases-loop-reader
decreases-loop-reader g l = length l.script - l.reader.at
