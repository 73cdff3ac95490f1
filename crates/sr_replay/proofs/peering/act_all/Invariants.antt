use Rattle.std.proofs.Common.{◌-◌, length}
use Rattle.sr_script.specs.Script.{Program}
use Rattle.sr_script.specs.Reading.{HasRead}
use Rattle.sr_replay.specs.Replays.{HasSettings}
use Rattle.sr_replay.specs.WithPeers.{PeersActAll}
use Rattle.sr_replay.proofs.peering.act_all.Given as goal

abbrev pub invariant-loop-reader : goal.invariant-loop-reader
invariant-loop-reader l = (p : Program) × (HasRead l.reader l.script p × HasSettings l.script p × PeersActAll l.fn.peers p.actions l.peers l.fn.report.items l.report.items)

abbrev pub decreases-loop-reader : goal.decreases-loop-reader
decreases-loop-reader l = length l.script - l.reader.at
