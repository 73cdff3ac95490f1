use Rattle.std.proofs.Common.{◌≡◌, ◌-◌, List, [], length}
use Rattle.sr_notation.specs.declared.setting.Setting.{Setting}
use Rattle.sr_script.specs.Reading.{HasRead}
use Rattle.sr_notation.specs.Terms.{peers_in}
use Rattle.sr_replay.proofs.replaying.has_peers.Given as goal

abbrev pub invariant-loop-reader : goal.invariant-loop-reader
invariant-loop-reader l = (settings : List Setting) × (HasRead l.reader l.script (record { settings = settings; actions = [] }) × (l.has ≡ peers_in settings))

abbrev pub decreases-loop-reader : goal.decreases-loop-reader
decreases-loop-reader l = length l.script - l.reader.at
