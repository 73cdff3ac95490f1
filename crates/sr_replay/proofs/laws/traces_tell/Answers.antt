use Rattle.sr_replay.proofs.Tellable.{traces_tell}
use Rattle.sr_replay.proofs.laws.traces_tell.Goals as goal

pub returns : goal.returns
returns c script p text parses is wire house =
    traces_tell c.frames_are_taken.ensures c.lines_tell_one_world.ensures c.records_tell.ensures p text wire (c.scripts_are_in_turn.ensures script p parses) (is wire house)
