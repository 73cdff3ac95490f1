use Rattle.sr_replay.proofs.Pairs.{both_tick}
use Rattle.sr_replay.proofs.pair.Pair.tick.Goals as goal

pub returns : goal.returns
returns c = both_tick c.runs_are_worlds.ensures c.wire_is_sound.ensures c.args.self.now c.tick.new.player c.tick-2.new.player c.args.now c.tick.new.told c.tick-2.new.told
    c.in_ok-tick.ensures.ticks c.in_ok-tick-2.ensures.ticks c.in_ok-tick.ensures.limits c.in_ok-tick-2.ensures.limits
