use Rattle.sr_replay.proofs.Worlds.{is_world}
use Rattle.sr_replay.proofs.laws.runs_are_worlds.Goals as goal

pub returns : goal.returns
returns c limits wire t actions r sound = is_world c.worlds_are_histories.ensures c.frames_are_taken.ensures c.fed_is_lent.ensures c.unread_grows.ensures c.unread_is_bounded.ensures limits wire t sound actions r
