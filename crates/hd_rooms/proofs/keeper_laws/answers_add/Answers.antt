use Rattle.hd_rooms.proofs.Joins.{holds_what_was_added}
use Rattle.hd_rooms.proofs.keeper_laws.answers_add.Goals as goal

pub returns : goal.returns
returns c = holds_what_was_added
