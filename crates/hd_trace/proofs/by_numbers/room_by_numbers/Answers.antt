use Rattle.hd_trace.proofs.Ending.{room}
use Rattle.hd_trace.proofs.by_numbers.room_by_numbers.Goals as goal

pub returns : goal.returns
returns c = room
