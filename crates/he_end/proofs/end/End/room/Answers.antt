use Rattle.he_end.proofs.Ends.{room_is, is_room}
use Rattle.he_end.proofs.end.End.room.Goals as goal

pub returns : goal.returns
returns c wire config h st = (
  λ yes. room_is wire config c.args.self.now h st c.args.size (c.has_room.ensures.0 yes),
  λ has. c.has_room.ensures.1 (is_room wire config c.args.self.now h st c.args.size has),
)
