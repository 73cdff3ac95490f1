use Rattle.std.proofs.Common.{refl}
use Rattle.hw_socket.specs.Lane.{fresh_lane}
use Rattle.hw_socket.proofs.Writing.{wrote}
use Rattle.hw_socket.proofs.laws.lanes_write_frames.Goals as goal

pub returns : goal.returns
returns c side calls next session = wrote (fresh_lane side) next calls refl refl session
