use Rattle.hw_socket.proofs.Endings.{ends_once}
use Rattle.hw_socket.proofs.laws.lanes_end_once.Goals as goal

pub returns : goal.returns
returns c lane next why calls gone session = ends_once lane next why calls gone session
