use Rattle.he_wire.proofs.Wires.{read_so}
use Rattle.he_wire.proofs.laws.bytes_are_read.Goals as goal

pub returns : goal.returns
returns c = read_so c.reads_once.ensures
