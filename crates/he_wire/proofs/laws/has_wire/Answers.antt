use Rattle.he_wire.proofs.Wires.{has}
use Rattle.he_wire.proofs.laws.has_wire.Goals as goal

pub returns : goal.returns
returns c = has c.begins_once.ensures c.one_beginning.ensures c.one_meaning.ensures c.one_request_meaning.ensures c.one_response_meaning.ensures
