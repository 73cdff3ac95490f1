use Rattle.he_wire.proofs.Wires.{sound}
use Rattle.he_wire.proofs.laws.wire_is_sound.Goals as goal

pub returns : goal.returns
returns c =
    sound c.begins_once.ensures c.one_beginning.ensures c.one_meaning.ensures c.one_request_meaning.ensures c.one_response_meaning.ensures
    c.empty_waits.ensures c.waiting_has_room.ensures c.too_long_stays.ensures c.bad_length_stays.ensures
