use Rattle.he_wire.proofs.Short.{says_no_more}
use Rattle.he_wire.proofs.laws.says_no_more.Goals as goal

pub returns : goal.returns
returns c = says_no_more c.due_is_short.ensures c.answers_are_spelled.ensures c.texts_are_short.ensures c.wire_is_faithful.ensures c.wire_is_sound.ensures
