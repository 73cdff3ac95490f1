use Rattle.hd_server.proofs.OneSession.{served}
use Rattle.hd_server.proofs.sessions.a_room_is_joined.Goals as goal

pub returns : goal.returns
returns c = served
