use Rattle.hd_server.proofs.SocketAnswers.{sockets_by_life}
use Rattle.hd_server.proofs.laws.sockets_by_life.Goals as goal

pub returns : goal.returns
returns c = sockets_by_life
