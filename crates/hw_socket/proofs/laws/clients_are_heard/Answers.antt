use Rattle.hw_socket.specs.declared.vocabulary.SocketSide.TheVariants.{Server, Client}
use Rattle.hw_socket.proofs.Sessions.{heard, server_takes}
use Rattle.hw_socket.proofs.laws.clients_are_heard.Goals as goal

pub returns : goal.returns
returns c seed = heard (Client seed) Server (server_takes seed)
