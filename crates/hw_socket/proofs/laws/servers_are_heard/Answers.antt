use Rattle.hw_socket.specs.declared.vocabulary.SocketSide.TheVariants.{Server, Client}
use Rattle.hw_socket.proofs.Sessions.{heard, client_takes}
use Rattle.hw_socket.proofs.laws.servers_are_heard.Goals as goal

pub returns : goal.returns
returns c seed = heard Server (Client seed) (client_takes seed)
