use Rattle.hw_socket.specs.declared.vocabulary.SocketSide.TheVariants.{Server, Client}
use Rattle.hw_socket.proofs.Hearing.{heard_in_session}
use Rattle.hw_socket.proofs.Sessions.{client_takes, server_takes}
use Rattle.hw_socket.proofs.laws.sessions_are_heard.Goals as goal

pub returns : goal.returns
returns c seed = (heard_in_session (Client seed) Server (server_takes seed), heard_in_session Server (Client seed) (client_takes seed))
