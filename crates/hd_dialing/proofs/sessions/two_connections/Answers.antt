use Rattle.hd_dialing.proofs.TwoConnections.{two_are_dialed}
use Rattle.hd_dialing.proofs.sessions.two_connections.Goals as goal

pub returns-clause-are_dialed : goal.returns-clause-are_dialed
returns-clause-are_dialed c = two_are_dialed
