use Rattle.hd_client.proofs.Dialed.{clients_are_dialed}
use Rattle.hd_client.proofs.laws.clients_are_dialed.Goals as goal

pub returns : goal.returns
returns g c = clients_are_dialed
