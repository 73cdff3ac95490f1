use Rattle.hd_client.proofs.Sides.{clients_are_sides}
use Rattle.hd_client.proofs.laws.clients_are_sides.Goals as goal

pub returns : goal.returns
returns g c = clients_are_sides c.delivery_over_bytes.ensures
