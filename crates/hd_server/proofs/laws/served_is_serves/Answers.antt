use Rattle.hd_server.proofs.Served.{served_is_serves}
use Rattle.hd_server.proofs.laws.served_is_serves.Goals as goal

pub returns : goal.returns
returns g c = served_is_serves
