use Rattle.hd_server.proofs.Orderly.{servers_note_in_order}
use Rattle.hd_server.proofs.laws.servers_note_in_order.Goals as goal

pub returns : goal.returns
returns g c = servers_note_in_order
