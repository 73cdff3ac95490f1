use Rattle.std.proofs.Common.{refl}
use Rattle.std.proofs.lemmas.Result.{on_ok_weaker}
use Rattle.sr_peers.proofs.Seats.{the_client, the_server}
use Rattle.sr_peers.proofs.Acting.{closes}
use Rattle.sr_peers.proofs.peers.Peers.close.Goals as goal

pub returns-in-Client : goal.returns-in-Client
returns-in-Client c =
    rw c.in-Client.is
    (on_ok_weaker c.close.result
    (closes _ the_client c.what_is_lent_goes_on.ensures c.args.self.now (record (c.args.self.now) { client = c.close.new.self }) refl refl c.args.report.now.items
    c.close.new.report.items refl)
    c.close.ensures)

pub returns-in-Server : goal.returns-in-Server
returns-in-Server c =
    rw c.in-Server.is
    (on_ok_weaker c.close-in-Server.result
    (closes _ the_server c.what_is_lent_goes_on.ensures c.args.self.now (record (c.args.self.now) { server = c.close-in-Server.new.self }) refl refl c.args.report.now.items
    c.close-in-Server.new.report.items refl)
    c.close-in-Server.ensures)
