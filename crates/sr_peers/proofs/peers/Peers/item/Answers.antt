use Rattle.std.proofs.Common.{refl}
use Rattle.std.proofs.lemmas.Result.{on_ok_weaker}
use Rattle.sr_peers.proofs.Seats.{the_client, the_server}
use Rattle.sr_peers.proofs.Acting.{items}
use Rattle.sr_peers.proofs.peers.Peers.item.Goals as goal

pub returns-in-Client : goal.returns-in-Client
returns-in-Client c =
    rw c.in-Client.is
    (on_ok_weaker c.item.result
    (items _ the_client c.what_is_lent_goes_on.ensures c.args.self.now (record (c.args.self.now) { client = c.item.new.self }) refl refl c.args.report.now.items
    c.item.new.report.items c.args.call c.args.value refl)
    c.item.ensures)

pub returns-in-Server : goal.returns-in-Server
returns-in-Server c =
    rw c.in-Server.is
    (on_ok_weaker c.item-in-Server.result
    (items _ the_server c.what_is_lent_goes_on.ensures c.args.self.now (record (c.args.self.now) { server = c.item-in-Server.new.self }) refl refl c.args.report.now.items
    c.item-in-Server.new.report.items c.args.call c.args.value refl)
    c.item-in-Server.ensures)
