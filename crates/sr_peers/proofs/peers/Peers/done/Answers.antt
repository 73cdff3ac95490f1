use Rattle.std.proofs.Common.{refl}
use Rattle.std.proofs.lemmas.Result.{on_ok_weaker}
use Rattle.sr_peers.proofs.Seats.{the_client, the_server}
use Rattle.sr_peers.proofs.Acting.{dones}
use Rattle.sr_peers.proofs.peers.Peers.done.Goals as goal

pub returns-in-Client : goal.returns-in-Client
returns-in-Client c =
    rw c.in-Client.is
    (on_ok_weaker c.done.result
    (dones _ the_client c.what_is_lent_goes_on.ensures c.args.self.now (record (c.args.self.now) { client = c.done.new.self }) refl refl c.args.report.now.items
    c.done.new.report.items c.args.call refl)
    c.done.ensures)

pub returns-in-Server : goal.returns-in-Server
returns-in-Server c =
    rw c.in-Server.is
    (on_ok_weaker c.done-in-Server.result
    (dones _ the_server c.what_is_lent_goes_on.ensures c.args.self.now (record (c.args.self.now) { server = c.done-in-Server.new.self }) refl refl c.args.report.now.items
    c.done-in-Server.new.report.items c.args.call refl)
    c.done-in-Server.ensures)
