use Rattle.std.proofs.Common.{refl}
use Rattle.std.proofs.lemmas.Result.{on_ok_weaker}
use Rattle.sr_peers.proofs.Seats.{the_client, the_server}
use Rattle.sr_peers.proofs.Acting.{calls}
use Rattle.sr_peers.proofs.peers.Peers.call.Goals as goal

pub returns-in-Client : goal.returns-in-Client
returns-in-Client c =
    rw c.in-Client.is
    (on_ok_weaker c.call.result
    (calls _ the_client c.what_is_lent_goes_on.ensures c.args.self.now (record (c.args.self.now) { client = c.call.new.self }) refl refl c.args.report.now.items
    c.call.new.report.items c.args.asking refl)
    c.call.ensures)

pub returns-in-Server : goal.returns-in-Server
returns-in-Server c =
    rw c.in-Server.is
    (on_ok_weaker c.call-in-Server.result
    (calls _ the_server c.what_is_lent_goes_on.ensures c.args.self.now (record (c.args.self.now) { server = c.call-in-Server.new.self }) refl refl c.args.report.now.items
    c.call-in-Server.new.report.items c.args.asking refl)
    c.call-in-Server.ensures)
