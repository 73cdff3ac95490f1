use Rattle.std.proofs.Common.{refl}
use Rattle.std.proofs.lemmas.Result.{IfOk-weaker}
use Rattle.sr_peers.proofs.Seats.{the_client, the_server}
use Rattle.sr_peers.proofs.Acting.{rounds}
use Rattle.sr_peers.proofs.peers.Peers.round.Goals as goal

pub returns-in-Client : goal.returns-in-Client
returns-in-Client c =
    rw c.in-Client.is
    (IfOk-weaker c.round.result _ _
    (rounds _ the_client c.what_is_lent_goes_on.ensures c.args.self.now (record (c.args.self.now) { client = c.round.new.self }) refl refl refl)
    c.round.ensures)

pub returns-in-Server : goal.returns-in-Server
returns-in-Server c =
    rw c.in-Server.is
    (IfOk-weaker c.round-in-Server.result _ _
    (rounds _ the_server c.what_is_lent_goes_on.ensures c.args.self.now (record (c.args.self.now) { server = c.round-in-Server.new.self }) refl refl refl)
    c.round-in-Server.ensures)
