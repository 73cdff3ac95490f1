use Rattle.sr_replay.proofs.Played.{on_ok}
use Rattle.sr_replay.proofs.Pairs.{client_closes, server_closes}
use Rattle.sr_replay.proofs.pair.Pair.close.Goals as goal

pub returns-in-Client : goal.returns-in-Client
returns-in-Client c = on_ok c.close.result
    (client_closes c.args.self.now c.close.new.player c.close.new.told c.args.side c.in-Client.is) c.close.ensures.closes c.close.ensures.limits

pub returns-in-Server : goal.returns-in-Server
returns-in-Server c = on_ok c.close-in-Server.result
    (server_closes c.args.self.now c.close-in-Server.new.player c.close-in-Server.new.told c.args.side c.in-Server.is) c.close-in-Server.ensures.closes c.close-in-Server.ensures.limits
