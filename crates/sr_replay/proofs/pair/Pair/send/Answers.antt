use Rattle.sr_replay.proofs.Played.{on_ok}
use Rattle.sr_replay.proofs.Pairs.{client_sends, server_sends}
use Rattle.sr_replay.proofs.pair.Pair.send.Goals as goal

pub returns-in-Client : goal.returns-in-Client
returns-in-Client c = on_ok c.send.result
    (client_sends c.args.self.now c.send.new.player c.send.new.told c.args.message.now c.args.side c.in-Client.is) c.send.ensures.sends c.send.ensures.limits

pub returns-in-Server : goal.returns-in-Server
returns-in-Server c = on_ok c.send-in-Server.result
    (server_sends c.args.self.now c.send-in-Server.new.player c.send-in-Server.new.told c.args.message.now c.args.side c.in-Server.is) c.send-in-Server.ensures.sends c.send-in-Server.ensures.limits
