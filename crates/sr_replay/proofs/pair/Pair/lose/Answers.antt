use Rattle.sr_replay.proofs.Played.{on_ok}
use Rattle.sr_replay.proofs.Pairs.{client_loses, server_loses}
use Rattle.sr_replay.proofs.pair.Pair.lose.Goals as goal

pub returns-in-Client : goal.returns-in-Client
returns-in-Client c = on_ok c.lose.result
    (client_loses c.runs_are_worlds.ensures c.wire_is_sound.ensures c.args.self.now c.lose.new.player c.lose.new.told c.args.side c.in-Client.is) c.lose.ensures.loses c.lose.ensures.limits

pub returns-in-Server : goal.returns-in-Server
returns-in-Server c = on_ok c.lose-in-Server.result
    (server_loses c.runs_are_worlds.ensures c.wire_is_sound.ensures c.args.self.now c.lose-in-Server.new.player c.lose-in-Server.new.told c.args.side c.in-Server.is) c.lose-in-Server.ensures.loses c.lose-in-Server.ensures.limits
