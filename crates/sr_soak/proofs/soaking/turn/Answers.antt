use Rattle.sr_soak.proofs.Turning.{turns_once}
use Rattle.sr_soak.proofs.soaking.turn.Goals as goal

pub returns : goal.returns
returns c = turns_once c.args.peers.now c.write.new.self c.read.new.self c.round.new.self c.write-2.new.self c.read-2.new.self c.round-2.new.self
    c.in_ok-wrote.wrote c.in_ok-has_read.has_read c.in_ok-stepped.stepped c.in_ok-wrote_back.wrote_back c.in_ok-has_read_back.has_read_back c.in_ok-stepped_back.stepped_back
    c.clear.new.self.items c.read.new.report.items c.read-2.new.report.items
    c.in_ok-wrote.ensures c.in_ok-has_read.ensures c.in_ok-stepped.ensures c.in_ok-wrote_back.ensures c.in_ok-has_read_back.ensures c.in_ok-stepped_back.ensures
