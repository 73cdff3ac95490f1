use Rattle.sr_replay.proofs.Pairs.{finished}
use Rattle.sr_replay.proofs.pair.Pair.finish.Goals as goal

pub returns : goal.returns
returns c = finished c.args.self c.stand.new.report.items c.stand-2.new.report.items c.in_ok-stand.ensures c.in_ok-stand-2.ensures
