use Rattle.std.proofs.lemmas.Result.{on_ok_weaker}
use Rattle.sr_soak.proofs.Stepping.{adds_one}
use Rattle.sr_soak.proofs.soaking.act.Goals as goal

pub returns : goal.returns
returns c = on_ok_weaker c.act.result (adds_one c.args.peers.now c.act.new.self c.args.action c.clear.new.self.items c.act.new.report.items) c.act.ensures
