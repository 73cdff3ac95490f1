use Rattle.std.proofs.Common.{refl, arith}
use Rattle.sr_script.proofs.Turning.{tick_comes}
use Rattle.sr_script.proofs.turn.Turn.tick.Goals as goal

pub returns : goal.returns
returns c = λ p knows. tick_comes c.args.self.now _ p c.args.now (omega arith) knows (record { codec = refl; version = refl; reconnect = refl; buffer = refl; peers = refl; between = refl }) refl refl refl
