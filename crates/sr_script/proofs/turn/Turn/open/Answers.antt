use Rattle.std.proofs.Common.{refl, arith}
use Rattle.sr_script.proofs.Turning.{open_comes}
use Rattle.sr_script.proofs.turn.Turn.open.Goals as goal

pub returns : goal.returns
returns c = λ p knows. open_comes c.args.self.now _ p (omega (arith, knows.links)) knows (record { codec = refl; version = refl; reconnect = refl; buffer = refl; peers = refl; between = refl }) refl c.in_ok-push.ensures.items refl
