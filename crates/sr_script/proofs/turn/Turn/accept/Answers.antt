use Rattle.std.proofs.Common.{refl, sym, arith}
use Rattle.sr_script.proofs.Turning.{accept_comes}
use Rattle.sr_script.proofs.turn.Turn.accept.Goals as goal

pub returns : goal.returns
returns c = λ p knows. accept_comes c.args.self.now _ p c.args.link (omega arith) (sym (rw c.if-index.false at c.index.ensures)) knows (record { codec = refl; version = refl; reconnect = refl; buffer = refl; peers = refl; between = refl }) refl refl refl
