use Rattle.std.proofs.Common.{refl}
use Rattle.sr_script.proofs.Turning.{plain_comes, plain_cant}
use Rattle.sr_script.proofs.turn.Turn.act.Goals as goal

pub returns-then-not-suits : goal.returns-then-not-suits
returns-then-not-suits c = λ p knows. plain_cant c.args.self.now p c.args.action.now (λ suits. (let yes = c.suits.ensures.1 suits in let no = c.if-not-suits.true in cc)) knows

pub returns : goal.returns
returns c = λ p knows. plain_comes c.args.self.now _ p c.args.action.now c.requires (c.suits.ensures.0 c.if-not-suits.false) knows
    (record { codec = refl; version = refl; reconnect = refl; buffer = refl; peers = refl; between = refl }) refl refl refl
