use Rattle.std.proofs.Common.{refl}
use Rattle.sr_script.proofs.Turning.{peers_come, peers_came}
use Rattle.sr_script.proofs.turn.Turn.admit_peers.Goals as goal

pub returns-then-not-self : goal.returns-then-not-self
returns-then-not-self c = λ p knows. peers_came c.args.self.now p knows c.if-not-self.true

pub returns : goal.returns
returns c = λ p knows. peers_come c.args.self.now _ p knows c.requires c.if-not-self.false refl refl refl refl refl refl refl refl refl
