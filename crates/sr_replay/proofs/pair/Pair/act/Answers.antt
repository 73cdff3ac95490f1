use Rattle.std.proofs.Common.{sym, subst}
use Rattle.std.specs.Prelude.{OnOk}
use Rattle.sr_replay.specs.Follows.{GoesOn}
use Rattle.sr_replay.proofs.pair.Pair.act.Goals as goal

pub returns-in-Send : goal.returns-in-Send
returns-in-Send c = subst (λ a. OnOk c.send.result (GoesOn c.args.self.now a c.send.new.self)) (sym c.in-Send.is) c.send.ensures
