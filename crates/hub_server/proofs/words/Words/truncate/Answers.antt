use Rattle.std.proofs.Common.{sym, subst}
use Rattle.hub_server.specs.Words.{AreReplies}
use Rattle.hub_server.proofs.StepWords.{replies_take}
use Rattle.hub_server.proofs.words.Words.truncate.Goals as goal

pub invariant_of-self : goal.invariant_of-self
invariant_of-self c =
    subst (λ l. AreReplies l) (sym c.truncate.ensures.items) (replies_take c.args.count c.self.inside.said.items c.self.invariant)
