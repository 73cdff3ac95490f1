use Rattle.std.proofs.Common.{[], ◌∷◌, sym, subst}
use Rattle.hd_server.specs.declared.vocabulary.Said.TheVariants as say
use Rattle.hub_server.specs.Words.{AreReplies}
use Rattle.hub_server.proofs.StepWords.{replies_append}
use Rattle.hub_server.proofs.words.Words.bytes.Goals as goal

pub invariant_of-self-2 : goal.invariant_of-self-2
invariant_of-self-2 c =
    subst (λ l. AreReplies l) (sym c.in_ok-push.ensures.items) (replies_append c.self.inside.said.items
    (say.Bytes c.args.lane c.args.bytes c.args.text ∷ []) c.self.invariant tt)
