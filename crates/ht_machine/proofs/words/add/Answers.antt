use Rattle.std.proofs.Common.{nat_eq, sym, ap, subst, ◌∙◌}
use Rattle.std.specs.List.{IsDistinct, list_any}
use Rattle.ht_machine.proofs.Once.{one_more}
use Rattle.ht_machine.proofs.words.add.Goals as goal

pub returns : goal.returns
returns c = subst (IsDistinct nat_eq) (sym c.in_ok-push.ensures.items) (one_more _ _ c.requires
    (ap (list_any (λ y. nat_eq y c.args.conn)) (sym c.deref.ensures.value) ∙ (sym c.contains.ensures.value ∙ c.if-contains.false)))
