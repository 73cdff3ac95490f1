use Rattle.std.proofs.Common.{subst, sym, ◌∙◌}
use Rattle.hd_delivery.specs.Histories.{lent_frames}
use Rattle.he_end.specs.Says.{IsDue}
use Rattle.he_end.proofs.Dues.{due_here, due_first, none_of}
use Rattle.he_end.proofs.session.Session.due.Goals as goal

pub returns-then-link-2 : goal.returns-then-link-2
returns-then-link-2 c c' k r =
    due_here c' c.args.self.now k c.in-Some.link c.later.result r c.in-Some.is (none_of c.args.self.now.answer (sym c.is_some.ensures ∙ c.if-is_some.false)) (λ l o. c.later.ensures c' k l r o)

pub returns-else-link-2 : goal.returns-else-link-2
returns-else-link-2 c c' k r =
    due_here c' c.args.self.now k c.in-Some.link c.opening.result r c.in-Some.is (none_of c.args.self.now.answer (sym c.is_some.ensures ∙ c.if-is_some.false))
    (λ l o. subst (λ f. IsDue c' k f c.opening.result) (sym (due_first c' k l (lent_frames l k) (sym o.opened ∙ c.if-link-2.false))) (c.opening.ensures c' k l r o))
