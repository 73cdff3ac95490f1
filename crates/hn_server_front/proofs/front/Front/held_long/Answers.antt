use Rattle.std.proofs.Common.{ap, sym, subst, ◌∙◌}
use Rattle.hn_server_front.specs.Moments.{IsInOrder, at, is_due, is_within}
use Rattle.hn_server_front.proofs.Expiring.{held_long_are, order_filter}
use Rattle.hn_server_front.proofs.front.Front.held_long.Goals as goal

pub returns-clause-held : goal.returns-clause-held
returns-clause-held c = λ h s since k.
    ap (λ ws. is_within (at since k) ws) (c.due.ensures s.polls_order) ∙ held_long_are c.args.self.now h s c.args.now since k

pub returns-clause-order : goal.returns-clause-order
returns-clause-order c = λ h s.
    let polls = c.args.self.now.polls in
    subst (λ ws. IsInOrder ws) (sym (c.due.ensures s.polls_order)) (order_filter (λ w. is_due polls.lasts c.args.now w) polls.waiting.items s.polls_order)
