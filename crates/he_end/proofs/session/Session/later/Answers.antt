use Rattle.std.proofs.Common.{subst, sym, ◌∙◌}
use Rattle.hd_delivery.specs.Histories.{lent_frames}
use Rattle.he_end.specs.Says.{IsDue}
use Rattle.he_end.proofs.Dues.{or_is_due, due_later}
use Rattle.he_end.proofs.session.Session.later.Goals as goal

pub returns : goal.returns
returns c c' k l r o =
    let two = or_is_due c' k _ _ _ _ _ c.or.ensures (c.sequence_due.ensures c' k l r o) (c.ack_due.ensures c' k l r o) in
    let three = or_is_due c' k _ _ _ _ _ c.or-2.ensures two (c.message_due.ensures c' k l r o) in
    let four = or_is_due c' k _ _ _ _ _ c.or-3.ensures three (c.ping_due.ensures c' k l r o) in
    let all = or_is_due c' k _ _ _ _ _ c.or-4.ensures four (c.close_due.ensures c' k l r o) in
    subst (λ f. IsDue c' k f c.or-4.result) (sym (due_later c' k l (lent_frames l k) (sym o.opened ∙ c.requires))) all
