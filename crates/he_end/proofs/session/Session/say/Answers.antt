use Rattle.std.proofs.Common.{◌≡◌, ◌∷◌, [], sym, ap, ◌∙◌, max}
use Rattle.std.specs.Prelude.{◌||◌}
use Rattle.hd_delivery.specs.Due.{has_close}
use Rattle.he_end.proofs.Said.{remembers_said}
use Rattle.he_end.proofs.session.Session.say.Goals.{then-link, else-link}
use Rattle.he_end.proofs.session.Session.say.Goals as goal

pub returns-clause-said : goal.returns-clause-said
returns-clause-said c c' k f r due' is no_message =
    let parts : c.if-link.self ≡ (c.in-Some.link.parted || has_close (f ∷ [])) = elim c.if-link.branch [
      | then-link w ↦ w.self-is ∙ (w.if-link.true ∙ sym (ap (λ b. b || has_close (f ∷ [])) w.if-link.true))
      | else-link w ↦ w.self-is ∙ (w.is_close.ensures c' k f is ∙ sym (ap (λ b. b || has_close (f ∷ [])) w.if-link.false))
    ] in
    remembers_said c' c.args.self.now k f c.args.said c.in-Some.link c.counted.result c.max.result c.if-link.self r c.in-Some.is is no_message
    (c.counted.ensures c' k f is no_message) (c.max.ensures ∙ ap (max c.in-Some.link.told) (c.told.ensures c' k f is)) parts
