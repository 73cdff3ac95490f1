use Rattle.std.proofs.Common.{refl, ◌∙◌, ap}
use Rattle.std.specs.Prelude.{unwrap_or}
use Rattle.he_end.proofs.Links.{has_first}
use Rattle.he_end.proofs.session.Session.own_number.Goals as goal

pub returns : goal.returns
returns c cc' k l s at = c.unwrap_or.ensures ∙ (ap (λ o. unwrap_or o 0) s.number ∙ rw (has_first k l at) refl)
