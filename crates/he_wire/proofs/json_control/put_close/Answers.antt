use Rattle.std.proofs.Common.{ℕ, List, ◌∷◌, ◌++◌, ◌∙◌, ap, sym}
use Rattle.hd_delivery.specs.Frames.{error_of}
use Rattle.he_wire.specs.Controls.{error_text}
use Rattle.he_wire.proofs.JsonControls.{four, close_is, last}
use Rattle.he_wire.proofs.json_control.put_close.Goals as goal

pub returns-clause-items : goal.returns-clause-items
returns-clause-items c =
    four _ _ _ _ _ _ _ _ _ c.requires.empty c.put.ensures.items c.put-2.ensures.items c.put_error.ensures.items c.put-3.ensures.items
    ∙ ap (λ (ys : List ℕ). 123 ∷ (ys ++ (error_text (error_of c.args.reason) ++ last 7))) c.allow_property.ensures
    ∙ sym (close_is c.args.reason c.args.allow)
