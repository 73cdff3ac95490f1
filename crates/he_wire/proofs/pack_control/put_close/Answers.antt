use Rattle.std.proofs.Common.{ℕ, List, ◌∷◌, ◌++◌, ◌∙◌, ap, sym}
use Rattle.hd_delivery.specs.Frames.{error_of}
use Rattle.hm_pack.specs.Frame.{text_written}
use Rattle.hv_pack.specs.Writing.{shortest}
use Rattle.he_wire.proofs.PackControls.{three, close_is}
use Rattle.he_wire.proofs.pack_control.put_close.Goals as goal

pub returns-clause-items : goal.returns-clause-items
returns-clause-items c =
    three _ _ _ _ _ _ _ c.put.ensures.items c.put_error.ensures.items c.put-2.ensures.items
    ∙ ap (λ (xs : List ℕ). c.args.out.now.items ++ 147 ∷ 7 ∷ (shortest (text_written (error_of c.args.reason)) ++ xs)) (sym c.bool_byte.ensures)
    ∙ ap (λ (xs : List ℕ). c.args.out.now.items ++ xs) (sym (close_is (error_of c.args.reason) c.args.allow))
