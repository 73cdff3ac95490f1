use Rattle.std.proofs.Common.{ℕ, List, ◌++◌, ◌∙◌, ap, sym}
use Rattle.he_wire.proofs.PackControls.{two, ack_is}
use Rattle.he_wire.proofs.pack_control.put_ack.Goals as goal

pub returns-clause-items : goal.returns-clause-items
returns-clause-items c =
    two _ _ _ _ _ c.put.ensures.items c.put_number.ensures.items ∙ ap (λ (xs : List ℕ). c.args.out.now.items ++ xs) (sym (ack_is c.args.upto))
