use Rattle.std.proofs.Common.{ℕ, List, ◌++◌, ◌∙◌, ap, sym}
use Rattle.he_wire.proofs.PackControls.{three, resumed_is}
use Rattle.he_wire.proofs.pack_control.put_resumed.Goals as goal

pub returns-clause-items : goal.returns-clause-items
returns-clause-items c =
    three _ _ _ _ _ _ _ c.put.ensures.items c.put_number.ensures.items c.put_number-2.ensures.items
    ∙ ap (λ (xs : List ℕ). c.args.out.now.items ++ xs) (sym (resumed_is c.args.first c.args.received))
