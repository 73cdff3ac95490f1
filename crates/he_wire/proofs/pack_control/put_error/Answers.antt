use Rattle.std.proofs.Common.{◌+◌, ℕ, List, ◌∷◌, ◌++◌, length, ◌∙◌, ap, sym}
use Rattle.he_wire.proofs.PackControls.{two, error_is}
use Rattle.he_wire.proofs.pack_control.put_error.Goals as goal

pub returns-in-Some-clause-items : goal.returns-in-Some-clause-items
returns-in-Some-clause-items c =
    two _ _ _ _ _ c.put-in-Some.ensures.items c.put-in-Some-2.ensures.items
    ∙ ap (λ (xs : List ℕ). c.args.out.now.items ++ (160 + length c.in-Some.text.now) ∷ xs) c.as_bytes.ensures.value
    ∙ ap (λ (xs : List ℕ). c.args.out.now.items ++ xs) (sym (error_is c.args.reason c.in-Some.text.now c.in-Some.ensures))
