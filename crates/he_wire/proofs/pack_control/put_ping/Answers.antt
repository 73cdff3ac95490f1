use Rattle.std.proofs.Common.{ℕ, List, ◌++◌, ◌∙◌, ap, sym}
use Rattle.he_wire.proofs.PackControls.{ping_is}
use Rattle.he_wire.proofs.pack_control.put_ping.Goals as goal

pub returns-clause-items : goal.returns-clause-items
returns-clause-items c = c.put.ensures.items ∙ ap (λ (xs : List ℕ). c.args.out.now.items ++ xs) (sym ping_is)
