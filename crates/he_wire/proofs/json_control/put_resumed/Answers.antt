use Rattle.std.proofs.Common.{◌∙◌, sym}
use Rattle.he_wire.proofs.JsonControls.{five, resumed_is}
use Rattle.he_wire.proofs.json_control.put_resumed.Goals as goal

pub returns-clause-items : goal.returns-clause-items
returns-clause-items c =
    five _ _ _ _ _ _ _ _ _ _ _ c.requires.empty c.put.ensures.items c.put_digits.ensures.items c.put-2.ensures.items c.put_digits-2.ensures.items
    c.put-3.ensures.items
    ∙ sym (resumed_is c.args.first c.args.received)
