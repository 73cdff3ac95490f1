use Rattle.std.proofs.Common.{◌∙◌, sym}
use Rattle.he_wire.proofs.JsonControls.{three, ack_is}
use Rattle.he_wire.proofs.json_control.put_ack.Goals as goal

pub returns-clause-items : goal.returns-clause-items
returns-clause-items c =
    three _ _ _ _ _ _ _ c.requires.empty c.put.ensures.items c.put_digits.ensures.items c.put-2.ensures.items ∙ sym (ack_is c.args.upto)
