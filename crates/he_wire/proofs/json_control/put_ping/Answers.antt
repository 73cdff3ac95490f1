use Rattle.std.proofs.Common.{◌∙◌, sym}
use Rattle.he_wire.proofs.JsonControls.{more, ping_is}
use Rattle.he_wire.proofs.json_control.put_ping.Goals as goal

pub returns-clause-items : goal.returns-clause-items
returns-clause-items c = more _ _ _ _ c.requires.empty c.put.ensures.items ∙ sym ping_is
