use Rattle.std.proofs.Common.{rules}
use Rattle.he_wire.specs.Controls.{message_of}
use Rattle.he_wire.proofs.PackControls.{patched}
use Rattle.he_wire.proofs.pack_control.put_pack.Goals as goal

pub returns-clause-items : goal.returns-clause-items
returns-clause-items c =
    patched (message_of c.args.control) _ _ _ c.len.result c.requires.empty c.put.ensures.items c.put_frame.ensures.items (search rules) (search rules)
