use Rattle.std.proofs.Common.{refl}
use Rattle.hm_message.proofs.Images.{tree-inj}
use Rattle.hm_message.proofs.message.Message.copy.Goals as goal

pub returns-in_ok-copy-in-StreamItem-3 : goal.returns-in_ok-copy-in-StreamItem-3
returns-in_ok-copy-in-StreamItem-3 c =
    rw (c.in-StreamItem.is, c.in_ok-copy-in-StreamItem.ensures, c.in_ok-copy-in-StreamItem-2.ensures, tree-inj _ _ c.in_ok-copy-in-StreamItem-3.ensures) refl
