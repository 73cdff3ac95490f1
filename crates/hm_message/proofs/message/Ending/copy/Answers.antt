use Rattle.std.proofs.Common.{refl}
use Rattle.hm_message.proofs.Images.{tree-inj}
use Rattle.hm_message.proofs.message.Ending.copy.Goals as goal

pub returns-in_ok-copy-in-Result : goal.returns-in_ok-copy-in-Result
returns-in_ok-copy-in-Result c = rw (c.in-Result.is, tree-inj _ _ c.in_ok-copy-in-Result.ensures) refl
