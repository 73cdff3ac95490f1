use Rattle.hd_delivery.proofs.Short.{due_is_short}
use Rattle.hd_delivery.proofs.laws.due_is_short.Goals as goal

pub returns : goal.returns
returns c limits wire config h f sound faithful answers i = due_is_short limits wire config h f sound faithful answers i
