use Rattle.hd_delivery.proofs.Short.{can_be_sent}
use Rattle.hd_delivery.proofs.laws.sent_can_be_sent.Goals as goal

pub returns : goal.returns
returns c limits wire config h i = can_be_sent limits wire config h i
