use Rattle.hd_delivery.proofs.AsSent.{as_sent}
use Rattle.hd_delivery.proofs.laws.delivery_as_sent.Goals as goal

pub returns : goal.returns
returns c limits wire t w base client server world = as_sent limits wire t w base client server world
