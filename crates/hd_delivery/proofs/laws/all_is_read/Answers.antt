use Rattle.hd_delivery.proofs.AsSent.{faithful}
use Rattle.hd_delivery.proofs.laws.all_is_read.Goals as goal

pub returns : goal.returns
returns c limits wire t w base client server world = faithful limits wire t base w world client server
