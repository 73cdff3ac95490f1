use Rattle.hd_delivery.specs.Worlds.{client_of, server_of}
use Rattle.hd_delivery.proofs.World.{together}
use Rattle.hd_delivery.proofs.Final.{delivery_holds}
use Rattle.hd_delivery.proofs.delivery.Goals as goal

pub returns : goal.returns
returns c limits sizes terms w world = delivery_holds terms (client_of w) (server_of w) (together limits sizes terms w world)
