use Rattle.std.proofs.Common.{refl}
use Rattle.sr_client.proofs.Begun.{begins}
use Rattle.sr_client.proofs.peer.ClientPeer.start.Goals as goal

pub returns : goal.returns
returns c = λ s same_codec same_limits house.
    begins s c.args.codec c.args.limits _ c.args.reconnect _ same_codec same_limits c.in_ok-of.ensures refl (c.in_ok-peer.ensures.stands s.wire house)
