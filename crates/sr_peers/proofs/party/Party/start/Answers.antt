use Rattle.std.proofs.Common.{refl}
use Rattle.sr_peers.proofs.party.Party.start.Goals as goal

pub returns : goal.returns
returns g c = λ wire house. record { stands = c.in_ok-peer.ensures.stands wire house; side_is = refl; link_is = refl; handled = refl }
