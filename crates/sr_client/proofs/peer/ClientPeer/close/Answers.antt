use Rattle.std.proofs.Common.{◌∷◌, false, refl}
use Rattle.hd_delivery.specs.declared.vocabulary.Reason.TheVariants.{Done}
use Rattle.hd_delivery.specs.Histories.{Closed}
use Rattle.hd_delivery.specs.Bytes.{Does as Step_of}
use Rattle.hd_calls.specs.Peers.{Plain}
use Rattle.sr_client.proofs.Quiet.{plays_quiet, quiet_move}
use Rattle.sr_client.proofs.peer.ClientPeer.close.Goals as goal

pub returns : goal.returns
returns c = λ t h plays live.
    plays_quiet t c.args.self.now _ h (Plain (Step_of (Closed Done false)) ∷ h) plays (c.close.ensures.live t h plays.on.stands live) refl
    (quiet_move t (Plain (Step_of (Closed Done false))) h refl)
