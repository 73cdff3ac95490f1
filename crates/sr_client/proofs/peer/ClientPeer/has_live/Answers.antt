use Rattle.hub_calc.specs.Client.{client_hub}
use Rattle.sr_client.proofs.Uploads.{live_as_counted}
use Rattle.sr_client.proofs.peer.ClientPeer.has_live.Goals as goal

pub returns : goal.returns
returns c = λ t h plays uploads.
    live_as_counted client_hub t h plays.on.stands.follows uploads c.live.result (c.live.ensures t h plays.on.stands)
