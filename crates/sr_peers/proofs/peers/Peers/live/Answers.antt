use Rattle.std.proofs.Common.{◌≡◌, arith}
use Rattle.hd_delivery.specs.declared.vocabulary.Side.TheVariants.{Client, Server}
use Rattle.hd_delivery.specs.Sides.{history}
use Rattle.hd_calls.specs.Rules.{own_live}
use Rattle.hd_calls.specs.PeerWorlds.{settings}
use Rattle.hp_peer.specs.Laws.{IsSound}
use Rattle.hub_calc.specs.Table.{calc_hub}
use Rattle.hub_calc.specs.Client.{client_hub}
use Rattle.sr_peers.specs.Runs.{world_of}
use Rattle.sr_peers.proofs.Counting.{said_of}
use Rattle.sr_peers.proofs.peers.Peers.live.Goals as goal

pub returns : goal.returns
returns c = λ p actions r follows.
    let peers = c.args.self.now in
    let at_client = said_of client_hub (settings Client p) (history Client (world_of r)) peers.client follows.holds.client.plays in
    let at_server = said_of calc_hub (settings Server p) (history Server (world_of r)) peers.server follows.holds.server.plays in
    let client = at_client c.peer-3.result.now c.peer-3.ensures (λ t h. c.live-client.result ≡ own_live h) c.live-client.ensures in
    let server = at_server c.peer-4.result.now c.peer-4.ensures (λ t h. c.live-server.result ≡ own_live h) c.live-server.ensures in
    let client_few = (at_client c.peer.result.now c.peer.ensures (λ t h. IsSound client_hub t h) c.peers_keep_their_calls.ensures).bounded.own in
    let server_few = (at_server c.peer-2.result.now c.peer-2.ensures (λ t h. IsSound calc_hub t h) c.peers_keep_their_calls-2.ensures).bounded.own in
    omega (arith, c.saturating_add.ensures, client, server, client_few, server_few)
