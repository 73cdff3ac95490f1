use Rattle.std.proofs.Common.{subst}
use Rattle.hp_peer.specs.Laws.{CallOnce}
use Rattle.hub_calc.specs.Table.{calc_hub}
use Rattle.hub_calc.specs.Client.{client_hub}
use Rattle.sr_peers.proofs.Reporting.{follows_once}
use Rattle.sr_peers.proofs.peers.Peers.calls_once.Goals as goal

pub returns : goal.returns
returns c =
    let peers = c.args.self.now in
    follows_once peers
    (subst (λ x. CallOnce client_hub calc_hub x peers.server.peer) c.peer.ensures
    (subst (λ y. CallOnce client_hub calc_hub c.peer.result.now y) c.peer-2.ensures c.peers_call_once.ensures))
