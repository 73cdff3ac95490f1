use Rattle.std.proofs.Common.{◌≤◌, subst}
use Rattle.he_wire.specs.Laws.{shortest_limit}
use Rattle.hp_peer.proofs.Two.{call_once}
use Rattle.hp_peer.proofs.laws.peers_call_once.Goals as goal

pub returns : goal.returns
returns g c =
    call_once {C = g.row.C.Denot} {S = g.row.S.Denot} _ _ c.args.client.now c.args.server.now
    c.calls_once_as_sent.ensures c.ids_are_drawn.ensures c.errors_are_short.ensures c.wire_is_faithful.ensures
    (subst (λ limits. shortest_limit ≤ limits.frame) c.limits.ensures c.frame.ensures.in_range.frame_not_less)
    (subst (λ limits. shortest_limit ≤ limits.frame) c.limits-2.ensures c.frame-2.ensures.in_range.frame_not_less)
