use Rattle.std.proofs.Common.{◌≤◌, subst}
use Rattle.he_wire.specs.Laws.{shortest_limit}
use Rattle.he_end.proofs.Delivers.{ends_deliver}
use Rattle.he_end.proofs.laws.ends_deliver.Goals as goal

pub returns : goal.returns
returns c = ends_deliver c.args.client.now c.args.server.now c.delivery_as_sent.ensures c.wire_is_faithful.ensures
    (subst (λ limits. shortest_limit ≤ limits.frame) c.limits.ensures c.frame.ensures.in_range.frame_not_less)
    (subst (λ limits. shortest_limit ≤ limits.frame) c.limits-2.ensures c.frame-2.ensures.in_range.frame_not_less)
