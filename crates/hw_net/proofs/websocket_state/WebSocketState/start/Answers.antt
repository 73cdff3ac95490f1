use Rattle.std.proofs.Common.{rules}
use Rattle.hw_net.proofs.WebSocketFacts.{new-sound}
use Rattle.hw_net.proofs.websocket_state.WebSocketState.start.Goals as goal

pub invariant_of-result : goal.invariant_of-result
invariant_of-result c =
    new-sound c.args.side c.args.came.now c.start-lane.result c.feed.new.self _ c.start-lane.ensures c.in_ok-feed.ensures.fed (search rules)
