use Rattle.std.proofs.Common.{rules, true, ◌≡◌}
use Rattle.hw_net.proofs.WebSocketFacts.{websocket_state-hears}
use Rattle.hw_net.proofs.Halting.{halts-unheard}
use Rattle.hw_net.proofs.websocket_state.WebSocketState.hear.Goals as goal

pub returns-clause-heard : goal.returns-clause-heard
returns-clause-heard g c =
    let trace = g.W.Wires.trace in
    let whole : c.in_ok-read.field-0 ≡ true = search rules in
    websocket_state-hears (trace c.args.wires.now) (trace c.read.new.wires) c.args.wire c.args.self.now c.read.new.self c.look.new.self c.in_ok-read.field-0 c.look.result whole (search rules)
    c.in_ok-read.ensures.read c.look.ensures.found c.look.ensures.whole

pub returns-clause-halts : goal.returns-clause-halts
returns-clause-halts g c =
    let trace = g.W.Wires.trace in
    let whole : c.in_ok-read.field-0 ≡ true = search rules in
    halts-unheard (trace c.args.wires.now) (trace c.read.new.wires) c.args.wire c.args.self.now c.read.new.self c.look.new.self c.in_ok-read.field-0 c.look.result whole
    c.in_ok-read.ensures.read c.look.ensures.lost
