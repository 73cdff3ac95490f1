use Rattle.std.proofs.Common.{rules, take}
use Rattle.hw_net.proofs.WebSocketFacts.{filled, websocket_state-reads}
use Rattle.hw_net.proofs.Halting.{on-err, halts-unfed}
use Rattle.hw_net.proofs.websocket_state.WebSocketState.read.Goals as goal

pub returns-clause-read : goal.returns-clause-read
returns-clause-read g c =
    let trace = g.W.Wires.trace in
    websocket_state-reads (trace c.args.wires.now) (trace c.read_piece.new.wires) c.args.wire _ c.args.self.now c.take.new.self (take c.in-Some.count c.read_piece.new.buf)
    (search rules) (search rules) c.in-Some.ensures.read c.in_ok-take.ensures.fed c.in_ok-take.ensures.whole
    (filled c.in-Some.count c.read_piece.new.buf c.take.new.self.last_read_was_full c.in-Some.ensures.count c.in_ok-take.ensures.full)

pub returns-in_err-take-clause-halts : goal.returns-in_err-take-clause-halts
returns-in_err-take-clause-halts g c =
    let trace = g.W.Wires.trace in
    on-err c.from_residual.result (halts-unfed (trace c.args.wires.now) (trace c.read_piece.new.wires) c.args.wire _ c.args.self.now c.take.new.self (take c.in-Some.count c.read_piece.new.buf)
    (search rules) (search rules) c.in-Some.ensures.read c.in_err-take.ensures.lost)
