use Rattle.std.proofs.Common.{rules, ◌∙◌}
use Rattle.hw_net.proofs.Calm.{looked}
use Rattle.hw_net.proofs.Halting.{on-err, unfed-after, unheard-after}
use Rattle.hw_net.proofs.websocket_state.WebSocketState.hear_after.Goals as goal

pub returns-clause-heard : goal.returns-clause-heard
returns-clause-heard c =
    looked c.look.result c.args.self.now c.take.new.self c.look.new.self c.in-Some.count c.args.buf.now _ (search rules) c.in_ok-take.ensures.fed c.look.ensures.found
    (c.in_ok-take.ensures.whole, c.look.ensures.whole ∙ c.in_ok-take.ensures.whole) (rw c.in-Some.is at c.requires.count) c.requires.buffer c.in_ok-take.ensures.full

pub returns-in_err-take-clause-halts : goal.returns-in_err-take-clause-halts
returns-in_err-take-clause-halts c =
    on-err c.from_residual.result (unfed-after c.args.self.now c.take.new.self c.args.buf.now c.args.read c.in_err-take.ensures.lost)

pub returns-clause-halts : goal.returns-clause-halts
returns-clause-halts c =
    unheard-after c.look.result c.args.self.now c.take.new.self c.look.new.self c.in-Some.count c.args.buf.now c.args.read (search rules) c.in_ok-take.ensures.fed c.look.ensures.lost
