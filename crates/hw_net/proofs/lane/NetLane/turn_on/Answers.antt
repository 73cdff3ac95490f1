use Rattle.hw_net.proofs.Sayings.{turned-after}
use Rattle.hw_net.proofs.Halting.{on-err, halts-hearing, halts-saying, halts-taking}
use Rattle.hw_net.proofs.lane.NetLane.turn_on.Goals as goal

pub returns-clause-turned : goal.returns-clause-turned
returns-clause-turned g c = λ first reads_first.
    let trace = g.W.Wires.trace in
    turned-after (trace c.args.wires.now) (trace c.hear_on.new.wires) (trace c.take.new.wires) (trace c.say.new.wires) c.args.now c.args.self.now c.hear_on.new.self c.say_continue.new.self c.take.new.self c.say.new.self c.heard.new.self
    c.in_ok-input.input c.in_ok-event.event c.heard.result first (c.in_ok-input.ensures.heard first reads_first) c.in_ok-input.ensures.others_unchanged c.in_ok-say_continue.ensures.said c.in_ok-event.ensures.settled c.say.ensures.said c.heard.ensures.heard

pub returns-in_err-input-clause-halts : goal.returns-in_err-input-clause-halts
returns-in_err-input-clause-halts g c =
    let trace = g.W.Wires.trace in
    on-err c.from_residual.result (λ first reads_first.
    halts-hearing (trace c.args.wires.now) (trace c.hear_on.new.wires) c.args.self.now c.hear_on.new.self first (c.in_err-input.ensures.halts first reads_first) c.in_err-input.ensures.others_unchanged c.requires.live)

pub returns-in_err-say_continue-clause-halts : goal.returns-in_err-say_continue-clause-halts
returns-in_err-say_continue-clause-halts g c =
    let trace = g.W.Wires.trace in
    on-err c.from_residual-in_err-say_continue.result (λ first reads_first.
    halts-saying (trace c.args.wires.now) (trace c.hear_on.new.wires) c.args.self.now c.hear_on.new.self c.say_continue.new.self c.in_ok-input.input first (c.in_ok-input.ensures.heard first reads_first)
    c.in_ok-input.ensures.others_unchanged c.in_err-say_continue.ensures.due c.requires.live)

pub returns-in_err-event-clause-halts : goal.returns-in_err-event-clause-halts
returns-in_err-event-clause-halts g c =
    let trace = g.W.Wires.trace in
    on-err c.from_residual-in_err-event.result (λ first reads_first.
    halts-taking (trace c.args.wires.now) (trace c.hear_on.new.wires) (trace c.take.new.wires) c.args.self.now c.hear_on.new.self c.say_continue.new.self c.take.new.self c.in_ok-input.input first
    (c.in_ok-input.ensures.heard first reads_first) c.in_ok-input.ensures.others_unchanged c.in_ok-say_continue.ensures.said c.in_err-event.ensures.lasts c.requires.live)
