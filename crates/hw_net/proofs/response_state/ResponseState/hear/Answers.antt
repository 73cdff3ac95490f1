use Rattle.std.proofs.Common.{rules, ◌≡◌, false}
use Rattle.hw_net.proofs.ResponseFacts.{hears-looked, hears-at-end}
use Rattle.hw_net.proofs.response_state.ResponseState.hear.Goals as goal

pub returns-then-read-clause-heard : goal.returns-then-read-clause-heard
returns-then-read-clause-heard g c =
    let trace = g.W.Wires.trace in
    let unaccepted : c.args.self.now.accepted ≡ false = search rules in
    hears-looked (trace c.args.wires.now) (trace c.read.new.wires) c.args.wire c.args.self.now c.read.new.self c.look.new.self c.look.result unaccepted
    c.if-read.ensures.read c.look.ensures.found

pub returns-clause-heard : goal.returns-clause-heard
returns-clause-heard g c =
    let trace = g.W.Wires.trace in
    hears-at-end (trace c.args.wires.now) (trace c.read.new.wires) c.args.wire c.args.self.now c.read.new.self c.look_at_end.new.self c.look_at_end.result
    c.if-read.ensures.read c.look_at_end.ensures.found
