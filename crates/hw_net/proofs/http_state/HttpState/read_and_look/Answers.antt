use Rattle.hw_net.proofs.HttpFacts.{looked-all}
use Rattle.hw_net.proofs.http_state.HttpState.read_and_look.Goals as goal

pub returns-clause-heard : goal.returns-clause-heard
returns-clause-heard g c =
    let trace = g.W.Wires.trace in
    looked-all (trace c.args.wires.now) (trace c.read.new.wires) c.args.wire c.args.self.now c.read.new.self c.look.new.self c.look.result c.if-not-read.ensures.read c.look.ensures.found c.look.ensures.asks
