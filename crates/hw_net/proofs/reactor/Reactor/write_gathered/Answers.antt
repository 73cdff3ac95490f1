use Rattle.hw_net.proofs.FlushCalls.{each-kept}
use Rattle.hw_net.proofs.reactor.Reactor.write_gathered.Goals as goal

pub returns-clause-lanes : goal.returns-clause-lanes
returns-clause-lanes g c =
    let flushed = c.flush.ensures.flushed in
    rw (← c.self.view_is) (each-kept flushed.2.wires c.self.inside.lanes.items c.flush.new.self.items flushed.0 flushed.2.writes)
