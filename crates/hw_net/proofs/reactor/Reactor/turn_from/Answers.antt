use Rattle.hw_net.proofs.reactor.Reactor.turn_from.Goals as goal

pub returns-clause-halts : goal.returns-clause-halts
returns-clause-halts g c = rw (← c.self.view_is) c.turn_from.ensures.halts
