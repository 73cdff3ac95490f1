use Rattle.hw_door.specs.DoorLaws.{chain_splits}
use Rattle.hw_net.specs.Chains.{CallsNet}
use Rattle.hw_net.proofs.Chaining.{calls-are-a-session}
use Rattle.hw_net.proofs.laws.calls_are_a_session.Goals as goal

pub returns-clause-session : goal.returns-clause-session
returns-clause-session g c = calls-are-a-session g.W.Wires.trace g.W.Wires.wires g.W.Wires.faults

pub returns-clause-split : goal.returns-clause-split
returns-clause-split g c = λ before after first more chain. chain_splits (CallsNet g.W.Wires.trace g.W.Wires.wires g.W.Wires.faults) before after first more chain
