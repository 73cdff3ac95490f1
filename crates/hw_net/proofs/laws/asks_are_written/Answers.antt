use Rattle.hw_net.proofs.DialerLanes.{lanes-keep-wires}
use Rattle.hw_net.proofs.DialerTold.{lanes-are-those-asked}
use Rattle.hw_net.proofs.DialerVoices.{asks-are-written}
use Rattle.hw_net.proofs.laws.asks_are_written.Goals as goal

pub returns-clause-written : goal.returns-clause-written
returns-clause-written c = asks-are-written

pub returns-clause-lanes : goal.returns-clause-lanes
returns-clause-lanes c = lanes-keep-wires

pub returns-clause-told : goal.returns-clause-told
returns-clause-told c = lanes-are-those-asked
