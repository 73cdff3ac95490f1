use Rattle.hw_net.proofs.Closings.{lanes-have-wires, shut-once, shut-for-a-cause}
use Rattle.hw_net.proofs.laws.wires_are_shut_for_a_cause.Goals as goal

pub returns-clause-cause : goal.returns-clause-cause
returns-clause-cause c = shut-for-a-cause

pub returns-clause-once : goal.returns-clause-once
returns-clause-once c = shut-once

pub returns-clause-lanes : goal.returns-clause-lanes
returns-clause-lanes c = lanes-have-wires
