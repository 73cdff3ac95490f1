use Rattle.hw_net.proofs.DialerEnds.{dialed-shut-for-a-cause, dialed-shut-once, dialed-have-wires}
use Rattle.hw_net.proofs.laws.dialed_wires_are_shut_for_a_cause.Goals as goal

pub returns-clause-cause : goal.returns-clause-cause
returns-clause-cause c = dialed-shut-for-a-cause

pub returns-clause-once : goal.returns-clause-once
returns-clause-once c = dialed-shut-once

pub returns-clause-lanes : goal.returns-clause-lanes
returns-clause-lanes c = dialed-have-wires
