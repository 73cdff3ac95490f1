use Rattle.hw_net.proofs.DialerResponses.{responses-are-awaited, responses-are-given}
use Rattle.hw_net.proofs.laws.responses_are_given.Goals as goal

pub returns-clause-given : goal.returns-clause-given
returns-clause-given c = responses-are-given

pub returns-clause-awaited : goal.returns-clause-awaited
returns-clause-awaited c = responses-are-awaited
