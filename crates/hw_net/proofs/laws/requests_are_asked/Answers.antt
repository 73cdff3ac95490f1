use Rattle.hw_net.proofs.Asked.{requests-are-asked, refusals-are-deserved}
use Rattle.hw_net.proofs.laws.requests_are_asked.Goals as goal

pub returns-clause-asked : goal.returns-clause-asked
returns-clause-asked c = requests-are-asked

pub returns-clause-refused : goal.returns-clause-refused
returns-clause-refused c = refusals-are-deserved
