use Rattle.hw_net.proofs.Fillings.{fullness-is-told, drained-were-full}
use Rattle.hw_net.proofs.laws.fullness_is_told.Goals as goal

pub returns-clause-full : goal.returns-clause-full
returns-clause-full c = fullness-is-told

pub returns-clause-drained : goal.returns-clause-drained
returns-clause-drained c = drained-were-full
