use Rattle.hi_calls.proofs.Legal.{all_legal}
use Rattle.hi_calls.proofs.laws.ledgers_are_legal.Goals as goal

pub returns : goal.returns
returns c = λ table prefix h s. all_legal h s.ledgers s.streams
