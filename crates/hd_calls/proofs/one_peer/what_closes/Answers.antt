use Rattle.hd_calls.proofs.Heavy.{none_closes}
use Rattle.hd_calls.proofs.one_peer.what_closes.Goals as goal

pub returns-clause-light_call : goal.returns-clause-light_call
returns-clause-light_call g t code shut m c now = none_closes shut

pub returns-clause-light_answer : goal.returns-clause-light_answer
returns-clause-light_answer g t code shut m n a = none_closes shut
