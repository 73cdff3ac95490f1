use Rattle.hd_calls.proofs.Heavy.{fills_by_call, fills_by_ending, fills_by_input}
use Rattle.hd_calls.proofs.one_peer.too_heavy.Goals as goal

pub returns-clause-call : goal.returns-clause-call
returns-clause-call c t k now = fills_by_call t k now

pub returns-clause-input : goal.returns-clause-input
returns-clause-input c k = fills_by_input k

pub returns-clause-ending : goal.returns-clause-ending
returns-clause-ending c k = fills_by_ending k
