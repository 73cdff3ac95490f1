use Rattle.hd_calls.proofs.Bounds.{ask_is_refused}
use Rattle.hd_calls.proofs.one_peer.an_ask_refused.Goals as goal

pub returns-clause-may : goal.returns-clause-may
returns-clause-may c = ask_is_refused
