use Rattle.hd_calls.proofs.Hostile.{fills_inputs}
use Rattle.hd_calls.proofs.one_peer.too_many_inputs.Goals as goal

pub returns-clause-fills : goal.returns-clause-fills
returns-clause-fills c k = fills_inputs k
