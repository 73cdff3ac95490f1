use Rattle.hd_calls.proofs.Bounds.{noticed_keeps}
use Rattle.hd_calls.proofs.Hostile.{often_keeps}
use Rattle.hd_calls.proofs.one_peer.what_jobs_keep.Goals as goal

pub returns-clause-calls : goal.returns-clause-calls
returns-clause-calls c t k = noticed_keeps t k

pub returns-clause-inputs : goal.returns-clause-inputs
returns-clause-inputs c t k = often_keeps t k
