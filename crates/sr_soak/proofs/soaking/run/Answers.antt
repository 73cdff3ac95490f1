use Rattle.std.proofs.lemmas.Result.{IfOk-weaker}
use Rattle.sr_soak.proofs.Begun.{are_begun}
use Rattle.sr_soak.proofs.soaking.run.Goals as goal

pub returns : goal.returns
returns c = IfOk-weaker c.play.result _ _ (λ totals soaks. soaks (are_begun c.usual.result c.in_ok-peers.peers c.usual.ensures c.in_ok-peers.ensures)) c.play.ensures
