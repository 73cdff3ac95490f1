use Rattle.std.proofs.lemmas.Result.{IfOk-weaker}
use Rattle.sr_replay.proofs.Begun.{are_begun}
use Rattle.sr_replay.proofs.peering.tell.Goals as goal

pub returns : goal.returns
returns c =
    IfOk-weaker c.tell_by.result _ _ (λ told tells p parses begins. tells p parses (are_begun p c.args.config c.in_ok-peers.peers begins c.in_ok-peers.ensures)) c.tell_by.ensures
