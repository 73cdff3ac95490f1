use Rattle.sr_client.proofs.Looks.{due_by}
use Rattle.sr_client.proofs.peer.ClientPeer.is_due.Goals as goal

pub returns : goal.returns
returns c = λ t h plays. due_by c.turns_are_tested.ensures t h c.due.result (c.due.ensures t h plays.on.stands)
