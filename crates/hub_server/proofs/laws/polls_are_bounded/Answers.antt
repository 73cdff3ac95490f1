use Rattle.hub_server.proofs.Polled.{polls_bounded}
use Rattle.hub_server.proofs.laws.polls_are_bounded.Goals as goal

pub returns : goal.returns
returns c = polls_bounded c.bodies_are_bounded.ensures c.says_no_more.ensures
