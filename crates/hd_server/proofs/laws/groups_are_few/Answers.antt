use Rattle.hd_server.proofs.Members.{groups_few}
use Rattle.hd_server.proofs.laws.groups_are_few.Goals as goal

pub returns : goal.returns
returns c = groups_few c.groups_are_bounded.ensures.bounded
