use Rattle.hd_server.proofs.Members.{each_member_once}
use Rattle.hd_server.proofs.laws.broadcasts_once.Goals as goal

pub returns : goal.returns
returns c = each_member_once c.pairs_stay_distinct.ensures
