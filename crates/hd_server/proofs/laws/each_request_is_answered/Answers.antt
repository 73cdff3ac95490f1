use Rattle.hd_server.proofs.RepliesAll.{each_request_is_answered}
use Rattle.hd_server.proofs.laws.each_request_is_answered.Goals as goal

pub returns : goal.returns
returns g c = each_request_is_answered
