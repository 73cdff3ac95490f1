use Rattle.hd_server.proofs.FurtherDoings.{what_is_told_grows}
use Rattle.hd_server.proofs.laws.what_is_told_grows.Goals as goal

pub returns : goal.returns
returns c = what_is_told_grows
