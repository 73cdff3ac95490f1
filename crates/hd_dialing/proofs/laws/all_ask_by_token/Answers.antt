use Rattle.hd_dialing.proofs.Steps.{all_ask_by_token}
use Rattle.hd_dialing.proofs.laws.all_ask_by_token.Goals as goal

pub returns : goal.returns
returns c = all_ask_by_token
