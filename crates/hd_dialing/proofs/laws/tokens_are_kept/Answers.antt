use Rattle.hd_dialing.proofs.Losses.{tokens_are_kept}
use Rattle.hd_dialing.proofs.laws.tokens_are_kept.Goals as goal

pub returns : goal.returns
returns c = tokens_are_kept
