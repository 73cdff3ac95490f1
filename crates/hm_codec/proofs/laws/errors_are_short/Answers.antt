use Rattle.hm_codec.proofs.Errors.{errors_short}
use Rattle.hm_codec.proofs.laws.errors_are_short.Goals as goal

pub returns : goal.returns
returns c = errors_short
