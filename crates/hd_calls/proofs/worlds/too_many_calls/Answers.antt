use Rattle.hd_calls.proofs.Bounds.{fills_calls}
use Rattle.hd_calls.proofs.worlds.too_many_calls.Goals as goal

pub returns : goal.returns
returns c t k = fills_calls t k
