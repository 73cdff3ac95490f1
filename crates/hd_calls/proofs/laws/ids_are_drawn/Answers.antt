use Rattle.hd_calls.proofs.Ids as proof
use Rattle.hd_calls.proofs.laws.ids_are_drawn.Goals as goal

pub returns : goal.returns
returns c = proof.ids_are_drawn
