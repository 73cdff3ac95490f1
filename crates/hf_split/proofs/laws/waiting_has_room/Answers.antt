use Rattle.hf_split.proofs.Finding.{waits_not_full}
use Rattle.hf_split.proofs.laws.waiting_has_room.Goals as goal

pub returns : goal.returns
returns c = waits_not_full
