use Rattle.hd_rooms.proofs.RegistryLemmas.{count-agrees}
use Rattle.hd_rooms.proofs.registry_laws.counts_agree.Goals as goal

pub returns : goal.returns
returns c = count-agrees
