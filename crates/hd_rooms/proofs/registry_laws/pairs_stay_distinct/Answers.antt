use Rattle.hd_rooms.proofs.RegistryLemmas.{AreDistinct-with_pair, AreDistinct-filter, IsDistinct-members}
use Rattle.hd_rooms.proofs.registry_laws.pairs_stay_distinct.Goals as goal

pub returns : goal.returns
returns c = record {
  joined = AreDistinct-with_pair;
  left = λ p pairs d. AreDistinct-filter _ pairs d;
  all_left = λ conn pairs d. AreDistinct-filter _ pairs d;
  once = IsDistinct-members;
}
