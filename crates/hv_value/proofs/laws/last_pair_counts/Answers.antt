use Rattle.hv_value.proofs.Lookups.{value_at-map_of}
use Rattle.hv_value.proofs.laws.last_pair_counts.Goals as goal

pub returns : goal.returns
returns c = value_at-map_of
