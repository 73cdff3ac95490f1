use Rattle.hv_value.specs.View.{entries}
use Rattle.hv_value.proofs.Lookups.{value_at-map_of}
use Rattle.hv_value.proofs.value.Value.map_from.Goals as goal

pub returns-clause-last : goal.returns-clause-last
returns-clause-last c =
    λ key. rw c.in_ok-of.ensures.ok (value_at-map_of (entries c.args.pairs.items) key)
