use Rattle.hv_value.proofs.Orders.{keys_of_pairs-pairs}
use Rattle.hv_value.proofs.value.Entries.depth.Goals as goal

pub returns-clause-in_order : goal.returns-clause-in_order
returns-clause-in_order c =
    rw (← c.self.view_is, keys_of_pairs-pairs) (c.self.invariant.2, c.self.invariant.3)
