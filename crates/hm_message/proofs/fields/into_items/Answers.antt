use Rattle.std.proofs.Common.{refl}
use Rattle.hm_message.proofs.Collected.{trees_in-trees}
use Rattle.hm_message.proofs.fields.into_items.Goals as goal

pub returns-in-List : goal.returns-in-List
returns-in-List c = rw (c.in-List.is, trees_in-trees c.in-List.items) refl
