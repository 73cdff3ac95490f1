use Rattle.hv_value.proofs.Rising.{removed_there, removed_absent}
use Rattle.hv_value.proofs.sorted_set.SortedSet.remove.Goals as goal

pub returns-in-Ok-clause-removed : goal.returns-in-Ok-clause-removed
returns-in-Ok-clause-removed c = λ r. (removed_there c.args.number c.in-Ok.place c.args.self.now.numbers.items c.deref.result.now c.remove.new.self.items c.binary_search.result r c.deref.ensures.value c.binary_search.ensures.position c.in-Ok.is c.remove.ensures.items).0

pub returns-in-Ok-clause-rising : goal.returns-in-Ok-clause-rising
returns-in-Ok-clause-rising c = λ r. (removed_there c.args.number c.in-Ok.place c.args.self.now.numbers.items c.deref.result.now c.remove.new.self.items c.binary_search.result r c.deref.ensures.value c.binary_search.ensures.position c.in-Ok.is c.remove.ensures.items).1

pub returns-in_default-clause-removed : goal.returns-in_default-clause-removed
returns-in_default-clause-removed c = λ r. removed_absent c.args.number c.in_default.field-0 c.args.self.now.numbers.items c.deref.result.now c.binary_search.result r c.deref.ensures.value c.binary_search.ensures.position c.in_default.is
