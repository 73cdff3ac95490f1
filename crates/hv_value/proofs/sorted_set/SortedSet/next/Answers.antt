use Rattle.hv_value.proofs.Rising.{next_found, next_missed}
use Rattle.hv_value.proofs.sorted_set.SortedSet.next.Goals as goal

pub returns-in-Ok : goal.returns-in-Ok
returns-in-Ok c = next_found c.args.passed c.in-Ok.place c.args.self.now.numbers.items c.deref.result.now c.deref-in-Ok.result.now c.binary_search.result c.get.result c.copied.result c.deref.ensures.value c.deref-in-Ok.ensures.value c.binary_search.ensures.position c.in-Ok.is c.get.ensures.lookup c.copied.ensures

pub returns-in-Err : goal.returns-in-Err
returns-in-Err c = next_missed c.args.passed c.in-Err.place c.args.self.now.numbers.items c.deref.result.now c.deref-in-Err.result.now c.binary_search.result c.get-in-Err.result c.copied-in-Err.result c.deref.ensures.value c.deref-in-Err.ensures.value c.binary_search.ensures.position c.in-Err.is c.get-in-Err.ensures.lookup c.copied-in-Err.ensures
