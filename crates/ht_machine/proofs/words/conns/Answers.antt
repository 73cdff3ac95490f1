use Rattle.std.proofs.Common.{nat_eq, sym, subst}
use Rattle.std.specs.List.{IsDistinct}
use Rattle.ht_machine.proofs.Once.{none}
use Rattle.ht_machine.proofs.words.conns.Goals as goal

pub returns-then-eq : goal.returns-then-eq
returns-then-eq c = subst (IsDistinct nat_eq) (sym c.new-conns.ensures.items) none

pub loop-part-init : goal.loop-part-init
loop-part-init c = subst (IsDistinct nat_eq) (sym c.new-conns.ensures.items) none
