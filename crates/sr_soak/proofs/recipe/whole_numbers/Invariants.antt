use Rattle.std.proofs.Common.{◌≡◌, take}
use Rattle.hv_value.specs.View.{trees_of}
use Rattle.sr_soak.proofs.Numbers.{numbers_in}
use Rattle.sr_soak.proofs.recipe.whole_numbers.Given as goal

abbrev pub invariant-loop-number : goal.invariant-loop-number
invariant-loop-number l = trees_of l.values.items ≡ numbers_in (take l.number-index l.numbers)
