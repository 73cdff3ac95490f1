use Rattle.std.proofs.Common.{◌+◌, ◌^◌, ◌<◌, refl, arith}
use Rattle.hd_delivery.proofs.worlds.what_may_not_come.Goals as goal

pub returns-clause-lower_link : goal.returns-clause-lower_link
returns-clause-lower_link c now may = let h : 2 ^ 32 + 5 < 1 = may.named (2 ^ 32 + 5) refl in omega (arith, h)
