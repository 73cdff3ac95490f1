use Rattle.std.proofs.Common.{◌≡◌, take}
use Rattle.hk_keeper.proofs.copies.copy_users.Given as goal

abbrev pub invariant-loop-token : goal.invariant-loop-token
invariant-loop-token l = l.copies.items ≡ take l.token-index l.users
