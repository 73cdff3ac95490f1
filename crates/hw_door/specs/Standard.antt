-- What a clause reads of the lots over the system.
use Rattle.std.specs.Prelude.{ℕ}
use Rattle.hw_door.specs.declared.rand_lots.RandLots.{RandLots}

-- how often they have failed
abbrev pub lots_faults : {R : Type 0} → RandLots R → ℕ
lots_faults lots = lots.faults
