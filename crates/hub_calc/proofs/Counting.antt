-- One more item of a count.
use Rattle.std.proofs.Common.{◌≡◌, ℕ, suc, ◌+◌, ◌-◌, ◌<◌, refl, arith}
use Rattle.hd_calls.specs.declared.vocabulary.Input.{Input}
use Rattle.hub_calc.specs.declared.job.Remaining.TheVariants as remaining
use Rattle.hub_calc.specs.Jobs.{acts_left}
use Rattle.hub_calc.specs.Table.{Acts, item, turn}

pub counts : (done last : ℕ) (i : Input) → done < last
    → (Acts (acts_left (remaining.Count (done + 1) last)), item (done + 1)) ≡ turn (Acts (acts_left (remaining.Count done last))) i
counts done last i h = let e : last - done ≡ suc (last - (done + 1)) = omega arith in rw e refl
