use Rattle.std.proofs.Common.{◌≡◌, take}
use Rattle.hd_calls.specs.Weights.{ids_weight}
use Rattle.hj_jobs.specs.Counted.{counted}
use Rattle.hj_jobs.proofs.weight.texts_count.Given as goal

abbrev pub invariant-loop-text : goal.invariant-loop-text
invariant-loop-text l = l.total ≡ counted (ids_weight (take l.text-index l.texts))
