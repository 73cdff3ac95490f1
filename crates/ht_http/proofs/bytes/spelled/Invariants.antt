use Rattle.std.proofs.Common.{length}
use Rattle.ht_http.proofs.bytes.spelled.Given as goal

abbrev pub decreases-loop-rest : goal.decreases-loop-rest
decreases-loop-rest l = length l.rest
