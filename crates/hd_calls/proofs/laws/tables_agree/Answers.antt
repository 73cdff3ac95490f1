use Rattle.hd_calls.proofs.Tables.{calls_agree, jobs_agree}
use Rattle.hd_calls.proofs.laws.tables_agree.Goals as goal

pub returns : goal.returns
returns c t h = (calls_agree h, jobs_agree t h)
