use Rattle.std.proofs.Common.{take}
use Rattle.hj_jobs.specs.Ids.{ClosesThose}
use Rattle.hj_jobs.proofs.ids.Ids.close_those_of.Given as goal

-- those that were looked at are closed, if they are the job's
abbrev pub invariant-loop-stream : goal.invariant-loop-stream
invariant-loop-stream l = ClosesThose l.fn.self l.self l.job (take l.stream-index l.streams)
