use Rattle.std.proofs.Common.{take}
use Rattle.hj_jobs.specs.Ids.{AreOpenable, Opens}
use Rattle.hj_jobs.proofs.ids.Ids.open.Given as goal

-- those before this place are open
abbrev pub invariant-loop-place : goal.invariant-loop-place
invariant-loop-place l = record {
  openable : AreOpenable l.fn.self (take l.place l.streams);
  opened : Opens l.fn.self l.self l.job (take l.place l.streams);
}
