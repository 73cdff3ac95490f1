use Rattle.std.proofs.Common.{refl}
use Rattle.hd_trace.proofs.Giving.{gives_by}
use Rattle.hd_trace.proofs.laws.takes_are_marked.Goals as goal

pub returns : goal.returns
returns c config k = record { number = λ l at. rw at refl; gives = gives_by config k; silence = λ now. refl; stands = refl }
