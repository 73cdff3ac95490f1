use Rattle.hi_calls.proofs.Drawing.{call_made, length-ids_after}
use Rattle.hi_calls.proofs.laws.calls_are_made.Goals as goal

pub returns : goal.returns
returns c = λ t prefix last k target arguments uploads name. (call_made t prefix last k target arguments uploads name, length-ids_after prefix _ uploads)
