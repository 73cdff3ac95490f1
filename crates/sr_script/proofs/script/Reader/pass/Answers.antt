use Rattle.sr_script.specs.Asking.{and_then}
use Rattle.sr_script.proofs.script.Reader.pass.Goals as goal

pub returns-in-Some-clause-more : goal.returns-in-Some-clause-more
returns-in-Some-clause-more c = λ yes.
    let next = rw c.in-Some.is at c.in_ok-asked.ensures.next in
    (and_then c.requires.0 c.in-Some.asked, (next c.requires.0 c.requires.1).2)
