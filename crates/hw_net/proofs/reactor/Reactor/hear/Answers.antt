use Rattle.std.proofs.Common.{rules, refl, Some}
use Rattle.hw_net.proofs.Halting.{on-err}
use Rattle.hw_net.proofs.reactor.Reactor.hear.Goals as goal

pub returns-clause-hears : goal.returns-clause-hears
returns-clause-hears g c =
    let heard = rw c.begin-begin.ensures.others_unchanged at (rw c.in-Some.is at c.in_ok-event.ensures.hears) in
    rw c.remember.ensures (heard.0, heard.1, (Some c.in-Some.event, c.begin-begin.result, (c.begin-begin.new.self.named, search rules, search rules), heard.2, refl, search rules, search rules))

pub returns-in_err-event-clause-halts : goal.returns-in_err-event-clause-halts
returns-in_err-event-clause-halts g c =
    let halted = rw c.begin-begin.ensures.others_unchanged at c.in_err-event.ensures.halts in
    on-err c.from_residual.result (c.begin-begin.result, search rules, halted)
