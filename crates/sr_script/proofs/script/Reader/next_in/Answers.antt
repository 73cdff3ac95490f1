use Rattle.sr_script.proofs.script.Reader.next_in.Goals as goal

pub returns-in-Ok-clause-next : goal.returns-in-Ok-clause-next
returns-in-Ok-clause-next c = rw c.text.ensures.value at c.in-Ok.ensures.next

pub returns-in-Ok-clause-end : goal.returns-in-Ok-clause-end
returns-in-Ok-clause-end c = rw c.text.ensures.value at c.in-Ok.ensures.end
