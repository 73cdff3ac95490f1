use Rattle.sr_check.proofs.output_buffer.put_message.Goals as goal

pub returns-in-Check-clause-ok : goal.returns-in-Check-clause-ok
returns-in-Check-clause-ok c = rw c.in-Check.is c.put_message_line.ensures.ok

pub returns-in-Convert-clause-ok : goal.returns-in-Convert-clause-ok
returns-in-Convert-clause-ok c = rw c.in-Convert.is c.write_message_in.ensures.ok
