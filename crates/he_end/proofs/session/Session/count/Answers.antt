use Rattle.std.proofs.Common.{sym, ◌∙◌, Ok, Err}
use Rattle.he_end.proofs.Read.{message_early, message_read}
use Rattle.he_end.proofs.session.Session.count.Goals as goal

pub returns-then-is_early-clause-made : goal.returns-then-is_early-clause-made
returns-then-is_early-clause-made c cc' k m r e a = message_early cc' c.args.self.now k m r e a (sym (c.is_early.ensures cc' k a.link r a.at) ∙ c.if-is_early.true)

pub returns-in-Ok-clause-made : goal.returns-in-Ok-clause-made
returns-in-Ok-clause-made c cc' k m r e a = let counts = c.in-Ok.ensures in
    rw counts.after (message_read cc' c.args.self.now k m (Ok c.in-Ok.counted) r e a (sym (c.is_early.ensures cc' k a.link r a.at) ∙ c.if-is_early.false) counts.answer)

pub returns-in-Err-clause-made : goal.returns-in-Err-clause-made
returns-in-Err-clause-made c cc' k m r e a = let counts = c.in-Err.ensures in let refuses = c.refuse_frame.ensures in
    rw (refuses.value, refuses.after, counts.after) (message_read cc' c.args.self.now k m (Err c.in-Err.gap) r e a (sym (c.is_early.ensures cc' k a.link r a.at) ∙ c.if-is_early.false) counts.answer)
