use Rattle.std.proofs.Common.{sym, ◌∙◌}
use Rattle.he_end.proofs.Read.{ack_unused, ack_read, ack_beyond}
use Rattle.he_end.proofs.session.Session.take_ack.Goals as goal

pub returns-then-not-is_resumable-clause-made : goal.returns-then-not-is_resumable-clause-made
returns-then-not-is_resumable-clause-made c cc' k r e a = ack_unused cc' c.args.self.now k c.args.upto r e a (sym (c.is_resumable.ensures cc' k r) ∙ c.if-not-is_resumable.true)

pub returns-in-Ok-clause-made : goal.returns-in-Ok-clause-made
returns-in-Ok-clause-made c cc' k r e a = let ok = c.in-Ok.ensures.ok in
    rw ok.1 (ack_read cc' c.args.self.now k c.args.upto r e a (sym (c.is_resumable.ensures cc' k r) ∙ c.if-not-is_resumable.false) ok.0)

pub returns-in-Err-clause-made : goal.returns-in-Err-clause-made
returns-in-Err-clause-made c cc' k r e a = let err = c.in-Err.ensures.err in let refuses = c.refuse_frame.ensures in
    rw (refuses.value, refuses.after, err.1, err.2) (ack_beyond cc' c.args.self.now k c.args.upto r e a (sym (c.is_resumable.ensures cc' k r) ∙ c.if-not-is_resumable.false) err.0)
