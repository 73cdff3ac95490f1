use Rattle.std.proofs.Common.{sym, ◌∙◌}
use Rattle.he_end.proofs.Read.{sequence_unused, sequence_gap, sequence_read, resumes}
use Rattle.he_end.proofs.session.Session.take_sequence.Goals as goal

pub returns-then-not-is_resumable-clause-made : goal.returns-then-not-is_resumable-clause-made
returns-then-not-is_resumable-clause-made c told tells cc' k r e a = sequence_unused cc' c.args.self.now k c.args.first told r e a (sym (c.is_resumable.ensures cc' k r) ∙ c.if-not-is_resumable.true)

pub returns-in-Err-clause-made : goal.returns-in-Err-clause-made
returns-in-Err-clause-made c told tells cc' k r e a = let err = c.in-Err.ensures.err in let refuses = c.refuse_frame.ensures in
    rw (refuses.value, refuses.after, err.1, err.2) (sequence_gap cc' c.args.self.now k c.args.first told r e a (sym (c.is_resumable.ensures cc' k r) ∙ c.if-not-is_resumable.false) err.0)

pub returns-then-three-clause-made : goal.returns-then-three-clause-made
returns-then-three-clause-made c told tells cc' k r e a = let ok = c.in_default.ensures.ok in
    resumes cc' c.args.self.now c.resume.new.self k c.args.first told c.args.received c.sequence.new.self c.resume.result r e a
    (sym (c.is_resumable.ensures cc' k r) ∙ c.if-not-is_resumable.false) (sym (c.is_three-three.ensures cc' k r) ∙ c.if-three.true) ok.0 tells ok.1 c.resume.ensures.ok c.resume.ensures.err

pub returns-else-three-clause-made : goal.returns-else-three-clause-made
returns-else-three-clause-made c told tells cc' k r e a = let ok = c.in_default.ensures.ok in
    rw ok.1 (sequence_read cc' c.args.self.now k c.args.first told r e a
    (sym (c.is_resumable.ensures cc' k r) ∙ c.if-not-is_resumable.false) (sym (c.is_three-three.ensures cc' k r) ∙ c.if-three.false) ok.0)
