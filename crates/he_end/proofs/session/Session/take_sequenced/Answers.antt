use Rattle.std.proofs.Common.{◌∙◌, ap, Ok, Err}
use Rattle.hq_resend.specs.declared.intake.Counted.TheVariants.{Fresh, Duplicate, Early}
use Rattle.he_end.proofs.Read.{counted_so}
use Rattle.he_end.proofs.session.Session.take_sequenced.Goals as goal

pub returns-in-Ok-Fresh-clause-made : goal.returns-in-Ok-Fresh-clause-made
returns-in-Ok-Fresh-clause-made c cc' k r e a = counted_so cc' c.count.new.self k c.args.message c.count.result (Ok (Fresh c.in-Ok-Fresh.field-0-0)) (c.in-Ok-Fresh.is ∙ ap Ok c.in-Ok-Fresh.field-0-is) (c.count.ensures.made cc' k c.args.message r e a)

pub returns-in-Ok-Duplicate-clause-made : goal.returns-in-Ok-Duplicate-clause-made
returns-in-Ok-Duplicate-clause-made c cc' k r e a = counted_so cc' c.count.new.self k c.args.message c.count.result (Ok (Duplicate c.in-Ok-Duplicate.number)) (c.in-Ok-Duplicate.is ∙ ap Ok c.in-Ok-Duplicate.field-0-is) (c.count.ensures.made cc' k c.args.message r e a)

pub returns-in-Ok-Early-clause-made : goal.returns-in-Ok-Early-clause-made
returns-in-Ok-Early-clause-made c cc' k r e a = counted_so cc' c.count.new.self k c.args.message c.count.result (Ok Early) (c.in-Ok-Early.is ∙ ap Ok c.in-Ok-Early.field-0-is) (c.count.ensures.made cc' k c.args.message r e a)

pub returns-in-Err-clause-made : goal.returns-in-Err-clause-made
returns-in-Err-clause-made c cc' k r e a = counted_so cc' c.count.new.self k c.args.message c.count.result (Err c.in-Err.refused) c.in-Err.is (c.count.ensures.made cc' k c.args.message r e a)
