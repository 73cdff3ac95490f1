use Rattle.std.proofs.Common.{subst, Err}
use Rattle.he_end.proofs.Nexts.{Made, taken}
use Rattle.he_end.proofs.end.End.take.Goals as goal

pub returns-in-Ok-clause-made : goal.returns-in-Ok-clause-made
returns-in-Ok-clause-made c wire config h st one = subst (Made wire config h _) c.in-Ok.is
    (taken c.facts_hold.ensures c.wire_is_sound.ensures c.next_is_read.ensures c.unread_moves.ensures c.args.self.now c.take.new.self c.pass.new.self c.take.ensures.limits
    c.requires.reading c.requires.shaken c.pass.ensures.past wire config h st c.args.read c.take.result c.take.ensures.made c.take.ensures.codec one)

pub returns-in-Err-Gap-clause-made : goal.returns-in-Err-Gap-clause-made
returns-in-Err-Gap-clause-made c wire config h st one = subst (λ e. Made wire config h (record c.args.self.now { session = c.take.new.self; splitter = c.pass.new.self }) (Err e)) c.in-Err-Gap.field-0-is (subst (Made wire config h _) c.in-Err-Gap.is
    (taken c.facts_hold.ensures c.wire_is_sound.ensures c.next_is_read.ensures c.unread_moves.ensures c.args.self.now c.take.new.self c.pass.new.self c.take.ensures.limits
    c.requires.reading c.requires.shaken c.pass.ensures.past wire config h st c.args.read c.take.result c.take.ensures.made c.take.ensures.codec one))

pub returns-in-Err-AckBeyond-clause-made : goal.returns-in-Err-AckBeyond-clause-made
returns-in-Err-AckBeyond-clause-made c wire config h st one = subst (λ e. Made wire config h (record c.args.self.now { session = c.take.new.self; splitter = c.pass.new.self }) (Err e)) c.in-Err-AckBeyond.field-0-is (subst (Made wire config h _) c.in-Err-AckBeyond.is
    (taken c.facts_hold.ensures c.wire_is_sound.ensures c.next_is_read.ensures c.unread_moves.ensures c.args.self.now c.take.new.self c.pass.new.self c.take.ensures.limits
    c.requires.reading c.requires.shaken c.pass.ensures.past wire config h st c.args.read c.take.result c.take.ensures.made c.take.ensures.codec one))
