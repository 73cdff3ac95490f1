use Rattle.std.proofs.Common.{IfOk, sym, ap, ◌∙◌, subst}
use Rattle.hd_trace.specs.declared.trace.ToldStep.TheVariants as tells
use Rattle.hd_trace.specs.Recording.{line_of}
use Rattle.ha_audit.specs.AuditKeeps.{Judges}
use Rattle.ha_audit.proofs.auditor.Audit.step.Goals as goal

pub returns-in-Lend : goal.returns-in-Lend
returns-in-Lend c =
    subst (λ step. IfOk c.lend.result (Judges c.args.self.now c.lend.new.self (line_of c.args.line.side step)))
    (ap tells.Lend (c.bytes-in-Lend-2.ensures ∙ c.in-Lend.bytes-is) ∙ sym c.in-Lend.is) c.lend.ensures

pub returns-in-Take : goal.returns-in-Take
returns-in-Take c =
    subst (λ step. IfOk c.take.result (Judges c.args.self.now c.take.new.self (line_of c.args.line.side step)))
    (ap tells.Take c.in-Take.words-is ∙ sym c.in-Take.is) c.take.ensures
