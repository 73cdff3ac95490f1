use Rattle.std.proofs.Common.{sym, subst}
use Rattle.ha_audit.specs.AuditKeeps.{Judges}
use Rattle.ha_audit.proofs.AuditPassing.{stands_broken, stands_off}
use Rattle.ha_audit.proofs.verdict.Progress.step.Goals as goal

pub returns-then-is_some : goal.returns-then-is_some
returns-then-is_some c = λ head lines at. stands_broken head lines c.args.line c.args.self.now.audit c.args.self.now.broken (sym c.if-is_some.ensures)

pub returns-in-Some : goal.returns-in-Some
returns-in-Some c = λ head lines at.
    stands_off head lines c.args.line c.args.self.now.audit c.step.new.self c.args.self.now.broken c.in-Some.rule c.args.number
    (sym c.if-is_some.ensures)
    (subst (λ v. Judges c.args.self.now.audit c.step.new.self c.args.line v) c.in-Some.is c.in_ok-rule.ensures) at
