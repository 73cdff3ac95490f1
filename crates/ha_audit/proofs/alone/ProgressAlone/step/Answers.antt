use Rattle.std.proofs.Common.{sym, ◌∙◌, subst}
use Rattle.ha_audit.specs.AloneKeeps.{JudgesAlone}
use Rattle.ha_audit.proofs.AloneVerdicts.{still_broken, broken_now}
use Rattle.ha_audit.proofs.alone.ProgressAlone.step.Goals as goal

pub returns-then-is_some : goal.returns-then-is_some
returns-then-is_some c = λ head side lines count stands. still_broken head side lines c.args.line c.args.self.now
    (sym c.is_some.ensures ∙ c.if-is_some.true) stands

pub returns-in-Some : goal.returns-in-Some
returns-in-Some c = λ head side lines count stands.
    broken_now head side lines c.args.line c.args.self.now
    (sym c.is_some.ensures ∙ c.if-is_some.false) c.step.new.self c.args.number c.in-Some.rule count
    (subst (JudgesAlone c.args.self.now.audit c.step.new.self c.args.line.step) c.in-Some.is c.in_ok-rule.ensures) stands
