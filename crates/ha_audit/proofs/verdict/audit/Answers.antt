use Rattle.std.proofs.Common.{[], ◌∷◌, List, IfNone, IfSome, subst}
use Rattle.hd_trace.specs.declared.trace.TraceLine.{TraceLine}
use Rattle.ha_audit.specs.AuditVerdict.{Stands}
use Rattle.ha_audit.specs.Grammar.{IsHead}
use Rattle.ha_audit.specs.Reading.{HasLines, HasRead}
use Rattle.ha_audit.proofs.AuditPassing.{audited}
use Rattle.ha_audit.proofs.verdict.audit.Goals as goal

pub loop-reader-init : goal.loop-reader-init
loop-reader-init c =
    let read = c.start-reader.ensures in
    let stands = subst (λ head. IsHead head → Stands head [] c.in_ok-progress.progress) c.head.ensures c.in_ok-progress.ensures in
    ([], (read, stands read.begins.front.begun))

pub loop-reader-preserved : goal.loop-reader-preserved
loop-reader-preserved c =
    let trace = c.args.trace.now in
    let so = c.loop-reader.invariant in
    let lines = c.in-Some.line ∷ so.0 in
    let next = subst (λ v. IfSome v (λ told. (ls : List TraceLine) → HasRead c.loop-reader.reader trace ls → HasRead c.next.new.self trace (told ∷ ls)))
    c.in-Some.is c.in_ok-line.ensures.next in
    let read : HasRead c.next.new.self trace lines = next so.0 so.1.0 in
    let number = c.number-number.ensures.lines trace.only trace.text trace.head lines read in
    (lines, (read, c.in_ok-step.ensures trace.head so.0 number so.1.1))

pub returns : goal.returns
returns c =
    let trace = c.args.trace.now in
    let so = c.loop-reader.invariant in
    let end = subst (λ v. IfNone v ((ls : List TraceLine) → HasRead c.loop-reader.reader trace ls → HasLines trace ls)) c.in_default.is
    c.in_ok-line.ensures.end in
    audited c.traces_are_told_once.ensures c.verdict_is_one.ensures c.has_wire.ensures trace so.0 c.verdict.result (end so.0 so.1.0)
    (c.verdict.ensures trace.head so.0 so.1.1)
