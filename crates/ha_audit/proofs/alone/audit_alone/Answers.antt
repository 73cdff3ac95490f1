use Rattle.std.proofs.Common.{◌≡◌, ◌∷◌, [], List, Some, IfSome, IfNone, sym, ◌∙◌, subst}
use Rattle.hd_trace.specs.declared.trace.TraceLine.{TraceLine}
use Rattle.ha_audit.specs.AloneVerdict.{StandsAlone}
use Rattle.ha_audit.specs.Grammar.{IsHead}
use Rattle.ha_audit.specs.Reading.{HasRead, HasLines}
use Rattle.ha_audit.proofs.AloneVerdicts.{audited_alone}
use Rattle.ha_audit.proofs.alone.audit_alone.Goals as goal

pub loop-reader-init : goal.loop-reader-init
loop-reader-init c = (
  [],
  (
    c.start-reader.ensures,
    λ side is.
        let same : c.args.side ≡ side = (let z : Some c.args.side ≡ Some side = sym c.requires ∙ is in cc) in
        subst (λ s. StandsAlone c.args.trace.now.head s [] c.in_ok-progress.progress) same
        (subst (λ head. IsHead head → StandsAlone head c.args.side [] c.in_ok-progress.progress) c.head.ensures c.in_ok-progress.ensures
        c.start-reader.ensures.begins.front.begun),
  ),
)

pub loop-reader-preserved : goal.loop-reader-preserved
loop-reader-preserved c =
    let trace = c.args.trace.now in
    let lines = c.loop-reader.invariant.0 in
    let goes = subst
    (λ o. IfSome o
    (λ told. (lines : List TraceLine) → HasRead c.loop-reader.reader trace lines → HasRead c.next.new.self trace
    (told ∷ lines))) c.in-Some.is c.in_ok-line.ensures.next in
    let read = goes lines c.loop-reader.invariant.1.0 in (
      c.in-Some.line ∷ lines,
      (
        read,
        λ side is. c.in_ok-step.ensures trace.head side lines (c.number.ensures.lines trace.only trace.text trace.head (c.in-Some.line ∷ lines) read)
            (c.loop-reader.invariant.1.1 side is),
      ),
    )

pub returns : goal.returns
returns c =
    let trace = c.args.trace.now in
    let lines = c.loop-reader.invariant.0 in
    let ends = subst
    (λ o. IfNone o
    ((lines : List TraceLine) → HasRead c.loop-reader.reader trace lines → HasLines trace lines)) c.in_default.is c.in_ok-line.ensures.end in
    audited_alone c.traces_are_told_once.ensures c.verdict_alone_is_one.ensures c.has_wire.ensures c.args.side trace lines c.verdict.result
    (ends lines c.loop-reader.invariant.1.0) (c.verdict.ensures trace.head c.args.side lines (c.loop-reader.invariant.1.1 c.args.side c.requires))
