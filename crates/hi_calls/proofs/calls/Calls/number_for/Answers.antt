use Rattle.std.proofs.Common.{ap, arith}
use Rattle.hi_calls.specs.Maps.{one_if}
use Rattle.hi_calls.specs.Numbering.{next_number}
use Rattle.hi_calls.proofs.Drawing.{new_live-kind, new_numbers-kind, draws_some}
use Rattle.hi_calls.proofs.calls.Calls.number_for.Goals as goal
use Rattle.hi_calls.proofs.calls.Calls.number_for.Goals.{else-calls-eq0-via-then-calls-eq0+else-uploads-eq0, else-calls-eq0-via-else-calls-eq0}

pub returns-then-saturating_sub-calls-clause-refused : goal.returns-then-saturating_sub-calls-clause-refused
returns-then-saturating_sub-calls-clause-refused c = λ prefix h s target arguments.
    let a = new_live-kind prefix (next_number c.args.kind c.args.uploads h) c.args.kind target arguments c.args.uploads in
    let l = c.live.ensures.live prefix h s in
    let few = s.few_live in
    let x = c.saturating_sub.ensures in
    let y = c.calls_begun-calls.ensures in
    omega arith

pub returns-then-saturating_sub-from-clause-refused : goal.returns-then-saturating_sub-from-clause-refused
returns-then-saturating_sub-from-clause-refused c = λ prefix h s target arguments.
    let a = new_live-kind prefix (next_number c.args.kind c.args.uploads h) c.args.kind target arguments c.args.uploads in
    let b = new_numbers-kind prefix (next_number c.args.kind c.args.uploads h) c.args.kind target arguments c.args.uploads in
    let l = c.live.ensures.live prefix h s in
    let few = s.few_live in
    let d = s.drawn in
    let within = s.within in
    let x = c.saturating_sub.ensures in
    let y = c.calls_begun-calls.ensures in
    let z = c.saturating_sub-2.ensures in
    let e = draws_some c.args.kind c.args.uploads (λ p q. let r = ap one_if p in elim c.else-calls-eq0.branch [ else-calls-eq0-via-then-calls-eq0+else-uploads-eq0 w ↦ omega arith | else-calls-eq0-via-else-calls-eq0 w ↦ omega arith ]) in
    (omega arith, omega arith)

pub returns-clause-place : goal.returns-clause-place
returns-clause-place c = λ prefix h s target arguments.
    let a = new_live-kind prefix (next_number c.args.kind c.args.uploads h) c.args.kind target arguments c.args.uploads in
    let b = new_numbers-kind prefix (next_number c.args.kind c.args.uploads h) c.args.kind target arguments c.args.uploads in
    let l = c.live.ensures.live prefix h s in
    let few = s.few_live in
    let d = s.drawn in
    let within = s.within in
    let x = c.saturating_sub.ensures in
    let y = c.calls_begun-calls.ensures in
    let z = c.saturating_sub-2.ensures in
    let e = draws_some c.args.kind c.args.uploads (λ p q. let r = ap one_if p in elim c.else-calls-eq0.branch [ else-calls-eq0-via-then-calls-eq0+else-uploads-eq0 w ↦ omega arith | else-calls-eq0-via-else-calls-eq0 w ↦ omega arith ]) in
    record { few_live = omega arith; few_numbers = omega arith }
