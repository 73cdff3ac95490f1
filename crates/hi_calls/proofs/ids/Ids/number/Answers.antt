use Rattle.std.proofs.Common.{◌≡◌, ℕ, ◌≤◌, true, false, Option, Some, None, sym, ap, ◌∙◌, subst, arith}
use Rattle.std.specs.Prelude.{not, IfNone}
use Rattle.std.specs.Result.{result_ok}
use Rattle.std.specs.Fmt.{decimal}
use Rattle.std.proofs.lemmas.Fmt.{parse-decimal}
use Rattle.std.proofs.lemmas.Slice.Eq.{bytes_eq-Decides}
use Rattle.hd_calls.specs.Numbers.{most_numbers}
use Rattle.hi_calls.specs.Numbering.{id_with}
use Rattle.hi_calls.proofs.Drawing.{written_digits}
use Rattle.hi_calls.proofs.ids.Ids.number.Goals as goal
use Rattle.hi_calls.proofs.ids.Ids.number.Goals.{In_ok-written}

-- what is written after the prefix, if the id is that of a number
written : (c : In_ok-written) (n : ℕ) → n ≤ most_numbers → id_with c.args.self.now.prefix n ≡ c.args.id.now → c.in_ok-written.written.now ≡ decimal n
written c n l e =
    let q = c.in_ok-written.ensures.cases in
    written_digits c.args.self.now.prefix c.args.id.now c.as_str.result.now c.as_str-2.result.now c.in_ok-written.written.now q.0 n c.as_str.ensures c.as_str-2.ensures q.1.1 q.2 l e

pub returns-in_err-number-clause-none : goal.returns-in_err-number-clause-none
returns-in_err-number-clause-none c =
    subst (λ r. IfNone r ((n : ℕ) → n ≤ most_numbers → id_with c.args.self.now.prefix n ≡ c.args.id.now → ⊥)) (sym c.from_residual-in_err-number.ensures)
    (λ n l e.
    let w = written (goal.at.returns-in_err-number-clause-none c).In_ok-written n l e in
    let r = parse-decimal 64 n c.in_ok-written.written.now c.parse.result (omega arith) (omega arith) w c.parse.ensures.value.0 in
    let z : ◌≡◌ {A = Option ℕ} None (Some n) = c.in_err-number.ensures.value ∙ ap result_ok r in
    cc)

pub returns-then-number-gt-MOST_NUMBERS-clause-none : goal.returns-then-number-gt-MOST_NUMBERS-clause-none
returns-then-number-gt-MOST_NUMBERS-clause-none c =
    λ n l e.
    let w = written (goal.at.returns-then-number-gt-MOST_NUMBERS-clause-none c).In_ok-written n l e in
    let r = parse-decimal 64 n c.in_ok-written.written.now c.parse.result (omega arith) (omega arith) w c.parse.ensures.value.0 in
    let z : ◌≡◌ {A = Option ℕ} (Some c.in_ok-number.number) (Some n) = c.in_ok-number.ensures.value ∙ ap result_ok r in
    let y : c.in_ok-number.number ≡ n = cc in
    omega arith

pub returns-then-ne-clause-none : goal.returns-then-ne-clause-none
returns-then-ne-clause-none c =
    λ n l e.
    let w = written (goal.at.returns-then-ne-clause-none c).In_ok-written n l e in
    let r = parse-decimal 64 n c.in_ok-written.written.now c.parse.result (omega arith) (omega arith) w c.parse.ensures.value.0 in
    let z : ◌≡◌ {A = Option ℕ} (Some c.in_ok-number.number) (Some n) = c.in_ok-number.ensures.value ∙ ap result_ok r in
    let y : c.in_ok-number.number ≡ n = cc in
    let same : c.format.result.now ≡ c.in_ok-written.written.now = c.format.ensures.text ∙ (ap decimal y ∙ sym w) in
    let equal = (bytes_eq-Decides c.format.result.now c.in_ok-written.written.now).1 same in
    let x : true ≡ false = c.if-ne.ensures ∙ ap not equal in
    cc
