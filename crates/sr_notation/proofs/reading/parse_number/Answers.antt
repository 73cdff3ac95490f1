use Rattle.std.proofs.Common.{◌≡◌, ℕ, Ok, true, sym, ap, ◌∙◌, subst}
use Rattle.std.proofs.lemmas.Fmt.{IsAscii-decimal, parse-decimal}
use Rattle.std.proofs.lemmas.Str.{IsUtf8-from_ascii}
use Rattle.std.proofs.lemmas.Slice.Eq.{bytes_eq-Decides}
use Rattle.std.specs.Str.{IsUtf8, bytes_eq}
use Rattle.std.specs.Fmt.{decimal}
use Rattle.sr_notation.proofs.reading.parse_number.Goals as goal

pub returns-in_default-clause-none : goal.returns-in_default-clause-none
returns-in_default-clause-none c = λ n small is.
    c.in_default.ensures.cases.0 (subst IsUtf8 (sym is) (IsUtf8-from_ascii (decimal n) (IsAscii-decimal n small)))

pub returns-in_default-parse-clause-none : goal.returns-in_default-parse-clause-none
returns-in_default-parse-clause-none c = λ n small is.
    c.in_default-parse.not-Ok n (parse-decimal 64 n c.in-Ok.text.now c.parse.result small small (c.in-Ok.ensures.cases.0 ∙ is) c.parse.ensures.value.0)

pub returns-clause-none : goal.returns-clause-none
returns-clause-none c = λ n small is.
    let read : c.parse.result ≡ Ok n = parse-decimal 64 n c.in-Ok.text.now c.parse.result small small (c.in-Ok.ensures.cases.0 ∙ is) c.parse.ensures.value.0 in
    let same : c.in-Ok-parse.n ≡ n = cc in
    let printed : c.as_bytes.result.now ≡ c.args.digits.now = c.as_bytes.ensures.value ∙ c.in_ok-printed.ensures.ok ∙ ap (λ (k : ℕ). decimal k) same ∙ sym is in
    let yes : bytes_eq c.as_bytes.result.now c.args.digits.now ≡ true = (bytes_eq-Decides c.as_bytes.result.now c.args.digits.now).1 printed in
    cc
