use Rattle.std.proofs.Common.{◌≡◌, ◌==◌, ℕ, List, length, sym, ◌∙◌, ap, subst}
use Rattle.std.proofs.lemmas.Bool.Decides.{Decides-eqb}
use Rattle.std.proofs.lemmas.Slice.Eq.{slice_eq-Decides}
use Rattle.hex.specs.Hex.{IsBytes, decode_of, encode_lower}
use Rattle.hex.proofs.HexLemmas.{decode_of-encode_lower, decode_of-ok, decode_of-same}
use Rattle.ha_audit.proofs.Once.{apart, no_digits, no_reading, read_again}
use Rattle.ha_audit.proofs.line.parse_bytes.Goals as goal

pub returns-then-is_empty-clause-none : goal.returns-then-is_empty-clause-none
returns-then-is_empty-clause-none c = λ bytes is some e.
    no_digits c.args.digits.now bytes ((Decides-eqb (length c.args.digits.now) 0).0 (sym c.is_empty.ensures ∙ c.if-is_empty.true)) some e

pub returns-in-Err-OddLength-clause-none : goal.returns-in-Err-OddLength-clause-none
returns-in-Err-OddLength-clause-none c = λ bytes is some e.
    no_reading c.args.digits.now bytes _ (λ z. cc) c.in-Err-OddLength.ensures.err is e

pub returns-in-Err-InvalidStringLength-clause-none : goal.returns-in-Err-InvalidStringLength-clause-none
returns-in-Err-InvalidStringLength-clause-none c = λ bytes is some e.
    no_reading c.args.digits.now bytes _ (λ z. cc) c.in-Err-InvalidStringLength.ensures.err is e

pub returns-in-Err-InvalidHexCharacter-clause-none : goal.returns-in-Err-InvalidHexCharacter-clause-none
returns-in-Err-InvalidHexCharacter-clause-none c = λ bytes is some e.
    no_reading c.args.digits.now bytes _ (λ z. cc) c.in-Err-InvalidHexCharacter.ensures.err is e

pub returns-then-eq-clause-found : goal.returns-then-eq-clause-found
returns-then-eq-clause-found c =
    let same : c.as_bytes.result.now ≡ c.args.digits.now =
    (slice_eq-Decides Decides-eqb c.as_bytes.result.now c.args.digits.now c.eq.result c.eq.ensures).0 c.if-eq.true in
    let digits : c.args.digits.now ≡ encode_lower c.from_vec.result =
    sym same ∙ c.as_bytes.ensures.value ∙ c.in_ok-spelled.ensures ∙ ap (λ (b : List ℕ). encode_lower b) (c.as_slice.ensures.value ∙ sym c.from_vec.ensures) in
    let read = decode_of-ok c.args.digits.now c.in-Ok.bytes.items c.in-Ok.ensures.ok in (
      digits,
      subst (λ (b : List ℕ). IsBytes b) (sym c.from_vec.ensures) read.3,
      read_again c.args.digits.now c.from_vec.result
          (λ z. apart (length c.args.digits.now == 0) ((Decides-eqb (length c.args.digits.now) 0).1 z) (sym c.is_empty.ensures ∙ c.if-is_empty.false)) digits,
    )

pub returns-else-eq-clause-none : goal.returns-else-eq-clause-none
returns-else-eq-clause-none c = λ bytes is some e.
    let same : c.in-Ok.bytes.items ≡ bytes =
    decode_of-same c.args.digits.now c.in-Ok.bytes.items bytes c.in-Ok.ensures.ok (ap decode_of e ∙ decode_of-encode_lower bytes is) in
    let written : c.as_bytes.result.now ≡ c.args.digits.now =
    c.as_bytes.ensures.value ∙ c.in_ok-spelled.ensures ∙ ap (λ (b : List ℕ). encode_lower b) (c.as_slice.ensures.value ∙ same) ∙ sym e in
    apart c.eq.result ((slice_eq-Decides Decides-eqb c.as_bytes.result.now c.args.digits.now c.eq.result c.eq.ensures).1 written) c.if-eq.false
