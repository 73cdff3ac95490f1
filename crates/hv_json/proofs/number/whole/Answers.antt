use Rattle.std.proofs.Common.{rules, ◌≡◌, ◌∙◌, drop, get_or, false, true, ◌==◌, Some, refl, sym, ap, arith, take_all, length-drop}
use Rattle.fast_float.specs.Text.{scan}
use Rattle.serde_json.specs.Data.{unsigned, negative}
use Rattle.serde_json.specs.Read.{number_of, number_from}
use Rattle.hv_value.specs.Tree.{int}
use Rattle.hv_json.proofs.number.whole.Goals as goal

pub returns-then-has_minus : goal.returns-then-has_minus
unfolding number_of
returns-then-has_minus c =
    let s = c.as_bytes-bytes.result.now in
    let signed : (get_or s 0 0 == 45) ≡ true = sym c.if-has_minus.ensures.value in
    let parts : c.scan.result ≡ scan (drop 1 s) = c.scan.ensures.parts ∙ ap scan (take_all _ (drop 1 s) (omega (arith, length-drop 1 s))) in
    let read : number_from true (scan (drop 1 s)) ≡ number_of s = rw signed in
    let got : number_from true c.scan.result ≡ Some (negative c.in_ok-n.n) = c.in_ok-n.ensures in
    let same : c.from.result ≡ c.in_ok-n.n = search rules in
    (negative c.in_ok-n.n, sym (ap (number_from true) parts ∙ read ∙ ap number_of c.as_bytes-bytes.ensures.value) ∙ got, refl, ap int (sym same))

pub returns : goal.returns
unfolding number_of
returns c =
    let s = c.as_bytes-bytes.result.now in
    let plain : (get_or s 0 0 == 45) ≡ false = sym c.if-has_minus.ensures.value in
    let read : number_from false (scan s) ≡ number_of s = rw plain in
    let got : number_from false c.scan-2.result ≡ Some (unsigned c.in_ok-n-2.n) = c.in_ok-n-2.ensures in
    (unsigned c.in_ok-n-2.n, sym (ap (number_from false) c.scan-2.ensures.parts ∙ read ∙ ap number_of c.as_bytes-bytes.ensures.value) ∙ got, refl, ap int (sym c.from-2.ensures))
