use Rattle.std.proofs.Common.{◌≡◌, ◌∙◌, [], Ok, Some, sym, ap, arith}
use Rattle.json.specs.Lex.{tokens}
use Rattle.json.specs.Json.{value}
use Rattle.serde_json.specs.Read.{of_json, converted}
use Rattle.hv_json.proofs.Turns.{judged_whole}
use Rattle.hv_json.proofs.reading.read_quickly.Goals as goal

pub returns : goal.returns
returns c =
    let got = c.in_ok-value.ensures.ok in
    let d = got.0 in
    let bytes = c.args.bytes.now in
    let empty : c.quick.new.reader ≡ [] = grind arith in
    let same : c.in-Ok.text.now ≡ bytes = c.in-Ok.ensures.0 in
    let here : c.in_ok-reader.reader ≡ tokens bytes = c.in_ok-reader.ensures.ok ∙ ap tokens same in
    let begun : converted of_json (value 127 (tokens bytes)) ≡ Some (d, []) = ap (λ ts. converted of_json (value 127 ts)) (sym here) ∙ got.1 ∙ ap (λ r. Some (d, r)) empty in
    judged_whole bytes d c.in-Ok.ensures.1 begun got.2 got.3 ∙ ap Ok (sym got.4)
