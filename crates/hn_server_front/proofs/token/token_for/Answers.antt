use Rattle.std.proofs.Common.{◌≡◌, ℕ, ◌<◌, slice_index, ◌∙◌, rules, length, arith, ap}
use Rattle.std.specs.String.{string_bytes}
use Rattle.hd_server.specs.Texts.{letters}
use Rattle.hn_server_front.proofs.Tokens.{encode_of-is}
use Rattle.hn_server_front.proofs.token.token_for.Goals as goal

pub returns : goal.returns
returns c =
    let fits : (i : ℕ) → slice_index c.bytes_of.result i < 256 = λ i. search (rules, c.bytes_of.type_inv) in
    let len : length c.bytes_of.result ≡ 24 = search (rules, c.bytes_of.type_inv) in
    let bytes : c.into_bytes.result.items ≡ string_bytes c.in_ok-text.text = ap (λ v. v.items) c.into_bytes.ensures.value in
    let spelled : string_bytes c.in_ok-text.text ≡ letters c.bytes_of.result =
    c.in_ok-text.ensures.text ∙ encode_of-is c.bytes_of.result fits (omega (arith, len)) in
    c.from_vec.ensures ∙ bytes ∙ spelled ∙ ap letters c.bytes_of.ensures
