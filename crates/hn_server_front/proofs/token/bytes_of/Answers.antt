use Rattle.std.proofs.Common.{◌≡◌, ◌∙◌, length, refl}
use Rattle.hn_server_front.proofs.Tokens.{both-are}
use Rattle.hn_server_front.proofs.token.bytes_of.Goals as goal

pub returns : goal.returns
returns c =
    let sixteen : length c.copy_from_slice.new.self ≡ 16 = c.copy_from_slice.ensures.len in
    both-are c.copy_from_slice.new.self c.copy_from_slice-2.new.self sixteen
    ∙ (rw (c.copy_from_slice.ensures.after, c.copy_from_slice-2.ensures.after, c.to_be_bytes.ensures) refl)
