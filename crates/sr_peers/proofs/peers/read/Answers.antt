use Rattle.std.proofs.Common.{◌≡◌, ℕ, ◌≤◌, ◌∙◌, List, ◌++◌, min, length, take, drop, refl, sym, ap, arith}
use Rattle.hd_delivery.specs.Bytes.{bytes_on}
use Rattle.hd_calls.specs.Peers.{byte_steps}
use Rattle.sr_peers.specs.Runs.{read_in_all}
use Rattle.sr_peers.proofs.Reading.{left_after}
use Rattle.sr_peers.proofs.peers.read.Goals as goal

pub returns : goal.returns
returns g c t h plays l lent at few bytes_are none =
    let was : List ℕ = c.args.bytes.now.items in
    let front : List ℕ = bytes_on l (byte_steps t h) in
    let end : ℕ = c.end_of_read-end.result in
    let len_is : c.len-len.result ≡ length was = omega (arith, c.len-len.ensures, c.args.bytes.now.ok.0) in
    let all = read_in_all c.args.count (length front) lent in
    let piece : List ℕ = take end c.deref.result.now in
    let piece_is : piece ≡ take end was = ap (take end) c.deref.ensures.value in
    let slice : piece ≡ drop (length front) all =
    piece_is ∙ ap (take end) bytes_are ∙ c.end_of_read-end.ensures.reads (length front) lent (ap length (sym bytes_are) ∙ sym len_is) in
    let done = c.in_ok-fed.ensures t h plays l all at slice none in
    let within : end ≤ length was = omega (arith, c.end_of_read-end.ensures.within, len_is) in
    let least : c.min.result ≡ min c.in_ok-fed.fed (length was) = c.min.ensures ∙ ap (min c.in_ok-fed.fed) len_is in
    let dropped : ◌≡◌ {A = List ℕ} c.drop_front.new.bytes.items (drop (min c.in_ok-fed.fed (length was)) was) = ◌∙◌ {A = List ℕ} c.drop_front.ensures (ap (λ n. drop n was) least) in
    let left = left_after c.in_ok-fed.fed end (length front) lent was piece (bytes_on l (byte_steps t (done.0 ++ h))) bytes_are within piece_is done.1.3 front refl done.1.2 in
    (done.0, (done.1.0, done.1.1, dropped ∙ left, sym done.1.4))
