-- What a poll is answered has at most so many bytes.
use Rattle.std.specs.Prelude.{All}
use Rattle.std.proofs.Common.{◌≤◌, ◌+◌, ℕ, suc, List, [], ◌∷◌, length, arith, length-append}
use Rattle.hd_delivery.specs.Numbers.{most_framing}
use Rattle.hd_delivery.specs.Frames.{LinkFrame}
use Rattle.hd_delivery.specs.Histories.{EndEvent, Lent, Config, codec_of}
use Rattle.hd_delivery.specs.Bytes.{Wire, spelling_of}
use Rattle.hd_server.specs.Numbers.{most_frame, most_polled}
use Rattle.hd_server.specs.Serves.{LendsUpTo}
use Rattle.hd_server.specs.Laws.{BodiesAreBounded}

-- with so many bytes before
bounded_from : (wire : Wire) (c : Config) (s : List EndEvent) (size : ℕ) (fs : List LinkFrame)
    → All (λ f. length (wire.spell (codec_of c s) f) ≤ most_frame + most_framing) fs
    → LendsUpTo wire c s size fs → size ≤ most_polled → size + length (spelling_of wire (codec_of c s) fs) ≤ most_polled
bounded_from wire c s size [] short lends e = omega (arith, e)
bounded_from wire c s size (f ∷ fs) short (is_due, few, lends) e =
    let one : length (wire.spell (codec_of c s) f) ≤ most_frame + most_framing = short 0 f (omega arith) in
    let rest = bounded_from wire c (Lent f ∷ s) (size + length (wire.spell (codec_of c s) f)) fs (λ k d lt. short (suc k) d (omega (arith, lt))) lends (omega (arith, few, one)) in
    let all = length-append (wire.spell (codec_of c s) f) (spelling_of wire (codec_of c s) fs) in
    omega (arith, rest, all)

pub bodies_are_bounded : BodiesAreBounded
bodies_are_bounded wire c s fs short lends = let all = bounded_from wire c s 0 fs short lends (omega arith) in omega (arith, all)
