-- A key is four bytes.
use Rattle.std.proofs.Common.{◌≡◌, ℕ, zero, suc, ◌*◌, ◌<◌, List, [], ◌∷◌, ◌++◌, length, slice_index, All, refl, arith, length-append, length-take}
use Rattle.std.specs.Int.{w32, w64, to_be_bytes, byte_at}
use Rattle.std.proofs.lemmas.List.Elements.{All-nil, All-cons, All-append, All-take}
use Rattle.sha1.specs.Sha1.{sha1, digest_bytes}
use Rattle.websocket.specs.FrameHeader.{IsMask}
use Rattle.std.proofs.Common.{Some}
use Rattle.hw_socket.specs.Masks.{key_of}

abbrev IsByte : ℕ → Type 0
IsByte b = b < 256

byte_small : (k x : ℕ) → byte_at k x < 256
byte_small zero x = omega arith
byte_small (suc i) x = omega arith

word_bytes : (x : ℕ) → All IsByte (to_be_bytes w32 x)
word_bytes x =
    let low = All-cons IsByte (byte_at 0 x) [] (byte_small 0 x) (All-nil IsByte) in
    let two = All-cons IsByte (byte_at 1 x) (byte_at 0 x ∷ []) (byte_small 1 x) low in
    let three = All-cons IsByte (byte_at 2 x) (byte_at 1 x ∷ byte_at 0 x ∷ []) (byte_small 2 x) two in
    All-cons IsByte (byte_at 3 x) (byte_at 2 x ∷ byte_at 1 x ∷ byte_at 0 x ∷ []) (byte_small 3 x) three

digest_facts : (h : List ℕ) (n : ℕ) → (length (digest_bytes h n) ≡ n * 4) × All IsByte (digest_bytes h n)
unfolding digest_bytes
digest_facts h zero = (refl, All-nil IsByte)
digest_facts h (suc n) =
    let before = digest_facts h n in
    let word : length (to_be_bytes w32 (slice_index h n)) ≡ 4 = refl in (
      omega (arith, length-append (digest_bytes h n) (to_be_bytes w32 (slice_index h n)), before.0),
      All-append IsByte _ _ before.1 (word_bytes _),
    )

sha1_facts : (m : List ℕ) → (length (sha1 m) ≡ 20) × All IsByte (sha1 m)
unfolding sha1
sha1_facts m = digest_facts _ 5

pub key_is_mask : (seed : List ℕ) (number : ℕ) → IsMask (Some (key_of seed number))
unfolding key_of
key_is_mask seed number =
    let facts = sha1_facts (seed ++ to_be_bytes w64 number) in
    (omega (arith, length-take 4 (sha1 (seed ++ to_be_bytes w64 number)), facts.0), All-take IsByte 4 _ facts.1)
