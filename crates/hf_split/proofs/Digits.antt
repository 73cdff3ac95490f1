-- Digits to base 128, and the fewest that spell a number.
use Rattle.std.proofs.Common.{◌≡◌, ◌<◌, ◌≤◌, ◌+◌, ◌*◌, ◌/◌, ◌%◌, ◌^◌, ◌⊎◌, inl, inr, ℕ, zero, suc, List, [], ◌∷◌, ◌++◌, length, take, get_or, refl, sym, ◌∙◌, ap, subst, arith, append_assoc, length-append, length-take, ltb}
use Rattle.std.specs.List.{All}
use Rattle.std.proofs.lemmas.Bool.{cases_lt, lt-ltb, le-ltb, cond-true, cond-false}
use Rattle.std.proofs.lemmas.List.Elements.{All-nil, All-cons, All-more}
use Rattle.std.proofs.lemmas.List.{take_more, length-take-le}
use Rattle.std.proofs.lemmas.Nat.{div_below}
use Rattle.std.proofs.Math.Nat.{pow-suc, pow-le-pow_right, mul-le-mul_right}
use Rattle.hf_split.specs.VarInts.{HasMore, base_128, IsVarInt, shortest_in, shortest}
use Rattle.hf_split.specs.Nexts.{IsWholeAt}

-- one digit more, above the others
pub base_128-push : (digits : List ℕ) (byte : ℕ) → base_128 (digits ++ byte ∷ []) ≡ base_128 digits + (byte % 128) * 128 ^ length digits
base_128-push [] byte = omega arith
base_128-push (d ∷ digits) byte = omega (arith, base_128-push digits byte, ap (λ (w : ℕ). (byte % 128) * w) (pow-suc 128 (length digits)))

pub base_128_below : (digits : List ℕ) → base_128 digits < 128 ^ length digits
base_128_below [] = omega arith
base_128_below (d ∷ digits) = omega (arith, base_128_below digits, pow-suc 128 (length digits))

pub var_int_below : (bytes : List ℕ) (n : ℕ) → IsVarInt bytes n → n < 2 ^ 35
var_int_below bytes n is =
    let most : 128 ^ length bytes ≤ 128 ^ 5 = pow-le-pow_right {n = 128} (omega arith) is.short in
    omega (arith, is.value, base_128_below bytes)

-- the weight of a digit, which is one of five at most, fits
pub weight_below : (size weight : ℕ) → weight ≡ 128 ^ size → size < 5 → weight ≤ 268435456
weight_below size weight is short =
    let within : size ≤ 4 = omega arith in
    let most : 128 ^ size ≤ 128 ^ 4 = pow-le-pow_right {n = 128} (omega arith) within in
    omega arith

pub weight_more : (size weight : ℕ) → weight ≡ 128 ^ size → weight * 128 ≡ 128 ^ (size + 1)
weight_more size weight is = let e : size + 1 ≡ suc size = omega arith in rw e (rw pow-suc (ap (λ w. w * 128) is))

pub digit_below : (digit weight : ℕ) → digit < 128 → digit * weight ≤ 127 * weight
digit_below digit weight low = let most : digit ≤ 127 = omega arith in mul-le-mul_right weight most

-- what is written
shortest_small : (room n : ℕ) → n < 128 → shortest_in room n ≡ n ∷ []
shortest_small zero n low = refl
shortest_small (suc room) n low = cond-true (ltb n 128) (n ∷ []) ((128 + n % 128) ∷ shortest_in room (n / 128)) (lt-ltb n 128 low)

shortest_large : (room n : ℕ) → 128 ≤ n → shortest_in (suc room) n ≡ (128 + n % 128) ∷ shortest_in room (n / 128)
shortest_large room n high = cond-false (ltb n 128) (n ∷ []) ((128 + n % 128) ∷ shortest_in room (n / 128)) (le-ltb n 128 high)

pub shortest_is : (n : ℕ) → shortest n ≡ shortest_in 4 n
unfolding shortest
shortest_is n = refl

-- a VarInt, however long
record IsSpelled (room : ℕ) (bytes : List ℕ) (n : ℕ) : Type 0 where
  front : List ℕ
  last : ℕ
  parts : bytes ≡ front ++ last ∷ []
  more : All HasMore front
  end : last < 128
  short : length bytes ≤ suc room
  value : n ≡ base_128 bytes

spelled_small : (room n : ℕ) → n < 128 → IsSpelled room (n ∷ []) n
spelled_small room n low = record { front = []; last = n; parts = refl; more = All-nil HasMore; end = low; short = omega arith; value = omega arith }

spelled_large : (room n : ℕ) (bytes : List ℕ) → IsSpelled room bytes (n / 128) → IsSpelled (suc room) ((128 + n % 128) ∷ bytes) n
spelled_large room n bytes is = record {
  front = (128 + n % 128) ∷ is.front;
  last = is.last;
  parts = ap (λ xs. (128 + n % 128) ∷ xs) is.parts;
  more = All-cons HasMore (128 + n % 128) is.front (omega arith) is.more;
  end = is.end;
  short = omega (arith, is.short);
  value = omega (arith, is.value);
}

spelled_by : (room n : ℕ) → n < 128 ^ suc (suc room) → (n < 128) ⊎ (128 ≤ n)
    → ((k : ℕ) → k < 128 ^ suc room → IsSpelled room (shortest_in room k) k) → IsSpelled (suc room) (shortest_in (suc room) n) n
spelled_by room n low (inl small) rest =
    subst (λ (xs : List ℕ). IsSpelled (suc room) xs n) (sym (shortest_small (suc room) n small)) (spelled_small (suc room) n small)
spelled_by room n low (inr large) rest =
    let less : n < 128 ^ suc room * 128 = omega (arith, pow-suc 128 (suc room)) in
    subst (λ (xs : List ℕ). IsSpelled (suc room) xs n) (sym (shortest_large room n large))
    (spelled_large room n (shortest_in room (n / 128)) (rest (n / 128) (div_below n 128 (128 ^ suc room) (omega arith) less)))

spelled : (room n : ℕ) → n < 128 ^ suc room → IsSpelled room (shortest_in room n) n
spelled zero n low = spelled_small zero n (omega arith)
spelled (suc room) n low = spelled_by room n low (cases_lt n 128) (λ k less. spelled room k less)

pub shortest_is_var_int : (n : ℕ) → n < 2 ^ 35 → IsVarInt (shortest n) n
shortest_is_var_int n low =
    let is = spelled 4 n (omega arith) in
    rw (shortest_is n) (record { front = is.front; last = is.last; parts = is.parts; more = is.more; end = is.end; short = is.short; value = is.value })

-- no digits that spell a number are fewer
fewest_by : (room n b : ℕ) (bytes : List ℕ) → n ≡ base_128 (b ∷ bytes) → (n < 128) ⊎ (128 ≤ n)
    → (0 < length bytes → length (shortest_in room (n / 128)) ≤ length bytes) → length (shortest_in (suc room) n) ≤ length (b ∷ bytes)
fewest_by room n b bytes is (inl small) rest = rw (shortest_small (suc room) n small) (omega arith)
fewest_by room n b [] is (inr large) rest = absurd (omega arith)
fewest_by room n b (c ∷ bytes) is (inr large) rest =
    let fewer : length (shortest_in room (n / 128)) ≤ length (c ∷ bytes) = rest (omega arith) in
    rw (shortest_large room n large) (omega arith)

fewest : (room n : ℕ) (bytes : List ℕ) → n ≡ base_128 bytes → 0 < length bytes → length (shortest_in room n) ≤ length bytes
fewest room n [] is some = absurd (omega arith)
fewest zero n (b ∷ bytes) is some = omega arith
fewest (suc room) n (b ∷ bytes) is some =
    let higher : n / 128 ≡ base_128 bytes = omega arith in
    fewest_by room n b bytes is (cases_lt n 128) (λ more. fewest room (n / 128) bytes higher more)

pub shortest_is_shortest : (bytes : List ℕ) (n : ℕ) → IsVarInt bytes n → length (shortest n) ≤ length bytes
shortest_is_shortest bytes n is =
    rw (shortest_is n) (fewest 4 n bytes is.value (omega (arith, ap length is.parts, length-append is.front (is.last ∷ []))))

-- one byte written
pub written_more : (room n : ℕ) (out start : List ℕ) → 128 ≤ n → n < 128 ^ suc room → out ++ shortest_in room n ≡ start
    → (less : ℕ) × (room ≡ suc less) × (n / 128 < 128 ^ suc less) × (out ++ (n % 128 + 128) ∷ [] ++ shortest_in less (n / 128) ≡ start)
written_more zero n out start high low e = absurd (omega arith)
written_more (suc room) n out start high low e =
    let less : n < 128 ^ suc room * 128 = omega (arith, pow-suc 128 (suc room)) in
    let same : n % 128 + 128 ≡ 128 + n % 128 = omega arith in (
      room,
      refl,
      div_below n 128 (128 ^ suc room) (omega arith) less,
      append_assoc out ((n % 128 + 128) ∷ []) (shortest_in room (n / 128)) ∙ ap (λ (b : ℕ). out ++ b ∷ shortest_in room (n / 128)) same
          ∙ ap (λ xs. out ++ xs) (sym (shortest_large room n high)) ∙ e,
    )

pub written_last : (room n : ℕ) (out start : List ℕ) → n < 128 → out ++ shortest_in room n ≡ start → out ++ n ∷ [] ≡ start
written_last room n out start low e = ap (λ xs. out ++ xs) (sym (shortest_small room n low)) ∙ e

-- what was read of a VarInt, and one byte more
pub digits_more : (size number weight byte : ℕ) (bytes : List ℕ) → size < length bytes → byte ≡ get_or bytes size 0 → number ≡ base_128 (take size bytes)
    → weight ≡ 128 ^ size → number + byte % 128 * weight ≡ base_128 (take (size + 1) bytes)
digits_more size number weight byte bytes inside is so_far power =
    let sized : length (take size bytes) ≡ size = length-take-le size bytes (omega arith) in
    let more : base_128 (take (size + 1) bytes) ≡ base_128 (take size bytes) + get_or bytes size 0 % 128 * 128 ^ length (take size bytes) =
    ap base_128 (take_more bytes size 0 inside) ∙ base_128-push (take size bytes) (get_or bytes size 0) in
    cc

pub whole_at : (size number weight byte : ℕ) (bytes : List ℕ) → size < 5 → size < length bytes → byte ≡ get_or bytes size 0 → number ≡ base_128 (take size bytes)
    → weight ≡ 128 ^ size → All HasMore (take size bytes) → byte < 128 → IsWholeAt bytes (size + 1) (number + byte % 128 * weight)
whole_at size number weight byte bytes short inside is so_far power more end = record {
  inside = omega arith;
  is_var_int = record {
    front = take size bytes;
    last = byte;
    parts = take_more bytes size 0 inside ∙ ap (λ (b : ℕ). take size bytes ++ b ∷ []) (sym is);
    more = more;
    end = end;
    short = omega (arith, length-take (size + 1) bytes);
    value = digits_more size number weight byte bytes inside is so_far power;
  };
}

pub more_at : (size byte : ℕ) (bytes : List ℕ) → size < length bytes → byte ≡ get_or bytes size 0 → All HasMore (take size bytes) → 128 ≤ byte → All HasMore (take (size + 1) bytes)
more_at size byte bytes inside is more high = All-more HasMore bytes size 0 inside more (omega arith)
