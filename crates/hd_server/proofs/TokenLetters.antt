-- Two connections have two tokens: the letters tell the bytes, and the bytes the number.
use Rattle.std.proofs.Common.{refl, ap, sym, ◌∙◌, ◌≡◌, ◌<◌, ℕ, zero, suc, ◌+◌, ◌-◌, ◌*◌, ◌/◌, ◌%◌, Bool, true, false, not, List, [], ◌∷◌, ◌++◌, length, arith, if◌then◌else◌}
use Rattle.std.specs.Prelude.{nat_lt, ◌==◌, drop, ◌^◌}
use Rattle.std.proofs.lemmas.Bool.{or_parts, eqb-true, eq-eqb}
use Rattle.hd_calls.specs.Rules.{any_below}
use Rattle.hd_server.specs.Texts.{letter, letters, eight_bytes}
use Rattle.hd_server.specs.Laws.{TokensDiffer}

-- ---- letters

-- the six bits of a letter
abbrev six_of : ℕ → ℕ
six_of ch =
    if ch == 45 then 62 else
    (if ch == 95 then 63 else
    (if nat_lt ch 58 then ch + 4 else (if nat_lt ch 91 then ch - 65 else ch - 71)))

less : (n k : ℕ) → n < suc k → (n == k) ≡ false → n < k
less n k l g = omega (arith, l, apart g) where
  apart : (n == k) ≡ false → n ≡ k → ⊥
  apart q same = let yes : (n == k) ≡ true = eq-eqb n k same in absurd (cc)

none_below : (k n : ℕ) (p : ℕ → Bool) → any_below k p ≡ false → n < k → p n ≡ false
none_below zero n p e l = absurd (let no : ⊥ = omega (arith, l) in no)
none_below (suc k) n p e l = let parts = or_parts (p k) (any_below k p) e in by (n == k) refl parts.0 (λ f. none_below k n p parts.1 (less n k l f)) where
  by : (b : Bool) → (n == k) ≡ b → p k ≡ false → ((n == k) ≡ false → p n ≡ false) → p n ≡ false
  by true f now rest = ap p (eqb-true n k f) ∙ now
  by false f now rest = rest f

back : (n : ℕ) → n < 64 → six_of (letter n) ≡ n
back n l = by (six_of (letter n) == n) refl (none_below 64 n (λ m. not (six_of (letter m) == m)) refl l) where
  by : (b : Bool) → (six_of (letter n) == n) ≡ b → not b ≡ false → six_of (letter n) ≡ n
  by true e f = eqb-true _ _ e
  by false e f = absurd (cc)

same_bits : (m n : ℕ) → m < 64 → n < 64 → letter m ≡ letter n → m ≡ n
same_bits m n a b e = sym (back m a) ∙ ap six_of e ∙ back n b

-- ---- groups of letters

-- the last two bytes of a group
last_two : (a y z b v w : ℕ) → y < 256 → z < 256 → v < 256 → w < 256 → letter ((a % 4) * 16 + y / 16) ≡ letter ((b % 4) * 16 + v / 16)
    → letter ((y % 16) * 4 + z / 64) ≡ letter ((v % 16) * 4 + w / 64) → letter (z % 64) ≡ letter (w % 64) → (y ≡ v) × (z ≡ w)
last_two a y z b v w ly lz lv lw e f g =
    let one = same_bits ((a % 4) * 16 + y / 16) ((b % 4) * 16 + v / 16) (omega (arith, ly)) (omega (arith, lv)) e in
    let two = same_bits ((y % 16) * 4 + z / 64) ((v % 16) * 4 + w / 64) (omega (arith, lz)) (omega (arith, lw)) f in
    let three = same_bits (z % 64) (w % 64) (omega arith) (omega arith) g in
    (omega (arith, one, two, ly, lv, lz, lw), omega (arith, two, three, lz, lw))

-- all three
all_three : (x y z u v w : ℕ) → x < 256 → y < 256 → z < 256 → u < 256 → v < 256 → w < 256 → letter (x / 4) ≡ letter (u / 4)
    → letter ((x % 4) * 16 + y / 16) ≡ letter ((u % 4) * 16 + v / 16) → letter ((y % 16) * 4 + z / 64) ≡ letter ((v % 16) * 4 + w / 64)
    → letter (z % 64) ≡ letter (w % 64) → (x ≡ u) × (y ≡ v) × (z ≡ w)
all_three x y z u v w lx ly lz lu lv lw d e f g =
    let zero_one = same_bits (x / 4) (u / 4) (omega (arith, lx)) (omega (arith, lu)) d in
    let one = same_bits ((x % 4) * 16 + y / 16) ((u % 4) * 16 + v / 16) (omega (arith, ly)) (omega (arith, lv)) e in
    let rest = last_two x y z u v w ly lz lv lw e f g in
    (omega (arith, zero_one, one, ly, lv), rest.0, rest.1)

-- the letter at a place
abbrev at : ℕ → List ℕ → ℕ
at n [] = 0
at zero (x ∷ xs) = x
at (suc n) (x ∷ xs) = at n xs

-- the letters of what comes after whole groups and one byte
peel : (n : ℕ) (d e s t : List ℕ) → length d ≡ 3 * n + 1 → length e ≡ 3 * n + 1 → letters (d ++ s) ≡ letters (e ++ t)
    → (a : ℕ) × (b : ℕ) × (letters (a ∷ s) ≡ letters (b ∷ t))
peel zero (a ∷ []) (b ∷ []) s t l m q = (a, b, q)
peel (suc n) (x ∷ y ∷ z ∷ d) (u ∷ v ∷ w ∷ e) s t l m q = peel n d e s t (omega (arith, l)) (omega (arith, m)) (ap (drop 4) q)
peel zero [] e s t l m q = absurd (let no : ⊥ = omega (arith, l) in no)
peel zero (a ∷ b ∷ d) e s t l m q = absurd (let no : ⊥ = omega (arith, l) in no)
peel zero (a ∷ []) [] s t l m q = absurd (let no : ⊥ = omega (arith, m) in no)
peel zero (a ∷ []) (b ∷ c ∷ e) s t l m q = absurd (let no : ⊥ = omega (arith, m) in no)
peel (suc n) [] e s t l m q = absurd (let no : ⊥ = omega (arith, l) in no)
peel (suc n) (x ∷ []) e s t l m q = absurd (let no : ⊥ = omega (arith, l) in no)
peel (suc n) (x ∷ y ∷ []) e s t l m q = absurd (let no : ⊥ = omega (arith, l) in no)
peel (suc n) (x ∷ y ∷ z ∷ d) [] s t l m q = absurd (let no : ⊥ = omega (arith, m) in no)
peel (suc n) (x ∷ y ∷ z ∷ d) (u ∷ []) s t l m q = absurd (let no : ⊥ = omega (arith, m) in no)
peel (suc n) (x ∷ y ∷ z ∷ d) (u ∷ v ∷ []) s t l m q = absurd (let no : ⊥ = omega (arith, m) in no)

-- ---- numbers

-- a number is its last byte and the number before that
one_byte : (c k : ℕ) → c / 256 ≡ k / 256 → c % 256 ≡ k % 256 → c ≡ k
one_byte c k e f = omega (arith, e, f)

same_number : (c k : ℕ) → c < 2 ^ 64 → k < 2 ^ 64 → (c / 72057594037927936) % 256 ≡ (k / 72057594037927936) % 256
    → (c / 281474976710656) % 256 ≡ (k / 281474976710656) % 256 → (c / 1099511627776) % 256 ≡ (k / 1099511627776) % 256
    → (c / 4294967296) % 256 ≡ (k / 4294967296) % 256 → (c / 16777216) % 256 ≡ (k / 16777216) % 256
    → (c / 65536) % 256 ≡ (k / 65536) % 256 → (c / 256) % 256 ≡ (k / 256) % 256 → c % 256 ≡ k % 256 → c ≡ k
same_number c k l m e0 e1 e2 e3 e4 e5 e6 e7 =
    let s0 : c / 72057594037927936 ≡ k / 72057594037927936 = omega (arith, l, m, e0) in
    let s1 : c / 281474976710656 ≡ k / 281474976710656 = omega (arith, s0, e1) in
    let s2 : c / 1099511627776 ≡ k / 1099511627776 = omega (arith, s1, e2) in
    let s3 : c / 4294967296 ≡ k / 4294967296 = omega (arith, s2, e3) in
    let s4 : c / 16777216 ≡ k / 16777216 = omega (arith, s3, e4) in
    let s5 : c / 65536 ≡ k / 65536 = omega (arith, s4, e5) in
    let s6 : c / 256 ≡ k / 256 = omega (arith, s5, e6) in
    one_byte c k s6 e7

under : (n : ℕ) → n % 256 < 256
under n = omega arith

pub tokens_differ : TokensDiffer
tokens_differ drawn other c k l m lc lk e =
    let p = peel 5 drawn other (eight_bytes c) (eight_bytes k) l m e in
    let q = p.2 in
    let one = last_two p.0 _ _ p.1 _ _ (under _) (under _) (under _) (under _) (ap (at 1) q) (ap (at 2) q) (ap (at 3) q) in
    let two = all_three _ _ _ _ _ _ (under _) (under _) (under _) (under _) (under _) (under _) (ap (at 4) q) (ap (at 5) q) (ap (at 6) q) (ap (at 7) q) in
    let three = all_three _ _ _ _ _ _ (under _) (under _) (under _) (under _) (under _) (under _) (ap (at 8) q) (ap (at 9) q) (ap (at 10) q) (ap (at 11) q) in
    same_number c k lc lk one.0 one.1 two.0 two.1 two.2 three.0 three.1 three.2
