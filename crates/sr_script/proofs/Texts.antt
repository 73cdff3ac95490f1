-- The lines of a text, one after the other.
use Rattle.std.proofs.Common.{◌≡◌, ◌≢◌, ◌<◌, ◌≤◌, ◌+◌, ℕ, zero, suc, min, ◌⊎◌, inl, inr, Bool, true, false, cond, nat_eq, List, [], ◌∷◌, ◌++◌, length, take, drop, refl, sym, ◌∙◌, ap, subst, arith, length-append}
use Rattle.std.specs.List.{AllByRecursion}
use Rattle.std.proofs.lemmas.List.{take-append-drop, drop_more, take_all, drop_all}
use Rattle.std.proofs.lemmas.List.Elements.{recursion_from_All}
use Rattle.std.proofs.lemmas.Bool.{cases_lt}
use Rattle.sr_script.specs.Lines.{lines_of, in_front, text_of}
use Rattle.sr_script.specs.Reading.{IsOneLine, IsLineEnd}

-- a test that failed, as an equation
not_end : (b : ℕ) → b ≢ 10 → nat_eq b 10 ≡ false
not_end b other = grind (arith)

line_first : (line rest : List ℕ) → AllByRecursion (λ b. b ≢ 10) line → lines_of (line ++ 10 ∷ rest) ≡ line ∷ lines_of rest
line_first [] rest plain = refl
line_first (b ∷ line) rest plain =
    ap (λ (t : Bool). cond t ([] ∷ lines_of (line ++ 10 ∷ rest)) (in_front b (lines_of (line ++ 10 ∷ rest)))) (not_end b plain.0)
    ∙ ap (in_front b) (line_first line rest plain.1)

line_last : (b : ℕ) (line : List ℕ) → AllByRecursion (λ b. b ≢ 10) (b ∷ line) → lines_of (b ∷ line) ≡ (b ∷ line) ∷ []
line_last b [] plain =
    ap (λ (t : Bool). cond t ([] ∷ []) (in_front b [])) (not_end b plain.0)
line_last b (c ∷ line) plain =
    ap (λ (t : Bool). cond t ([] ∷ lines_of (c ∷ line)) (in_front b (lines_of (c ∷ line)))) (not_end b plain.0)
    ∙ ap (in_front b) (line_last c line plain.1)

last_line : (text : List ℕ) → 0 < length text → AllByRecursion (λ b. b ≢ 10) text → lines_of text ≡ text ∷ []
last_line [] some plain = absurd (omega arith)
last_line (b ∷ text) some plain = line_last b text plain

first_line_by : (text : List ℕ) (n : ℕ) → 0 < length text → IsLineEnd text n → (n < length text) ⊎ (length text ≤ n)
    → lines_of text ≡ take n text ∷ lines_of (drop (min (n + 1) (length text)) text)
first_line_by text n some end (inl inside) =
    let cut : text ≡ take n text ++ 10 ∷ drop (n + 1) text =
    sym (take-append-drop n text) ∙ ap (λ xs. take n text ++ xs) (drop_more text n 0 inside ∙ ap (λ (b : ℕ). b ∷ drop (n + 1) text) (end.ended inside)) in
    let next : n + 1 ≡ min (n + 1) (length text) = omega arith in
    ap lines_of cut ∙ line_first (take n text) (drop (n + 1) text) (recursion_from_All (λ b. b ≢ 10) (take n text) end.line)
    ∙ ap (λ (k : ℕ). take n text ∷ lines_of (drop k text)) next
first_line_by text n some end (inr past) =
    let whole : take n text ≡ text = take_all n text past in
    let none : drop (min (n + 1) (length text)) text ≡ [] = drop_all (min (n + 1) (length text)) text (omega arith) in
    last_line text some (recursion_from_All (λ b. b ≢ 10) text (subst IsOneLine whole end.line))
    ∙ ap (λ (xs : List ℕ). xs ∷ []) (sym whole) ∙ ap (λ (xs : List ℕ). take n text ∷ lines_of xs) (sym none)

-- a text is its first line and then the lines of what comes after it
pub first_line : (text : List ℕ) (n : ℕ) → 0 < length text → IsLineEnd text n
    → lines_of text ≡ take n text ∷ lines_of (drop (min (n + 1) (length text)) text)
first_line text n some end = first_line_by text n some end (cases_lt n (length text))

some_line : (b : ℕ) (bytes : List ℕ) → 0 < length (lines_of (b ∷ bytes))
some_line b bytes = by_test (nat_eq b 10) b (lines_of bytes) where
  by_front : (b : ℕ) (lines : List (List ℕ)) → 0 < length (in_front b lines)
  by_front b [] = omega arith
  by_front b (line ∷ lines) = omega arith

  by_test : (t : Bool) (b : ℕ) (lines : List (List ℕ)) → 0 < length (cond t ([] ∷ lines) (in_front b lines))
  by_test true b lines = omega arith
  by_test false b lines = by_front b lines

some_lines : (bytes : List ℕ) → 0 < length bytes → 0 < length (lines_of bytes)
some_lines [] some = absurd (omega arith)
some_lines (b ∷ bytes) some = some_line b bytes

take-in_front : (b n : ℕ) (lines : List (List ℕ)) → take (suc n) (in_front b lines) ≡ in_front b (take (suc n) lines)
take-in_front b n [] = ap (λ (xs : List (List ℕ)). (b ∷ []) ∷ xs) (take_all n [] (omega arith))
take-in_front b n (line ∷ lines) = refl

-- the same lines, once a byte was put in front
same_in_front : (t : Bool) (b n k : ℕ) (these those : List (List ℕ)) → (0 < k → 0 < length these)
    → ((m : ℕ) → m ≤ length these → length (text_of (take m these)) ≤ k → take m those ≡ take m these)
    → suc n ≤ length (cond t ([] ∷ these) (in_front b these)) → length (text_of (take (suc n) (cond t ([] ∷ these) (in_front b these)))) ≤ suc k
    → take (suc n) (cond t ([] ∷ those) (in_front b those)) ≡ take (suc n) (cond t ([] ∷ these) (in_front b these))
same_in_front true b n k these those some same there fits = ap (λ (xs : List (List ℕ)). [] ∷ xs) (same n (omega arith) (omega arith))
same_in_front false b n k [] those some same there fits = absurd (omega (arith, some))
same_in_front false b n k (line ∷ lines) those some same there fits =
    take-in_front b n those
    ∙ ap (in_front b) (same (suc n) (omega arith) (omega (arith, length-append (line ++ 10 ∷ []) (text_of (take n lines)), length-append ((b ∷ line) ++ 10 ∷ []) (text_of (take n lines)), length-append line (10 ∷ []), length-append (b ∷ line) (10 ∷ []))))

-- Lines that end within the front of a text do not depend on what comes behind that front.
pub same_lines : (front a b : List ℕ) (n : ℕ) → n ≤ length (lines_of (front ++ a)) → length (text_of (take n (lines_of (front ++ a)))) ≤ length front
    → take n (lines_of (front ++ b)) ≡ take n (lines_of (front ++ a))
same_lines front a b zero there fits = refl
same_lines [] a b (suc n) there fits = absurd (none (lines_of a) n there fits) where
  none : (lines : List (List ℕ)) (n : ℕ) → suc n ≤ length lines → length (text_of (take (suc n) lines)) ≤ 0 → ⊥
  none [] n there fits = omega arith
  none (line ∷ lines) n there fits = omega (arith, length-append (line ++ 10 ∷ []) (text_of (take n lines)), length-append line (10 ∷ []))
same_lines (x ∷ front) a b (suc n) there fits =
    same_in_front (nat_eq x 10) x n (length front) (lines_of (front ++ a)) (lines_of (front ++ b))
    (λ some. some_lines (front ++ a) (omega (arith, length-append front a)))
    (λ m. same_lines front a b m) there fits

-- bytes that come after a text take none of its lines away
pub lines_grow : (front more : List ℕ) → length (lines_of front) ≤ length (lines_of (front ++ more))
lines_grow [] more = omega arith
lines_grow (b ∷ front) more = by_test (nat_eq b 10) b (lines_of front) (lines_of (front ++ more)) (lines_grow front more) where
  by_front : (b : ℕ) (these those : List (List ℕ)) → length these ≤ length those → length (in_front b these) ≤ length (in_front b those)
  by_front b [] [] less = omega arith
  by_front b [] (line ∷ lines) less = omega arith
  by_front b (line ∷ lines) [] less = absurd (omega (arith, less))
  by_front b (line ∷ lines) (other ∷ others) less = less

  by_test : (t : Bool) (b : ℕ) (these those : List (List ℕ)) → length these ≤ length those
      → length (cond t ([] ∷ these) (in_front b these)) ≤ length (cond t ([] ∷ those) (in_front b those))
  by_test true b these those less = omega arith
  by_test false b these those less = by_front b these those less
