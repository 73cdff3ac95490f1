-- Rising lists of numbers: which are in a part of one, and what is so after one more number or one fewer.
use Rattle.std.proofs.Common.{◌≡◌, ℕ, zero, suc, ◌+◌, ◌<◌, ◌≤◌, Bool, true, false, not, ◌&&◌, ◌||◌, ◌==◌, inl, inr, List, [], ◌∷◌, ◌++◌, length, get_or, take, drop, insert, remove, Option, Some, None, Result, Ok, Err, OnErr, is_ok, if◌then◌else◌, nat_cmp, slice_get, Bor, option_copied, refl, sym, ap, subst, ◌∙◌, arith, eqb-true, eq-eqb, length-take, length-drop, take-append-drop}
use Rattle.std.proofs.lemmas.Bool.{or_cases, or_left, or_right, or_from, false_from_ne_true, cases_lt, cases_eq}
use Rattle.std.proofs.lemmas.List.{get_or-take, get_or-drop}
use Rattle.std.proofs.lemmas.Option.{slice_get-get_or, slice_get_past, slice_get_read}
use Rattle.std.proofs.Math.Seq.{drop-cons}
use Rattle.std.proofs.lemmas.List.Sorted.{searched}
use Rattle.std.specs.List.Sorted.{IsBinarySearchResult}
use Rattle.std.specs.Slice.{IsItemAt}
use Rattle.hv_value.specs.SortedSet.{is_in, IsRising, IsFirstPast}

-- ---- tests

or_assoc : (a b c : Bool) → ((a || b) || c) ≡ (a || (b || c))
or_assoc true b c = refl
or_assoc false b c = refl

or_middle : (a b c : Bool) → (a || (b || c)) ≡ (b || (a || c))
or_middle true true c = refl
or_middle true false c = refl
or_middle false b c = refl

and_true : (b : Bool) → (b && true) ≡ b
and_true true = refl
and_true false = refl

and_false : (b : Bool) → (b && false) ≡ false
and_false true = refl
and_false false = refl

-- ---- which numbers are in a list

pub is_in-append : (n : ℕ) (xs ys : List ℕ) → is_in n (xs ++ ys) ≡ (is_in n xs || is_in n ys)
is_in-append n [] ys = refl
is_in-append n (x ∷ xs) ys = ap (λ b. (n == x) || b) (is_in-append n xs ys) ∙ sym (or_assoc (n == x) (is_in n xs) (is_in n ys))

pub in_parts : (n i : ℕ) (xs : List ℕ) → is_in n xs ≡ (is_in n (take i xs) || is_in n (drop i xs))
in_parts n i xs = ap (λ ys. is_in n ys) (sym (take-append-drop i xs)) ∙ is_in-append n (take i xs) (drop i xs)

-- a number that is in a list is at some place
pub found : (n : ℕ) (xs : List ℕ) → is_in n xs ≡ true → (k : ℕ) × (k < length xs) × (get_or xs k 0 ≡ n)
found n [] e = absurd (let z : false ≡ true = e in cc)
found n (x ∷ xs) e = elim (or_cases (n == x) (is_in n xs) e) [
  | inl h ↦ (0, omega arith, sym (eqb-true n x h))
  | inr h ↦ let f = found n xs h in (suc f.0, omega arith, f.2)
]

pub is_in_at : (xs : List ℕ) (k : ℕ) → k < length xs → is_in (get_or xs k 0) xs ≡ true
is_in_at [] k l = absurd (omega (arith, l))
is_in_at (x ∷ xs) zero l = or_left (x == x) (is_in x xs) (eq-eqb x x refl)
is_in_at (x ∷ xs) (suc k) l = or_right (get_or xs k 0 == x) (is_in (get_or xs k 0) xs) (is_in_at xs k (omega (arith, l)))

-- ---- a rising list

pub rising_at : (xs : List ℕ) → IsRising xs → (i j : ℕ) → i < j → j < length xs → get_or xs i 0 < get_or xs j 0
rising_at [] r i j l m = absurd (omega (arith, m))
rising_at (x ∷ xs) r i zero l m = absurd (omega (arith, l))
rising_at (x ∷ xs) r zero (suc j) l m = r.0 (get_or xs j 0) (is_in_at xs j (omega (arith, m)))
rising_at (x ∷ xs) r (suc i) (suc j) l m = rising_at xs r.1 i j (omega (arith, l)) (omega (arith, m))

pub rising_le : (xs : List ℕ) → IsRising xs → (i j : ℕ) → i ≤ j → j < length xs → get_or xs i 0 ≤ get_or xs j 0
rising_le xs r i j l m = elim (cases_eq i j) [
  | inl e ↦ (let v : get_or xs i 0 ≡ get_or xs j 0 = ap (λ k. get_or xs k 0) e in omega (arith, v))
  | inr e ↦ (elim (cases_lt i j) [ inl h ↦ (let v = rising_at xs r i j h m in omega (arith, v)) | inr h ↦ absurd (e (omega (arith, l, h))) ])
]

-- two parts that are rising when they are joined
pub record Parts (xs ys : List ℕ) : Type 0 where
  pub left : IsRising xs
  pub right : IsRising ys
  pub across : (a b : ℕ) → is_in a xs ≡ true → is_in b ys ≡ true → a < b

pub parts_from_rising : (xs ys : List ℕ) → IsRising (xs ++ ys) → Parts xs ys
parts_from_rising [] ys r = record { left = tt; right = r; across = λ a b i j. absurd (let z : false ≡ true = i in cc) }
parts_from_rising (x ∷ xs) ys r =
    let p = parts_from_rising xs ys r.1 in
    let below : (k : ℕ) → is_in k ys ≡ true → x < k = λ k e. r.0 k (is_in-append k xs ys ∙ or_right (is_in k xs) (is_in k ys) e) in
    record {
      left = (λ k e. r.0 k (is_in-append k xs ys ∙ or_left (is_in k xs) (is_in k ys) e), p.left);
      right = p.right;
      across = λ a b i j. elim (or_cases (a == x) (is_in a xs) i) [
        | inl h ↦ (let e : a ≡ x = eqb-true a x h in let l : x < b = below b j in omega (arith, e, l))
        | inr h ↦ p.across a b h j
      ];
    }

pub rising_from_parts : (xs ys : List ℕ) → Parts xs ys → IsRising (xs ++ ys)
rising_from_parts [] ys p = p.right
rising_from_parts (x ∷ xs) ys p = (
  λ k e. elim (or_cases (is_in k xs) (is_in k ys) (sym (is_in-append k xs ys) ∙ e)) [
    | inl h ↦ p.left.0 k h
    | inr h ↦ p.across x k (or_left (x == x) (is_in x xs) (eq-eqb x x refl)) h
  ],
  rising_from_parts xs ys (record { left = p.left.1; right = p.right; across = λ a b i j. p.across a b (or_right (a == x) (is_in a xs) i) j }),
)

-- ---- one number more

-- where a number belongs that isn't there: those before its place are below it, and those after it above
pub record Belongs (n i : ℕ) (xs : List ℕ) : Type 0 where
  pub below : (k : ℕ) → is_in k (take i xs) ≡ true → k < n
  pub above : (k : ℕ) → is_in k (drop i xs) ≡ true → n < k

pub belongs : (n i : ℕ) (xs : List ℕ) → i ≤ length xs → ((k : ℕ) → k < i → get_or xs k 0 < n) → ((k : ℕ) → i ≤ k → k < length xs → n < get_or xs k 0) → Belongs n i xs
belongs n i xs l f g = record {
  below = λ k e.
      let w = found k (take i xs) e in
      let b : w.0 < i = omega (arith, length-take i xs, w.1) in
      let v : get_or xs w.0 0 ≡ k = sym (get_or-take i xs w.0 0 b) ∙ w.2 in
      let c : get_or xs w.0 0 < n = f w.0 b in
      omega (arith, v, c);
  above = λ k e.
      let w = found k (drop i xs) e in
      let v : get_or xs (i + w.0) 0 ≡ k = sym (get_or-drop i xs w.0 0) ∙ w.2 in
      let c : n < get_or xs (i + w.0) 0 = g (i + w.0) (omega arith) (omega (arith, length-drop i xs, w.1)) in
      omega (arith, v, c);
}

pub absent : (n i : ℕ) (xs : List ℕ) → Belongs n i xs → is_in n xs ≡ false
absent n i xs s = false_from_ne_true (is_in n xs) (λ e. elim (or_cases (is_in n (take i xs)) (is_in n (drop i xs)) (sym (in_parts n i xs) ∙ e)) [
  | inl h ↦ (let l : n < n = s.below n h in omega (arith, l))
  | inr h ↦ (let l : n < n = s.above n h in omega (arith, l))
])

pub in_inserted : (n one i : ℕ) (xs : List ℕ) → is_in n (insert xs i one) ≡ ((n == one) || is_in n xs)
in_inserted n one i xs =
    is_in-append n (take i xs) (one ∷ drop i xs)
    ∙ (or_middle (is_in n (take i xs)) (n == one) (is_in n (drop i xs)) ∙ ap (λ b. (n == one) || b) (sym (in_parts n i xs)))

pub rising_inserted : (one i : ℕ) (xs : List ℕ) → Belongs one i xs → IsRising xs → IsRising (insert xs i one)
rising_inserted one i xs s r =
    let p = parts_from_rising (take i xs) (drop i xs) (subst (λ ys. IsRising ys) (sym (take-append-drop i xs)) r) in
    rising_from_parts (take i xs) (one ∷ drop i xs) (record {
      left = p.left;
      right = (s.above, p.right);
      across = λ a b e f. elim (or_cases (b == one) (is_in b (drop i xs)) f) [
        | inl h ↦ (let q : b ≡ one = eqb-true b one h in let l : a < one = s.below a e in omega (arith, q, l))
        | inr h ↦ p.across a b e h
      ];
    })

-- one that is there already
pub in_already : (n one : ℕ) (xs : List ℕ) → is_in one xs ≡ true → is_in n xs ≡ ((n == one) || is_in n xs)
in_already n one xs e = go (n == one) refl
  where
    go : (b : Bool) → (n == one) ≡ b → is_in n xs ≡ (b || is_in n xs)
    go true h = ap (λ k. is_in k xs) (eqb-true n one h) ∙ e
    go false h = refl

-- ---- one number fewer

without : (n one : ℕ) (front back : List ℕ) → Parts front (one ∷ back) → (is_in n front || is_in n back) ≡ ((is_in n front || ((n == one) || is_in n back)) && not (n == one))
without n one front back p = go (n == one) refl
  where
    go : (b : Bool) → (n == one) ≡ b → (is_in n front || is_in n back) ≡ ((is_in n front || (b || is_in n back)) && not b)
    go true h =
        let q : n ≡ one = eqb-true n one h in
        or_from (is_in n front) (is_in n back)
        (false_from_ne_true (is_in n front) (λ e. let l : n < one = p.across n one e (or_left (one == one) (is_in one back) (eq-eqb one one refl)) in omega (arith, q, l)))
        (false_from_ne_true (is_in n back) (λ e. let l : one < n = p.right.0 n e in omega (arith, q, l)))
        ∙ sym (and_false (is_in n front || (true || is_in n back)))
    go false h = sym (and_true (is_in n front || is_in n back))

-- a list around the number at a place
split_at : (one i : ℕ) (xs : List ℕ) → i < length xs → get_or xs i 0 ≡ one → take i xs ++ one ∷ drop (suc i) xs ≡ xs
split_at one i xs l e = ap (λ k. take i xs ++ k ∷ drop (suc i) xs) (sym e) ∙ (ap (λ ys. take i xs ++ ys) (sym (drop-cons xs i 0 l)) ∙ take-append-drop i xs)

parts_at : (one i : ℕ) (xs : List ℕ) → IsRising xs → i < length xs → get_or xs i 0 ≡ one → Parts (take i xs) (one ∷ drop (suc i) xs)
parts_at one i xs r l e = parts_from_rising (take i xs) (one ∷ drop (suc i) xs) (subst (λ ys. IsRising ys) (sym (split_at one i xs l e)) r)

pub in_removed : (n one i : ℕ) (xs : List ℕ) → IsRising xs → i < length xs → get_or xs i 0 ≡ one → is_in n (remove xs i) ≡ (is_in n xs && not (n == one))
in_removed n one i xs r l e =
    is_in-append n (take i xs) (drop (suc i) xs)
    ∙ (without n one (take i xs) (drop (suc i) xs) (parts_at one i xs r l e)
    ∙ ap (λ b. b && not (n == one)) (sym (is_in-append n (take i xs) (one ∷ drop (suc i) xs)) ∙ ap (λ ys. is_in n ys) (split_at one i xs l e)))

pub rising_removed : (one i : ℕ) (xs : List ℕ) → IsRising xs → i < length xs → get_or xs i 0 ≡ one → IsRising (remove xs i)
rising_removed one i xs r l e =
    let p = parts_at one i xs r l e in
    rising_from_parts (take i xs) (drop (suc i) xs) (record {
      left = p.left;
      right = p.right.1;
      across = λ a b f g. p.across a b f (or_right (b == one) (is_in b (drop (suc i) xs)) g);
    })

-- one that isn't there
pub in_without : (n one : ℕ) (xs : List ℕ) → is_in one xs ≡ false → is_in n xs ≡ (is_in n xs && not (n == one))
in_without n one xs e = go (n == one) refl
  where
    go : (b : Bool) → (n == one) ≡ b → is_in n xs ≡ (is_in n xs && not b)
    go true h = (ap (λ k. is_in k xs) (eqb-true n one h) ∙ e) ∙ sym (and_false (is_in n xs))
    go false h = sym (and_true (is_in n xs))

-- ---- the first past a number

pub first_past : (passed p : ℕ) (xs : List ℕ) → IsRising xs → ((k : ℕ) → k < p → k < length xs → get_or xs k 0 ≤ passed) → ((k : ℕ) → p ≤ k → k < length xs → passed < get_or xs k 0) → IsFirstPast passed xs (slice_get xs p)
first_past passed p xs r low high = elim (cases_lt p (length xs)) [ inl l ↦ there l | inr l ↦ none l ]
  where
    there : p < length xs → IsFirstPast passed xs (slice_get xs p)
    there l = subst (λ o. IsFirstPast passed xs o) (sym (slice_get-get_or xs p 0 l)) (
      is_in_at xs p l,
      high p (omega arith) l,
      λ k e m.
          let w = found k xs e in
          elim (cases_lt w.0 p) [
            | inl h ↦ (let c = low w.0 h w.1 in absurd (omega (arith, c, m, w.2)))
            | inr h ↦ (let c = rising_le xs r p w.0 h w.1 in omega (arith, c, w.2))
          ],
    )

    none : length xs ≤ p → IsFirstPast passed xs (slice_get xs p)
    none l = subst (λ o. IsFirstPast passed xs o) (sym (slice_get_past xs p l)) (λ k e. let w = found k xs e in let c = low w.0 (omega (arith, l, w.1)) w.1 in omega (arith, c, w.2))

-- what a read of a slice gives
pub read_at : (xs : List ℕ) (i : ℕ) (r : Option (Bor ℕ)) → IsItemAt xs i r → option_copied r ≡ slice_get xs i
read_at xs i None g = sym (slice_get_past xs i g.3)
read_at xs i (Some x) g = sym (slice_get_read xs (length xs) i x.now refl g.3.0 g.1)

pub next_is : (passed p : ℕ) (xs ys : List ℕ) (g : Option (Bor ℕ)) (o : Option ℕ) → ys ≡ xs → IsItemAt ys p g → o ≡ option_copied g → IsRising xs → ((k : ℕ) → k < p → k < length xs → get_or xs k 0 ≤ passed) → ((k : ℕ) → p ≤ k → k < length xs → passed < get_or xs k 0) → IsFirstPast passed xs o
next_is passed p xs ys g o e read c r low high =
    subst (λ o. IsFirstPast passed xs o) (sym (c ∙ (read_at ys p g read ∙ ap (λ zs. slice_get zs p) e))) (first_past passed p xs r low high)

-- ---- what a binary search gives

pub search_found : (n i : ℕ) (xs ys : List ℕ) (r : Result ℕ ℕ) → IsRising xs → ys ≡ xs → IsBinarySearchResult (λ y. nat_cmp y n) ys r → r ≡ Ok i → (i < length xs) × (get_or xs i 0 ≡ n)
search_found n i xs ys r up e s is =
    let t : IsBinarySearchResult (λ y. nat_cmp y n) xs (Ok i) = subst (λ r. IsBinarySearchResult (λ y. nat_cmp y n) xs r) is (subst (λ zs. IsBinarySearchResult (λ y. nat_cmp y n) zs r) e s) in
    searched xs n (Ok i) t (rising_le xs up)

pub search_missed : (n i : ℕ) (xs ys : List ℕ) (r : Result ℕ ℕ) → IsRising xs → ys ≡ xs → IsBinarySearchResult (λ y. nat_cmp y n) ys r → r ≡ Err i → (i ≤ length xs) × ((k : ℕ) → k < i → get_or xs k 0 < n) × ((k : ℕ) → i ≤ k → k < length xs → n < get_or xs k 0)
search_missed n i xs ys r up e s is =
    let t : IsBinarySearchResult (λ y. nat_cmp y n) xs (Err i) = subst (λ r. IsBinarySearchResult (λ y. nat_cmp y n) xs r) is (subst (λ zs. IsBinarySearchResult (λ y. nat_cmp y n) zs r) e s) in
    searched xs n (Err i) t (rising_le xs up)

-- where the number that was looked for is there, those past it are after it
pub past_found : (n i : ℕ) (xs : List ℕ) → IsRising xs → (i < length xs) × (get_or xs i 0 ≡ n) → ((k : ℕ) → k < i + 1 → k < length xs → get_or xs k 0 ≤ n) × ((k : ℕ) → i + 1 ≤ k → k < length xs → n < get_or xs k 0)
past_found n i xs up at = (
  (λ k l m. let c = rising_le xs up k i (omega (arith, l)) at.0 in omega (arith, c, at.1)),
  (λ k l m. let c = rising_at xs up i k (omega (arith, l)) m in omega (arith, c, at.1)),
)

pub next_found : (passed i : ℕ) (xs ys zs : List ℕ) (r : Result ℕ ℕ) (g : Option (Bor ℕ)) (o : Option ℕ) → ys ≡ xs → zs ≡ xs → IsBinarySearchResult (λ y. nat_cmp y passed) ys r → r ≡ Ok i → IsItemAt zs (i + 1) g → o ≡ option_copied g → IsRising xs → IsFirstPast passed xs o
next_found passed i xs ys zs r g o e f s is read c up =
    let p = past_found passed i xs up (search_found passed i xs ys r up e s is) in
    next_is passed (i + 1) xs zs g o f read c up p.0 p.1

pub next_missed : (passed i : ℕ) (xs ys zs : List ℕ) (r : Result ℕ ℕ) (g : Option (Bor ℕ)) (o : Option ℕ) → ys ≡ xs → zs ≡ xs → IsBinarySearchResult (λ y. nat_cmp y passed) ys r → r ≡ Err i → IsItemAt zs i g → o ≡ option_copied g → IsRising xs → IsFirstPast passed xs o
next_missed passed i xs ys zs r g o e f s is read c up =
    let m = search_missed passed i xs ys r up e s is in
    next_is passed i xs zs g o f read c up (λ k l h. let b = m.1 k l in omega (arith, b)) m.2

-- ---- what adding and removing give

pub belongs_where_missed : (n i : ℕ) (xs ys : List ℕ) (r : Result ℕ ℕ) → IsRising xs → ys ≡ xs → IsBinarySearchResult (λ y. nat_cmp y n) ys r → r ≡ Err i → Belongs n i xs
belongs_where_missed n i xs ys r up e s is = let m = search_missed n i xs ys r up e s is in belongs n i xs m.0 m.1 m.2

-- one that isn't there is inserted
pub added_anew : (one i : ℕ) (xs ys zs : List ℕ) (r : Result ℕ ℕ) → IsRising xs → ys ≡ xs → IsBinarySearchResult (λ y. nat_cmp y one) ys r → r ≡ Err i → zs ≡ insert xs i one → ((n : ℕ) → is_in n zs ≡ ((n == one) || is_in n xs)) × IsRising zs
added_anew one i xs ys zs r up e s is z = (
  (λ n. ap (λ ws. is_in n ws) z ∙ in_inserted n one i xs),
  subst (λ ws. IsRising ws) (sym z) (rising_inserted one i xs (belongs_where_missed one i xs ys r up e s is) up),
)

-- one that is there stays
pub added_again : (one : ℕ) (xs ys : List ℕ) (r : Result ℕ ℕ) (i : ℕ) → IsRising xs → ys ≡ xs → IsBinarySearchResult (λ y. nat_cmp y one) ys r → r ≡ Ok i → (n : ℕ) → is_in n xs ≡ ((n == one) || is_in n xs)
added_again one xs ys r i up e s is n =
    let at = search_found one i xs ys r up e s is in
    in_already n one xs (ap (λ k. is_in k xs) (sym at.1) ∙ is_in_at xs i at.0)

pub removed_there : (one i : ℕ) (xs ys zs : List ℕ) (r : Result ℕ ℕ) → IsRising xs → ys ≡ xs → IsBinarySearchResult (λ y. nat_cmp y one) ys r → r ≡ Ok i → zs ≡ remove xs i → ((n : ℕ) → is_in n zs ≡ (is_in n xs && not (n == one))) × IsRising zs
removed_there one i xs ys zs r up e s is z =
    let at = search_found one i xs ys r up e s is in (
      (λ n. ap (λ ws. is_in n ws) z ∙ in_removed n one i xs up at.0 at.1),
      subst (λ ws. IsRising ws) (sym z) (rising_removed one i xs up at.0 at.1),
    )

pub removed_absent : (one i : ℕ) (xs ys : List ℕ) (r : Result ℕ ℕ) → IsRising xs → ys ≡ xs → IsBinarySearchResult (λ y. nat_cmp y one) ys r → r ≡ Err i → (n : ℕ) → is_in n xs ≡ (is_in n xs && not (n == one))
removed_absent one i xs ys r up e s is n = in_without n one xs (absent one i xs (belongs_where_missed one i xs ys r up e s is))

-- what can't fail didn't
pub succeeded : {A E : Type 0} (r : Result A E) (P : Type 0) → OnErr r P → (P → ⊥) → is_ok r ≡ true
succeeded (Ok x) P f n = refl
succeeded (Err e) P f n = absurd (n f)

pub one_of_two : (b : Bool) (ws xs zs : List ℕ) → IsRising ws → IsRising xs → zs ≡ (if b then ws else xs) → IsRising zs
one_of_two true ws xs zs f g e = subst (λ ys. IsRising ys) (sym e) f
one_of_two false ws xs zs f g e = subst (λ ys. IsRising ys) (sym e) g
