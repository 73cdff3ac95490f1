-- Those that wait, in order: which are in a part of the list, what is so after one more or one fewer, and what a search among them finds.
use Rattle.std.proofs.Common.{◌≡◌, ℕ, zero, suc, ◌+◌, ◌<◌, ◌≤◌, Bool, true, false, not, ◌&&◌, ◌||◌, ◌==◌, ◌⊎◌, inl, inr, List, [], ◌∷◌, ◌++◌, length, get_or, take, drop, insert, remove, Result, Ok, Err, OnErr, is_ok, if◌then◌else◌, nat_cmp, nat_lt, Ordering, Less, Equal, Greater, refl, sym, ap, subst, ◌∙◌, arith, eqb-true, eq-eqb, lt-ltb, ltb-true, length-take, length-drop, take-append-drop}
use Rattle.std.specs.Ordering.{ordering_then, ordering_index, MatchOrdering}
use Rattle.std.proofs.lemmas.Cmp.{ranked}
use Rattle.std.proofs.lemmas.Bool.{or_cases, or_left, or_right, or_from, and_parts, and_from, false_from_ne_true, cases_eq}
use Rattle.std.proofs.lemmas.List.{get_or-take, get_or-drop, get_or_default}
use Rattle.std.proofs.Math.Seq.{drop-cons}
use Rattle.std.specs.List.Sorted.{IsBinarySearchResult, IsNonDecreasingBy, IsPartitionPoint}
use Rattle.hn_server_front.specs.declared.moments.Waiting.{Waiting}
use Rattle.hn_server_front.specs.Moments.{at, is_same, is_within, is_before, IsInOrder}

-- ---- tests

or_assoc : (a b c : Bool) → ((a || b) || c) ≡ (a || (b || c))
or_assoc true b c = refl
or_assoc false b c = refl

or_middle : (a b c : Bool) → (a || (b || c)) ≡ (b || (a || c))
or_middle true true c = refl
or_middle true false c = refl
or_middle false b c = refl

and_true : (b : Bool) → (b && true) ≡ b
and_true true = refl
and_true false = refl

and_false : (b : Bool) → (b && false) ≡ false
and_false true = refl
and_false false = refl

-- ---- two of those that wait

pub same_is : (a b : Waiting) → is_same a b ≡ true → a ≡ b
same_is a b e =
    let p = and_parts (a.since == b.since) (a.conn == b.conn) e in
    ap (λ s. at s a.conn) (eqb-true a.since b.since p.0) ∙ ap (λ c. at b.since c) (eqb-true a.conn b.conn p.1)

pub same_self : (a : Waiting) → is_same a a ≡ true
same_self a = and_from (a.since == a.since) (a.conn == a.conn) (eq-eqb a.since a.since refl) (eq-eqb a.conn a.conn refl)

pub before_cases : (a b : Waiting) → is_before a b ≡ true → (a.since < b.since) ⊎ ((a.since ≡ b.since) × (a.conn < b.conn))
before_cases a b e = elim (or_cases (nat_lt a.since b.since) ((a.since == b.since) && nat_lt a.conn b.conn) e) [
  | inl h ↦ inl (ltb-true a.since b.since h)
  | inr h ↦ (let p = and_parts (a.since == b.since) (nat_lt a.conn b.conn) h in inr (eqb-true a.since b.since p.0, ltb-true a.conn b.conn p.1))
]

pub before_from : (a b : Waiting) → (a.since < b.since) ⊎ ((a.since ≡ b.since) × (a.conn < b.conn)) → is_before a b ≡ true
before_from a b (inl l) = or_left (nat_lt a.since b.since) ((a.since == b.since) && nat_lt a.conn b.conn) (lt-ltb a.since b.since l)
before_from a b (inr p) = or_right (nat_lt a.since b.since) ((a.since == b.since) && nat_lt a.conn b.conn) (and_from (a.since == b.since) (nat_lt a.conn b.conn) (eq-eqb a.since b.since p.0) (lt-ltb a.conn b.conn p.1))

pub before_not_self : (a : Waiting) → is_before a a ≡ true → ⊥
before_not_self a e = elim (before_cases a a e) [ inl l ↦ omega (arith, l) | inr p ↦ omega (arith, p.1) ]

pub before_through : (a b c : Waiting) → is_before a b ≡ true → is_before b c ≡ true → is_before a c ≡ true
before_through a b c e f = elim (before_cases a b e) [
  | inl l ↦ (elim (before_cases b c f) [ inl m ↦ before_from a c (inl (omega (arith, l, m))) | inr m ↦ before_from a c (inl (omega (arith, l, m.0))) ])
  | inr l ↦ (elim (before_cases b c f) [ inl m ↦ before_from a c (inl (omega (arith, l.0, m))) | inr m ↦ before_from a c (inr (omega (arith, l.0, m.0), omega (arith, l.1, m.1))) ])
]

pub before_since : (a b : Waiting) → is_before a b ≡ true → a.since ≤ b.since
before_since a b e = elim (before_cases a b e) [ inl l ↦ omega (arith, l) | inr p ↦ omega (arith, p.0) ]

-- how two compare, by the derived order
abbrev pub compared : Waiting → Waiting → Ordering
compared a b = ordering_then (nat_cmp a.since b.since) (nat_cmp a.conn b.conn)

pub compared_is : (a b : Waiting) → MatchOrdering (compared a b) (is_before a b ≡ true) (a ≡ b) (is_before b a ≡ true)
compared_is a b = go (nat_cmp a.since b.since) (nat_cmp a.conn b.conn) (ranked a.since b.since (nat_cmp a.since b.since) refl) (ranked a.conn b.conn (nat_cmp a.conn b.conn) refl)
  where
    go : (o p : Ordering) → MatchOrdering o (a.since < b.since) (a.since ≡ b.since) (b.since < a.since) → MatchOrdering p (a.conn < b.conn) (a.conn ≡ b.conn) (b.conn < a.conn) → MatchOrdering (ordering_then o p) (is_before a b ≡ true) (a ≡ b) (is_before b a ≡ true)
    go Less p s c = before_from a b (inl s)
    go Equal Less s c = before_from a b (inr (s, c))
    go Equal Equal s c = ap (λ m. at m a.conn) s ∙ ap (λ m. at b.since m) c
    go Equal Greater s c = before_from b a (inr (sym s, c))
    go Greater p s c = before_from b a (inl s)

compared_at : (a b : Waiting) (o : Ordering) → compared a b ≡ o → MatchOrdering o (is_before a b ≡ true) (a ≡ b) (is_before b a ≡ true)
compared_at a b o e = subst (λ p. MatchOrdering p (is_before a b ≡ true) (a ≡ b) (is_before b a ≡ true)) e (compared_is a b)

-- what comes later compares no lower
compared_rises : (a b x : Waiting) → is_before a b ≡ true → ordering_index (compared a x) ≤ ordering_index (compared b x)
compared_rises a b x l = go (compared a x) (compared b x) (compared_is a x) (compared_is b x)
  where
    go : (o p : Ordering) → MatchOrdering o (is_before a x ≡ true) (a ≡ x) (is_before x a ≡ true) → MatchOrdering p (is_before b x ≡ true) (b ≡ x) (is_before x b ≡ true) → ordering_index o ≤ ordering_index p
    go Less p f g = omega arith
    go Equal Less f g = absurd (before_not_self x (before_through x b x (subst (λ y. is_before y b ≡ true) f l) g))
    go Equal Equal f g = omega arith
    go Equal Greater f g = omega arith
    go Greater Less f g = absurd (before_not_self x (before_through x a x f (before_through a b x l g)))
    go Greater Equal f g = absurd (before_not_self x (before_through x a x f (subst (λ y. is_before a y ≡ true) g l)))
    go Greater Greater f g = omega arith

-- ---- which are in a list

abbrev pub none_at : Waiting
none_at = at 0 0

pub within-append : (w : Waiting) (xs ys : List Waiting) → is_within w (xs ++ ys) ≡ (is_within w xs || is_within w ys)
within-append w [] ys = refl
within-append w (x ∷ xs) ys = ap (λ b. is_same w x || b) (within-append w xs ys) ∙ sym (or_assoc (is_same w x) (is_within w xs) (is_within w ys))

pub within_parts : (w : Waiting) (i : ℕ) (xs : List Waiting) → is_within w xs ≡ (is_within w (take i xs) || is_within w (drop i xs))
within_parts w i xs = ap (λ ys. is_within w ys) (sym (take-append-drop i xs)) ∙ within-append w (take i xs) (drop i xs)

-- one that is in a list is at some place
pub found : (w : Waiting) (xs : List Waiting) → is_within w xs ≡ true → (k : ℕ) × (k < length xs) × (get_or xs k none_at ≡ w)
found w [] e = absurd (let z : false ≡ true = e in cc)
found w (x ∷ xs) e = elim (or_cases (is_same w x) (is_within w xs) e) [
  | inl h ↦ (0, omega arith, sym (same_is w x h))
  | inr h ↦ let f = found w xs h in (suc f.0, omega arith, f.2)
]

pub within_at : (xs : List Waiting) (k : ℕ) → k < length xs → is_within (get_or xs k none_at) xs ≡ true
within_at [] k l = absurd (omega (arith, l))
within_at (x ∷ xs) zero l = or_left (is_same x x) (is_within x xs) (same_self x)
within_at (x ∷ xs) (suc k) l = or_right (is_same (get_or xs k none_at) x) (is_within (get_or xs k none_at) xs) (within_at xs k (omega (arith, l)))

-- ---- a list in order

pub order_at : (xs : List Waiting) → IsInOrder xs → (i j : ℕ) → i < j → j < length xs → is_before (get_or xs i none_at) (get_or xs j none_at) ≡ true
order_at [] r i j l m = absurd (omega (arith, m))
order_at (x ∷ xs) r i zero l m = absurd (omega (arith, l))
order_at (x ∷ xs) r zero (suc j) l m = r.0 (get_or xs j none_at) (within_at xs j (omega (arith, m)))
order_at (x ∷ xs) r (suc i) (suc j) l m = order_at xs r.1 i j (omega (arith, l)) (omega (arith, m))

pub order_at_any : (xs : List Waiting) → IsInOrder xs → (i j : ℕ) (d : Waiting) → i < j → j < length xs → is_before (get_or xs i d) (get_or xs j d) ≡ true
order_at_any xs r i j d l m =
    subst (λ w. is_before w (get_or xs j d) ≡ true) (get_or_default xs i none_at d (omega (arith, l, m))) (
    subst (λ w. is_before (get_or xs i none_at) w ≡ true) (get_or_default xs j none_at d m) (order_at xs r i j l m)
    )

-- two parts that are in order when they are joined
pub record Parts (xs ys : List Waiting) : Type 0 where
  pub left : IsInOrder xs
  pub right : IsInOrder ys
  pub across : (a b : Waiting) → is_within a xs ≡ true → is_within b ys ≡ true → is_before a b ≡ true

pub parts_from_order : (xs ys : List Waiting) → IsInOrder (xs ++ ys) → Parts xs ys
parts_from_order [] ys r = record { left = tt; right = r; across = λ a b i j. absurd (let z : false ≡ true = i in cc) }
parts_from_order (x ∷ xs) ys r =
    let p = parts_from_order xs ys r.1 in
    let below : (k : Waiting) → is_within k ys ≡ true → is_before x k ≡ true = λ k e. r.0 k (within-append k xs ys ∙ or_right (is_within k xs) (is_within k ys) e) in
    record {
      left = (λ k e. r.0 k (within-append k xs ys ∙ or_left (is_within k xs) (is_within k ys) e), p.left);
      right = p.right;
      across = λ a b i j. elim (or_cases (is_same a x) (is_within a xs) i) [
        | inl h ↦ subst (λ y. is_before y b ≡ true) (sym (same_is a x h)) (below b j)
        | inr h ↦ p.across a b h j
      ];
    }

pub order_from_parts : (xs ys : List Waiting) → Parts xs ys → IsInOrder (xs ++ ys)
order_from_parts [] ys p = p.right
order_from_parts (x ∷ xs) ys p = (
  λ k e. elim (or_cases (is_within k xs) (is_within k ys) (sym (within-append k xs ys) ∙ e)) [
    | inl h ↦ p.left.0 k h
    | inr h ↦ p.across x k (or_left (is_same x x) (is_within x xs) (same_self x)) h
  ],
  order_from_parts xs ys (record { left = p.left.1; right = p.right; across = λ a b i j. p.across a b (or_right (is_same a x) (is_within a xs) i) j }),
)

-- ---- one more

-- where one belongs that isn't there: those before its place come before it, and those after it after
pub record Belongs (n : Waiting) (i : ℕ) (xs : List Waiting) : Type 0 where
  pub below : (k : Waiting) → is_within k (take i xs) ≡ true → is_before k n ≡ true
  pub above : (k : Waiting) → is_within k (drop i xs) ≡ true → is_before n k ≡ true

pub belongs : (n : Waiting) (i : ℕ) (xs : List Waiting) → i ≤ length xs → ((k : ℕ) → k < i → is_before (get_or xs k none_at) n ≡ true) → ((k : ℕ) → i ≤ k → k < length xs → is_before n (get_or xs k none_at) ≡ true) → Belongs n i xs
belongs n i xs l f g = record {
  below = λ k e.
      let w = found k (take i xs) e in
      let b : w.0 < i = omega (arith, length-take i xs, w.1) in
      let v : get_or xs w.0 none_at ≡ k = sym (get_or-take i xs w.0 none_at b) ∙ w.2 in
      subst (λ y. is_before y n ≡ true) v (f w.0 b);
  above = λ k e.
      let w = found k (drop i xs) e in
      let v : get_or xs (i + w.0) none_at ≡ k = sym (get_or-drop i xs w.0 none_at) ∙ w.2 in
      subst (λ y. is_before n y ≡ true) v (g (i + w.0) (omega arith) (omega (arith, length-drop i xs, w.1)));
}

pub absent : (n : Waiting) (i : ℕ) (xs : List Waiting) → Belongs n i xs → is_within n xs ≡ false
absent n i xs s = false_from_ne_true (is_within n xs) (λ e. elim (or_cases (is_within n (take i xs)) (is_within n (drop i xs)) (sym (within_parts n i xs) ∙ e)) [
  | inl h ↦ before_not_self n (s.below n h)
  | inr h ↦ before_not_self n (s.above n h)
])

pub within_inserted : (n one : Waiting) (i : ℕ) (xs : List Waiting) → is_within n (insert xs i one) ≡ (is_same n one || is_within n xs)
within_inserted n one i xs =
    within-append n (take i xs) (one ∷ drop i xs)
    ∙ (or_middle (is_within n (take i xs)) (is_same n one) (is_within n (drop i xs)) ∙ ap (λ b. is_same n one || b) (sym (within_parts n i xs)))

pub order_inserted : (one : Waiting) (i : ℕ) (xs : List Waiting) → Belongs one i xs → IsInOrder xs → IsInOrder (insert xs i one)
order_inserted one i xs s r =
    let p = parts_from_order (take i xs) (drop i xs) (subst (λ ys. IsInOrder ys) (sym (take-append-drop i xs)) r) in
    order_from_parts (take i xs) (one ∷ drop i xs) (record {
      left = p.left;
      right = (s.above, p.right);
      across = λ a b e f. elim (or_cases (is_same b one) (is_within b (drop i xs)) f) [
        | inl h ↦ subst (λ y. is_before a y ≡ true) (sym (same_is b one h)) (s.below a e)
        | inr h ↦ p.across a b e h
      ];
    })

-- one that is there already
pub within_already : (n one : Waiting) (xs : List Waiting) → is_within one xs ≡ true → is_within n xs ≡ (is_same n one || is_within n xs)
within_already n one xs e = go (is_same n one) refl
  where
    go : (b : Bool) → is_same n one ≡ b → is_within n xs ≡ (b || is_within n xs)
    go true h = ap (λ k. is_within k xs) (same_is n one h) ∙ e
    go false h = refl

-- ---- one fewer

without : (n one : Waiting) (front back : List Waiting) → Parts front (one ∷ back) → (is_within n front || is_within n back) ≡ ((is_within n front || (is_same n one || is_within n back)) && not (is_same n one))
without n one front back p = go (is_same n one) refl
  where
    go : (b : Bool) → is_same n one ≡ b → (is_within n front || is_within n back) ≡ ((is_within n front || (b || is_within n back)) && not b)
    go true h =
        let q : n ≡ one = same_is n one h in
        or_from (is_within n front) (is_within n back)
        (false_from_ne_true (is_within n front) (λ e. before_not_self one (subst (λ y. is_before y one ≡ true) q (p.across n one e (or_left (is_same one one) (is_within one back) (same_self one))))))
        (false_from_ne_true (is_within n back) (λ e. before_not_self one (subst (λ y. is_before one y ≡ true) q (p.right.0 n e))))
        ∙ sym (and_false (is_within n front || (true || is_within n back)))
    go false h = sym (and_true (is_within n front || is_within n back))

-- a list around the one at a place
split_at : (one : Waiting) (i : ℕ) (xs : List Waiting) → i < length xs → get_or xs i none_at ≡ one → take i xs ++ one ∷ drop (suc i) xs ≡ xs
split_at one i xs l e = ap (λ k. take i xs ++ k ∷ drop (suc i) xs) (sym e) ∙ (ap (λ ys. take i xs ++ ys) (sym (drop-cons xs i none_at l)) ∙ take-append-drop i xs)

parts_at : (one : Waiting) (i : ℕ) (xs : List Waiting) → IsInOrder xs → i < length xs → get_or xs i none_at ≡ one → Parts (take i xs) (one ∷ drop (suc i) xs)
parts_at one i xs r l e = parts_from_order (take i xs) (one ∷ drop (suc i) xs) (subst (λ ys. IsInOrder ys) (sym (split_at one i xs l e)) r)

pub within_removed : (n one : Waiting) (i : ℕ) (xs : List Waiting) → IsInOrder xs → i < length xs → get_or xs i none_at ≡ one → is_within n (remove xs i) ≡ (is_within n xs && not (is_same n one))
within_removed n one i xs r l e =
    within-append n (take i xs) (drop (suc i) xs)
    ∙ (without n one (take i xs) (drop (suc i) xs) (parts_at one i xs r l e)
    ∙ ap (λ b. b && not (is_same n one)) (sym (within-append n (take i xs) (one ∷ drop (suc i) xs)) ∙ ap (λ ys. is_within n ys) (split_at one i xs l e)))

pub order_removed : (one : Waiting) (i : ℕ) (xs : List Waiting) → IsInOrder xs → i < length xs → get_or xs i none_at ≡ one → IsInOrder (remove xs i)
order_removed one i xs r l e =
    let p = parts_at one i xs r l e in
    order_from_parts (take i xs) (drop (suc i) xs) (record {
      left = p.left;
      right = p.right.1;
      across = λ a b f g. p.across a b f (or_right (is_same b one) (is_within b (drop (suc i) xs)) g);
    })

-- one that isn't there
pub within_without : (n one : Waiting) (xs : List Waiting) → is_within one xs ≡ false → is_within n xs ≡ (is_within n xs && not (is_same n one))
within_without n one xs e = go (is_same n one) refl
  where
    go : (b : Bool) → is_same n one ≡ b → is_within n xs ≡ (is_within n xs && not b)
    go true h = (ap (λ k. is_within k xs) (same_is n one h) ∙ e) ∙ sym (and_false (is_within n xs))
    go false h = sym (and_true (is_within n xs))

-- ---- what a search finds

searchable : (x : Waiting) (xs : List Waiting) → IsInOrder xs → IsNonDecreasingBy (λ y. ordering_index (compared y x)) xs
searchable x xs r i j d l m = elim (cases_eq i j) [
  | inl e ↦ (let v : ordering_index (compared (get_or xs i d) x) ≡ ordering_index (compared (get_or xs j d) x) = ap (λ k. ordering_index (compared (get_or xs k d) x)) e in omega (arith, v))
  | inr e ↦ (let o : is_before (get_or xs i d) (get_or xs j d) ≡ true = order_at_any xs r i j d (omega (arith, l, e)) m in compared_rises (get_or xs i d) (get_or xs j d) x o)
]

pub search_found : (x : Waiting) (i : ℕ) (xs ys : List Waiting) (r : Result ℕ ℕ) → ys ≡ xs → IsBinarySearchResult (λ y. compared y x) ys r → r ≡ Ok i → get_or xs i none_at ≡ x
search_found x i xs ys r e s is =
    let t : IsBinarySearchResult (λ y. compared y x) xs (Ok i) = subst (λ r. IsBinarySearchResult (λ y. compared y x) xs r) is (subst (λ zs. IsBinarySearchResult (λ y. compared y x) zs r) e s) in
    compared_at (get_or xs i none_at) x Equal (t none_at)

pub there_where_found : (x : Waiting) (i : ℕ) (xs ys : List Waiting) (r : Result ℕ ℕ) → ys ≡ xs → i < length xs → IsBinarySearchResult (λ y. compared y x) ys r → r ≡ Ok i → is_within x xs ≡ true
there_where_found x i xs ys r e l s is = ap (λ w. is_within w xs) (sym (search_found x i xs ys r e s is)) ∙ within_at xs i l

pub search_missed : (x : Waiting) (i : ℕ) (xs ys : List Waiting) (r : Result ℕ ℕ) → IsInOrder xs → ys ≡ xs → i ≤ length xs → IsBinarySearchResult (λ y. compared y x) ys r → r ≡ Err i → Belongs x i xs
search_missed x i xs ys r up e l s is =
    let t : IsBinarySearchResult (λ y. compared y x) xs (Err i) = subst (λ r. IsBinarySearchResult (λ y. compared y x) xs r) is (subst (λ zs. IsBinarySearchResult (λ y. compared y x) zs r) e s) in
    let p : IsPartitionPoint (λ y. compared y x ≡ Less) (λ y. compared y x ≡ Greater) xs i = t (searchable x xs up) in
    belongs x i xs l
    (λ k m. compared_at (get_or xs k none_at) x Less (p.0 k none_at (omega arith) m))
    (λ k m o. compared_at (get_or xs k none_at) x Greater (p.1 k none_at m o))

-- ---- what adding and removing give

-- what can't fail didn't
pub succeeded : {A E : Type 0} (r : Result A E) (P : Type 0) → OnErr r P → (P → ⊥) → is_ok r ≡ true
succeeded (Ok x) P f n = refl
succeeded (Err e) P f n = absurd (n f)

pub one_of_two : (b : Bool) (ws xs zs : List Waiting) → IsInOrder ws → IsInOrder xs → zs ≡ (if b then ws else xs) → IsInOrder zs
one_of_two true ws xs zs f g e = subst (λ ys. IsInOrder ys) (sym e) f
one_of_two false ws xs zs f g e = subst (λ ys. IsInOrder ys) (sym e) g
