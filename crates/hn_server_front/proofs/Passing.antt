-- Those whose moment has come: they are the first in order, and one of them has the least number.
use Rattle.std.proofs.Common.{◌≡◌, ℕ, zero, suc, ◌+◌, ◌<◌, ◌≤◌, Bool, true, false, inl, inr, List, [], ◌∷◌, ◌++◌, length, get_or, take, filter, min, Option, Some, None, unwrap_or, cond, refl, sym, ap, subst, ◌∙◌, arith, le-leb, leb-true}
use Rattle.std.proofs.lemmas.Bool.{or_cases, or_left, or_right, cases_lt, cases_eq}
use Rattle.std.specs.List.Sorted.{IsPartitionPoint, IsPartitionedBy}
use Rattle.hn_server_front.specs.declared.moments.Waiting.{Waiting}
use Rattle.hn_server_front.specs.Moments.{at, is_same, is_within, is_due, IsInOrder, IsLeast}
use Rattle.hn_server_front.proofs.Placed.{before_since, order_at_any, same_is, same_self, within-append}

-- ---- a list whose first pass a test

filter_none : (p : Waiting → Bool) (xs : List Waiting) → ((k : ℕ) (d : Waiting) → k < length xs → p (get_or xs k d) ≡ false) → filter p xs ≡ []
filter_none p [] f = refl
filter_none p (x ∷ xs) f = ap (λ b. cond b (x ∷ filter p xs) (filter p xs)) (f 0 x (omega arith)) ∙ filter_none p xs (λ k d l. f (suc k) d (omega (arith, l)))

pub filter_taken : (p : Waiting → Bool) (xs : List Waiting) (i : ℕ) → IsPartitionPoint (λ w. p w ≡ true) (λ w. p w ≡ false) xs i → take i xs ≡ filter p xs
filter_taken p xs zero q = sym (filter_none p xs (λ k d l. q.1 k d (omega arith) l))
filter_taken p [] (suc i) q = refl
filter_taken p (x ∷ xs) (suc i) q =
    ap (λ ys. x ∷ ys) (filter_taken p xs i ((λ k d l m. q.0 (suc k) d (omega arith) (omega (arith, m))), (λ k d l m. q.1 (suc k) d (omega (arith, l)) (omega (arith, m)))))
    ∙ sym (ap (λ b. cond b (x ∷ filter p xs) (filter p xs)) (q.0 0 x (omega arith) (omega arith)))

-- ---- those that are due

due_before : (lasts now : ℕ) (a b : Waiting) → a.since ≤ b.since → is_due lasts now b ≡ true → is_due lasts now a ≡ true
due_before lasts now a b l e = let m : b.since + lasts ≤ now = leb-true (b.since + lasts) now e in le-leb (a.since + lasts) now (omega (arith, l, m))

pub due_first : (lasts now : ℕ) (xs ys : List Waiting) → ys ≡ xs → IsInOrder xs → IsPartitionedBy (λ (w : Waiting). is_due lasts now w) ys
due_first lasts now xs ys e r i j d l m t = elim (cases_eq i j) [
  | inl q ↦ ap (λ k. is_due lasts now (get_or ys k d)) q ∙ t
  | inr q ↦ (
      let o : IsInOrder ys = subst (λ zs. IsInOrder zs) (sym e) r in
      due_before lasts now (get_or ys i d) (get_or ys j d)
      (before_since (get_or ys i d) (get_or ys j d) (order_at_any ys o i j d (omega (arith, l, q)) m)) t)
]

-- ---- the least number

pub least_more : (ys : List Waiting) (w : Waiting) (least : Option ℕ) → IsLeast ys least → IsLeast (ys ++ w ∷ []) (Some (min (unwrap_or least w.conn) w.conn))
least_more ys w None e =
    let m : min w.conn w.conn ≡ w.conn = omega arith in
    subst (λ zs. IsLeast (zs ++ w ∷ []) (Some (min w.conn w.conn))) (sym e) (
      (w.since, ap (λ c. is_within (at w.since c) (w ∷ [])) m ∙ or_left (is_same w w) false (same_self w)),
      λ v h. elim (or_cases (is_same v w) false h) [
        | inl s ↦ (let q = ap (λ (x : Waiting). x.conn) (same_is v w s) in omega (arith, q, m))
        | inr s ↦ absurd (let z : false ≡ true = s in cc)
      ],
    )
least_more ys w (Some c) p = elim (cases_lt c w.conn) [
  | inl l ↦ (
      let m : min c w.conn ≡ c = omega (arith, l) in (
        (p.0.0, ap (λ n. is_within (at p.0.0 n) (ys ++ w ∷ [])) m ∙ (within-append (at p.0.0 c) ys (w ∷ []) ∙ or_left (is_within (at p.0.0 c) ys) (is_within (at p.0.0 c) (w ∷ [])) p.0.1)),
        λ v h. elim (or_cases (is_within v ys) (is_within v (w ∷ [])) (sym (within-append v ys (w ∷ [])) ∙ h)) [
          | inl s ↦ (let q = p.1 v s in omega (arith, q, m))
          | inr s ↦ (let q = last v s in omega (arith, q, m, l))
        ],
      ))
  | inr l ↦ (
      let m : min c w.conn ≡ w.conn = omega (arith, l) in (
        (w.since, ap (λ n. is_within (at w.since n) (ys ++ w ∷ [])) m ∙ (within-append w ys (w ∷ []) ∙ or_right (is_within w ys) (is_within w (w ∷ [])) (or_left (is_same w w) false (same_self w)))),
        λ v h. elim (or_cases (is_within v ys) (is_within v (w ∷ [])) (sym (within-append v ys (w ∷ [])) ∙ h)) [
          | inl s ↦ (let q = p.1 v s in omega (arith, q, m, l))
          | inr s ↦ (let q = last v s in omega (arith, q, m))
        ],
      ))
]
  where
    last : (v : Waiting) → is_within v (w ∷ []) ≡ true → v.conn ≡ w.conn
    last v h = elim (or_cases (is_same v w) false h) [ inl s ↦ ap (λ (x : Waiting). x.conn) (same_is v w s) | inr s ↦ absurd (let z : false ≡ true = s in cc) ]
