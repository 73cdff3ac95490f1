-- What the numbers and ids of a call are.
use Rattle.std.proofs.Common.{◌≡◌, ℕ, zero, suc, ◌<◌, ◌≤◌, ◌⊎◌, inl, inr, Bool, true, false, List, [], ◌∷◌, ◌++◌, length, drop, Some, refl, sym, ap, ◌∙◌, arith}
use Rattle.std.specs.Prelude.{◌+◌, ◌==◌, if◌then◌else◌}
use Rattle.std.specs.Fmt.{decimal}
use Rattle.std.proofs.lemmas.Bool.{eqb-true, eqb-false, le-leb}
use Rattle.std.proofs.lemmas.Fmt.{decimal_injective}
use Rattle.hv_value.specs.Tree.{Tree}
use Rattle.hd_calls.specs.declared.vocabulary.CallKind.{CallKind}
use Rattle.hd_calls.specs.declared.vocabulary.CallKind.TheVariants as kind
use Rattle.hd_calls.specs.Numbers.{most_numbers}
use Rattle.hd_calls.specs.Ids.{digits_of}
use Rattle.hd_calls.specs.Peers.{Settings, has_id, streams_items}
use Rattle.hd_calls.specs.Rules.{MadeAs, names, new_live, new_numbers}
use Rattle.hi_calls.specs.Maps.{one_if, is_answered, takes_items}
use Rattle.hi_calls.specs.Numbering.{id_with, ids_after, way_with, number_after, call_numbered, call_after}

pub length-ids_after : (prefix : List ℕ) (n u : ℕ) → length (ids_after prefix n u) ≡ u
length-ids_after prefix n zero = refl
length-ids_after prefix n (suc u) = ap suc (length-ids_after prefix (suc n) u)

-- one id more stands at the end
pub ids_after-more : (prefix : List ℕ) (n u : ℕ) → ids_after prefix n (suc u) ≡ ids_after prefix n u ++ id_with prefix (suc (n + u)) ∷ []
ids_after-more prefix n zero = let e : n + 0 ≡ n = omega arith in ap (λ k. id_with prefix (suc k) ∷ []) (sym e)
ids_after-more prefix n (suc u) =
    let e : suc n + u ≡ n + suc u = omega arith in
    ap (λ ids. id_with prefix (suc n) ∷ ids) (ids_after-more prefix (suc n) u ∙ ap (λ k. ids_after prefix (suc n) u ++ id_with prefix (suc k) ∷ []) e)

names-ids : (t : Settings) (prefix : List ℕ) → ((n : ℕ) → t.name n ≡ id_with prefix n) → (n u : ℕ) → names t (suc n) u ≡ ids_after prefix n u
names-ids t prefix name n zero = refl
names-ids t prefix name n (suc u) = λ i. name (suc n) i ∷ names-ids t prefix name (suc n) u i

numbered : (t : Settings) (prefix : List ℕ) → ((n : ℕ) → t.name n ≡ id_with prefix n) → (n u : ℕ) → ids_after prefix n u ≡ names t (suc n) (length (ids_after prefix n u))
numbered t prefix name n u = sym (names-ids t prefix name n u) ∙ ap (names t (suc n)) (sym (length-ids_after prefix n u))

notify_made : (t : Settings) (prefix : List ℕ) (last : ℕ) (target : List ℕ) (arguments : List Tree) (u : ℕ) → ((n : ℕ) → t.name n ≡ id_with prefix n)
    → (b : Bool) → (u == 0) ≡ b
    → let n = if b then 0 else suc last in
    ((n ≡ 0) × (ids_after prefix n u ≡ [])) ⊎ ((0 < length (ids_after prefix n u)) × ((n ≡ suc last) × (ids_after prefix n u ≡ names t (suc n) (length (ids_after prefix n u)))))
notify_made t prefix last target arguments u name true e = inl (refl, ap (ids_after prefix 0) (eqb-true u 0 e))
notify_made t prefix last target arguments u name false e =
    inr (let l = length-ids_after prefix (suc last) u in positive u (eqb-false u 0 e) l, (refl, numbered t prefix name (suc last) u))
  where
    positive : (u : ℕ) → (u ≡ 0 → ⊥) → length (ids_after prefix (suc last) u) ≡ u → 0 < length (ids_after prefix (suc last) u)
    positive zero f l = absurd (f refl)
    positive (suc u) f l = omega arith

pub call_made : (t : Settings) (prefix : List ℕ) (last : ℕ) (k : CallKind) (target : List ℕ) (arguments : List Tree) (u : ℕ) → ((n : ℕ) → t.name n ≡ id_with prefix n)
    → MadeAs t last (number_after k u last) (way_with k (id_with prefix (number_after k u last))) (call_after prefix last k target arguments u)
call_made t prefix last kind.Notify target arguments u name = notify_made t prefix last target arguments u name (u == 0) refl
call_made t prefix last kind.Call target arguments u name = (sym (name (suc last)), (refl, numbered t prefix name (suc last) u))
call_made t prefix last kind.Stream target arguments u name = (sym (name (suc last)), (refl, numbered t prefix name (suc last) u))

-- ---- what a call's kind says of it

pub has_id-kind : (prefix : List ℕ) (n : ℕ) (k : CallKind) (target : List ℕ) (arguments : List Tree) (u : ℕ)
    → has_id (Some (call_numbered prefix n k target arguments u)) ≡ is_answered k
has_id-kind prefix n kind.Notify target arguments u = refl
has_id-kind prefix n kind.Call target arguments u = refl
has_id-kind prefix n kind.Stream target arguments u = refl

pub items-kind : (prefix : List ℕ) (n : ℕ) (k : CallKind) (target : List ℕ) (arguments : List Tree) (u : ℕ)
    → streams_items (Some (call_numbered prefix n k target arguments u)) ≡ takes_items k
items-kind prefix n kind.Notify target arguments u = refl
items-kind prefix n kind.Call target arguments u = refl
items-kind prefix n kind.Stream target arguments u = refl

live_parts : (b : Bool) (m u : ℕ) → m ≡ u → (if b then suc m else m) ≡ one_if b + u
live_parts true m u e = omega arith
live_parts false m u e = omega arith

pub new_live-kind : (prefix : List ℕ) (n : ℕ) (k : CallKind) (target : List ℕ) (arguments : List Tree) (u : ℕ)
    → new_live (call_numbered prefix n k target arguments u) ≡ one_if (is_answered k) + u
new_live-kind prefix n kind.Notify target arguments u = live_parts false (length (ids_after prefix n u)) u (length-ids_after prefix n u)
new_live-kind prefix n kind.Call target arguments u = live_parts true (length (ids_after prefix n u)) u (length-ids_after prefix n u)
new_live-kind prefix n kind.Stream target arguments u = live_parts true (length (ids_after prefix n u)) u (length-ids_after prefix n u)

-- how many numbers a call draws: none, or one and those of its uploads
pub draws : CallKind → ℕ → ℕ
draws kind.Notify u = if u == 0 then 0 else suc u
draws kind.Call u = suc u
draws kind.Stream u = suc u

pub new_numbers-kind : (prefix : List ℕ) (n : ℕ) (k : CallKind) (target : List ℕ) (arguments : List Tree) (u : ℕ)
    → new_numbers (way_with k (id_with prefix n)) (call_numbered prefix n k target arguments u) ≡ draws k u
unfolding draws
new_numbers-kind prefix n kind.Notify target arguments u = ap (λ m. if m == 0 then 0 else suc m) (length-ids_after prefix n u)
new_numbers-kind prefix n kind.Call target arguments u = ap suc (length-ids_after prefix n u)
new_numbers-kind prefix n kind.Stream target arguments u = ap suc (length-ids_after prefix n u)

-- it draws, unless it is a Notify without uploads
pub draws_some : (k : CallKind) (u : ℕ) → (is_answered k ≡ false → u ≡ 0 → ⊥) → draws k u ≡ suc u
unfolding draws
draws_some kind.Notify u f = go (u == 0) refl
  where
    go : (b : Bool) → (u == 0) ≡ b → (if b then 0 else suc u) ≡ suc u
    go true e = absurd (f refl (eqb-true u 0 e))
    go false e = refl
draws_some kind.Call u f = refl
draws_some kind.Stream u f = refl

pub draws_none : (k : CallKind) (u : ℕ) → is_answered k ≡ false → u ≡ 0 → draws k u ≡ 0
unfolding draws
draws_none kind.Notify u e z = ap (λ m. if m == 0 then 0 else suc m) z
draws_none kind.Call u e z = absurd (cc)
draws_none kind.Stream u e z = absurd (cc)

pub number_some : (k : CallKind) (u last : ℕ) → (is_answered k ≡ false → u ≡ 0 → ⊥) → number_after k u last ≡ suc last
number_some kind.Notify u last f = go (u == 0) refl
  where
    go : (b : Bool) → (u == 0) ≡ b → (if b then 0 else suc last) ≡ suc last
    go true e = absurd (f refl (eqb-true u 0 e))
    go false e = refl
number_some kind.Call u last f = refl
number_some kind.Stream u last f = refl

pub number_none : (k : CallKind) (u last : ℕ) → is_answered k ≡ false → u ≡ 0 → number_after k u last ≡ 0
number_none kind.Notify u last e z = ap (λ m. if m == 0 then 0 else suc last) z
number_none kind.Call u last e z = absurd (cc)
number_none kind.Stream u last e z = absurd (cc)

-- either the next number, or 0 for what wants no answer and has no uploads
pub number_cases : (k : CallKind) (u last : ℕ)
    → (number_after k u last ≡ suc last) ⊎ ((number_after k u last ≡ 0) × (is_answered k ≡ false) × (u ≡ 0))
number_cases kind.Notify u last = go (u == 0) refl
  where
    go : (b : Bool) → (u == 0) ≡ b → ((if b then 0 else suc last) ≡ suc last) ⊎ (((if b then 0 else suc last) ≡ 0) × (false ≡ false) × (u ≡ 0))
    go true e = inr (refl, refl, eqb-true u 0 e)
    go false e = inl refl
number_cases kind.Call u last = inl refl
number_cases kind.Stream u last = inl refl

-- ---- one id, one number

pub digits-decimal : (n : ℕ) → n ≤ most_numbers → digits_of n ≡ decimal n
digits-decimal n l = ap (λ b. if b then decimal n else n ∷ []) (le-leb n most_numbers l)

pub same_rest : (prefix xs ys : List ℕ) → prefix ++ xs ≡ prefix ++ ys → xs ≡ ys
same_rest [] xs ys e = e
same_rest (p ∷ prefix) xs ys e = same_rest prefix xs ys (cc)

pub same_number : (prefix : List ℕ) (m n : ℕ) → m ≤ most_numbers → n ≤ most_numbers → id_with prefix m ≡ id_with prefix n → m ≡ n
same_number prefix m n lm ln e =
    decimal_injective m n (omega arith) (omega arith) (sym (digits-decimal m lm) ∙ (same_rest prefix (digits_of m) (digits_of n) e ∙ digits-decimal n ln))

-- what stands after the prefix in the id of a number
pub written_digits : (prefix id s p w : List ℕ) (x n : ℕ) → s ≡ id → p ≡ prefix → s ≡ p ++ drop x s → w ≡ drop x s → n ≤ most_numbers → id_with prefix n ≡ id
    → w ≡ decimal n
written_digits prefix id s p w x n es ep split ew l e =
    ew ∙ (same_rest p (drop x s) (digits_of n) (sym split ∙ (es ∙ (sym e ∙ ap (λ q. q ++ digits_of n) (sym ep)))) ∙ digits-decimal n l)

-- and the id, if the digits stand there
pub digits_written : (prefix id s p w : List ℕ) (x n : ℕ) → s ≡ id → p ≡ prefix → s ≡ p ++ drop x s → w ≡ drop x s → n ≤ most_numbers → w ≡ decimal n
    → id_with prefix n ≡ id
digits_written prefix id s p w x n es ep split ew l e =
    ap (λ ds. prefix ++ ds) (digits-decimal n l ∙ (sym e ∙ ew)) ∙ (ap (λ q. q ++ drop x s) (sym ep) ∙ (sym split ∙ es))

-- one id more
pub after_step : (prefix : List ℕ) (n w k : ℕ) (ids new : List (List ℕ)) (id : List ℕ) → ids ≡ ids_after prefix n w → k ≡ suc (n + w) → id ≡ id_with prefix k
    → new ≡ ids ++ id ∷ [] → new ≡ ids_after prefix n (w + 1)
after_step prefix n w k ids new id a b c d =
    let e : suc w ≡ w + 1 = omega arith in
    d ∙ ((λ i. a i ++ c i ∷ []) ∙ (ap (λ j. ids_after prefix n w ++ id_with prefix j ∷ []) b ∙ (sym (ids_after-more prefix n w) ∙ ap (ids_after prefix n) e)))
