-- The least number among all entries that nobody used yet is the first of all numbers that nobody used.
use Rattle.std.proofs.Common.{◌≡◌, ℕ, zero, suc, ◌+◌, ◌<◌, ◌≤◌, Bool, true, false, cond, ◌&&◌, ◌||◌, ◌==◌, not, inl, inr, List, [], ◌∷◌, ◌++◌, find, fold, min, Contains, Option, Some, None, is_some, option_map, unwrap_or, nat_le, nat_lt, nat_eq, refl, sym, ap, subst, ◌∙◌, arith, eq-eqb, if◌then◌else◌}
use Rattle.std.proofs.lemmas.Bool.{and_from, and_parts, or_left, or_right, both_ways, cases_eq, cases_Bool, eqb-true, false_from_ne_true, true_from_ne_false, leb-true, leb-false, ltb-true, or_cases}
use Rattle.std.proofs.lemmas.List.Sums.{fold-append}
use Rattle.std.proofs.lemmas.List.Elements.{Contains-append_right}
use Rattle.std.proofs.lemmas.Map.Views.{lookup-from_Contains}
use Rattle.std.proofs.lemmas.Cmp.{nat_eq_equiv}
use Rattle.std.specs.Map.{lookup}
use Rattle.indexmap.specs.IndexMap.{IsUnique}
use Rattle.hd_server.specs.declared.vocabulary.Life.{Life}
use Rattle.hd_server.specs.declared.vocabulary.Life.TheVariants.{Unknown, Fresh, Socket, Lost, Polling, Ending}
use Rattle.hd_server.specs.Lives.{ConnectionEvent, first_fresh, gives_way, is_fresh, is_full, is_known, is_made, is_past, is_removed, deadline, life_of, made, numbers_to, past, standing}
use Rattle.hn_server_front.specs.declared.entry.Entry.{Entry}
use Rattle.hn_server_front.specs.declared.front.Front.{Front}
use Rattle.hn_server_front.specs.Entries.{Remembers}
use Rattle.hn_server_front.specs.Stands.{Stands, IsEntryOf, IsUnborn, entry_at, is_there}

-- ---- the first number that passes a test

find_some : (p : ℕ → Bool) (xs ys : List ℕ) (c : ℕ) → find p xs ≡ Some c → find p (xs ++ ys) ≡ Some c
find_some p [] ys c e = absurd (let z : ◌≡◌ {A = Option ℕ} None (Some c) = e in cc)
find_some p (x ∷ xs) ys c e = by (p x) e (find_some p xs ys c)
  where
    by : (b : Bool) → cond b (Some x) (find p xs) ≡ Some c → (find p xs ≡ Some c → find p (xs ++ ys) ≡ Some c) → cond b (Some x) (find p (xs ++ ys)) ≡ Some c
    by true f further = f
    by false f further = further f

find_none : (p : ℕ → Bool) (xs ys : List ℕ) → find p xs ≡ None → find p (xs ++ ys) ≡ find p ys
find_none p [] ys e = refl
find_none p (x ∷ xs) ys e = by (p x) e (find_none p xs ys)
  where
    by : (b : Bool) → cond b (Some x) (find p xs) ≡ None → (find p xs ≡ None → find p (xs ++ ys) ≡ find p ys) → cond b (Some x) (find p (xs ++ ys)) ≡ find p ys
    by true f further = absurd (let z : ◌≡◌ {A = Option ℕ} (Some x) None = f in cc)
    by false f further = further f

-- it is the first of the numbers to n that passes, or none of them does
abbrev IsFirstTo : (ℕ → Bool) → ℕ → Option ℕ → Type 0
IsFirstTo p n None = (k : ℕ) → 0 < k → k ≤ n → p k ≡ false
IsFirstTo p n (Some c) = (p c ≡ true) × (0 < c) × (c ≤ n) × ((k : ℕ) → 0 < k → k < c → p k ≡ false)

one_found : (p : ℕ → Bool) (x : ℕ) → p x ≡ true → find p (x ∷ []) ≡ Some x
one_found p x e = ap (λ b. cond b (Some x) None) e

none_found : (p : ℕ → Bool) (x : ℕ) → p x ≡ false → find p (x ∷ []) ≡ None
none_found p x e = ap (λ b. cond b (Some x) None) e

find_first : (p : ℕ → Bool) (n : ℕ) (o : Option ℕ) → IsFirstTo p n o → find p (numbers_to n) ≡ o
find_first p zero None i = refl
find_first p zero (Some c) i = absurd (let no : ⊥ = omega (arith, i.1, i.2) in no)
find_first p (suc n) None i =
    find_none p (numbers_to n) (suc n ∷ []) (find_first p n None (λ k l m. i k l (omega (arith, m))))
    ∙ none_found p (suc n) (i (suc n) (omega arith) (omega arith))
find_first p (suc n) (Some c) i = elim (cases_eq c (suc n)) [
  | inl e ↦ find_none p (numbers_to n) (suc n ∷ []) (find_first p n None (λ k l m. i.3 k l (omega (arith, m, e))))
      ∙ (one_found p (suc n) (ap p (sym e) ∙ i.0) ∙ ap (λ k. Some k) (sym e))
  | inr e ↦ find_some p (numbers_to n) (suc n ∷ []) c (find_first p n (Some c) (i.0, i.1, (let l = i.2 in omega (arith, l, e)), i.3))
]

-- ---- the least number among entries

abbrev pub is_unused : ℕ → List ConnectionEvent → ℕ → Bool
is_unused now h k = is_fresh (life_of k now h)

abbrev pub less_of : Option ℕ → ℕ → Option ℕ
less_of o k = Some (min (unwrap_or o k) k)

-- with one entry more
abbrev pub with_one : ℕ → List ConnectionEvent → Option ℕ → ℕ × Entry → Option ℕ
with_one now h o p = if is_unused now h p.0 then less_of o p.0 else o

abbrev pub least_unused : ℕ → List ConnectionEvent → Option ℕ → List (ℕ × Entry) → Option ℕ
least_unused now h o es = fold (with_one now h) o es

pub one_more : (now : ℕ) (h : List ConnectionEvent) (es : List (ℕ × Entry)) (p : ℕ × Entry)
    → least_unused now h None (es ++ p ∷ []) ≡ with_one now h (least_unused now h None es) p
one_more now h es p = fold-append (with_one now h) None es (p ∷ [])

abbrev has_key : ℕ → List (ℕ × Entry) → Bool
has_key k [] = false
has_key k (e ∷ es) = (k == e.0) || has_key k es

looked_up : (k : ℕ) (es : List (ℕ × Entry)) (e : Entry) → lookup (nat_eq k) es ≡ Some e → has_key k es ≡ true
looked_up k [] e f = absurd (let z : ◌≡◌ {A = Option Entry} None (Some e) = f in cc)
looked_up k (x ∷ xs) e f = elim (cases_Bool (k == x.0)) [
  | inl same ↦ or_left (k == x.0) (has_key k xs) same
  | inr other ↦ or_right (k == x.0) (has_key k xs) (looked_up k xs e (sym (ap (λ b. cond b (Some x.1) (lookup (nat_eq k) xs)) other) ∙ f))
]

-- it is the least of those that nobody used among the seen, or each of the seen was used
abbrev IsLeastSeen : ℕ → List ConnectionEvent → (ℕ → Bool) → Option ℕ → Type 0
IsLeastSeen now h seen None = (k : ℕ) → seen k ≡ true → is_unused now h k ≡ false
IsLeastSeen now h seen (Some c) = (is_unused now h c ≡ true) × ((k : ℕ) → seen k ≡ true → is_unused now h k ≡ true → c ≤ k)

module _ (now : ℕ) (h : List ConnectionEvent) where
  -- of fewer that are seen too
  seen_less : (seen fewer : ℕ → Bool) (o : Option ℕ) → ((k : ℕ) → fewer k ≡ true → seen k ≡ true) → IsLeastSeen now h seen o → IsLeastSeen now h fewer o
  seen_less seen fewer None f i = λ k e. i k (f k e)
  seen_less seen fewer (Some c) f i = (i.0, λ k e. i.1 k (f k e))

  lesser_unused : (c x : ℕ) → is_unused now h c ≡ true → is_unused now h x ≡ true → is_unused now h (min c x) ≡ true
  lesser_unused c x e f = elim (cases_Bool (nat_le c x)) [
    | inl l ↦ (let le = leb-true c x l in let is : min c x ≡ c = omega (arith, le) in ap (is_unused now h) is ∙ e)
    | inr l ↦ (let gt = leb-false c x l in let is : min c x ≡ x = omega (arith, gt) in ap (is_unused now h) is ∙ f)
  ]

  seen_one : (seen : ℕ → Bool) (o : Option ℕ) (x : ℕ) (e : Entry) → IsLeastSeen now h seen o → IsLeastSeen now h (λ k. seen k || (k == x)) (with_one now h o (x, e))
  seen_one seen o x e i = by (is_unused now h x) refl
    where
      used : (o : Option ℕ) → is_unused now h x ≡ false → IsLeastSeen now h seen o → IsLeastSeen now h (λ k. seen k || (k == x)) o
      used None f j = λ k s. elim (or_cases (seen k) (k == x) s) [ inl a ↦ j k a | inr a ↦ ap (is_unused now h) (eqb-true k x a) ∙ f ]
      used (Some c) f j = (
        j.0,
        λ k s u. elim (or_cases (seen k) (k == x) s) [
          | inl a ↦ j.1 k a u
          | inr a ↦ absurd (both_ways (is_unused now h k) (ap (is_unused now h) (eqb-true k x a) ∙ f) u)
        ],
      )

      unused : (o : Option ℕ) → is_unused now h x ≡ true → IsLeastSeen now h seen o → IsLeastSeen now h (λ k. seen k || (k == x)) (less_of o x)
      unused None f j = (
        lesser_unused x x f f,
        λ k s u. elim (or_cases (seen k) (k == x) s) [
          | inl a ↦ absurd (both_ways (is_unused now h k) (j k a) u)
          | inr a ↦ (let same : k ≡ x = eqb-true k x a in omega (arith, same))
        ],
      )
      unused (Some c) f j = (
        lesser_unused c x j.0 f,
        λ k s u. elim (or_cases (seen k) (k == x) s) [
          | inl a ↦ (let le = j.1 k a u in omega (arith, le))
          | inr a ↦ (let same : k ≡ x = eqb-true k x a in omega (arith, same))
        ],
      )

      by : (b : Bool) → is_unused now h x ≡ b → IsLeastSeen now h (λ k. seen k || (k == x)) (if b then less_of o x else o)
      by true f = unused o f i
      by false f = used o f i

  seen_all : (es : List (ℕ × Entry)) (seen : ℕ → Bool) (o : Option ℕ) → IsLeastSeen now h seen o
      → IsLeastSeen now h (λ k. seen k || has_key k es) (least_unused now h o es)
  seen_all [] seen o i = seen_less seen (λ k. seen k || false) o (λ k e. elim (or_cases (seen k) false e) [ inl a ↦ a | inr a ↦ absurd (let z : false ≡ true = a in cc) ]) i
  seen_all (x ∷ xs) seen o i =
      let next = seen_all xs (λ k. seen k || (k == x.0)) (with_one now h o x) (seen_one seen o x.0 x.1 i) in
      seen_less (λ k. (seen k || (k == x.0)) || has_key k xs) (λ k. seen k || ((k == x.0) || has_key k xs)) (least_unused now h (with_one now h o x) xs)
      (λ k e. elim (or_cases (seen k) ((k == x.0) || has_key k xs) e) [
        | inl a ↦ or_left (seen k || (k == x.0)) (has_key k xs) (or_left (seen k) (k == x.0) a)
        | inr a ↦ elim (or_cases (k == x.0) (has_key k xs) a) [
          | inl b ↦ or_left (seen k || (k == x.0)) (has_key k xs) (or_right (seen k) (k == x.0) b)
          | inr b ↦ or_right (seen k || (k == x.0)) (has_key k xs) b
        ]
      ]) next

-- ---- who is fresh is there

known_of_fresh : (b : Bool) (l : Life) → is_fresh (if b then past l else l) ≡ true → is_known l ≡ true
known_of_fresh true Unknown e = e
known_of_fresh true Fresh e = refl
known_of_fresh true (Socket lane) e = refl
known_of_fresh true Lost e = refl
known_of_fresh true Polling e = refl
known_of_fresh true Ending e = refl
known_of_fresh false Unknown e = e
known_of_fresh false Fresh e = refl
known_of_fresh false (Socket lane) e = refl
known_of_fresh false Lost e = refl
known_of_fresh false Polling e = refl
known_of_fresh false Ending e = refl

unborn_unknown : (c : ℕ) (h : List ConnectionEvent) → IsUnborn c h → is_known (standing c h) ≡ false
unborn_unknown c h u = rw (u.held, u.ended, u.socket, u.lost, u.poll, u.polled, u.opened, u.told) refl

gone_unknown : (c : ℕ) (h : List ConnectionEvent) → is_removed c h ≡ true → is_known (standing c h) ≡ false
gone_unknown c h e = rw e refl

pub fresh_there : (f : Front) (h : List ConnectionEvent) (now c : ℕ) → Stands f h → is_unused now h c ≡ true → is_there c h ≡ true
fresh_there f h now c s e =
    let known = known_of_fresh (is_past now (deadline c h)) (standing c h) e in
    let made_so = true_from_ne_false (is_made c h) (λ x. both_ways (is_known (standing c h)) (unborn_unknown c h (s.unborn c x)) known) in
    let held = false_from_ne_true (is_removed c h) (λ x. both_ways (is_known (standing c h)) (gone_unknown c h x) known) in
    and_from (is_made c h) (not (is_removed c h)) made_so (ap not held)

-- ---- of a front

module _ (f : Front) (h : List ConnectionEvent) (now : ℕ) (s : Stands f h) where
  has_entry : (c : ℕ) → is_unused now h c ≡ true → has_key c f.entries.entries ≡ true
  has_entry c e = go (entry_at f c) refl (s.entries c)
    where
      go : (o : Option Entry) → entry_at f c ≡ o → IsEntryOf o c h → has_key c f.entries.entries ≡ true
      go None is away = absurd (both_ways (is_there c h) away (fresh_there f h now c s e))
      go (Some x) is r = looked_up c f.entries.entries x is

  pub least_is_first : first_fresh now h ≡ least_unused now h None f.entries.entries
  least_is_first = find_first (is_unused now h) (made h) (least_unused now h None f.entries.entries) (by (least_unused now h None f.entries.entries) seen)
    where
      seen : IsLeastSeen now h (λ k. has_key k f.entries.entries) (least_unused now h None f.entries.entries)
      seen = seen_all now h f.entries.entries (λ k. false) None (λ k e. absurd (let z : false ≡ true = e in cc))

      by : (o : Option ℕ) → IsLeastSeen now h (λ k. has_key k f.entries.entries) o → IsFirstTo (is_unused now h) (made h) o
      by None i = λ k l m. false_from_ne_true (is_unused now h k) (λ e. both_ways (is_unused now h k) (i k (has_entry k e)) e)
      by (Some c) i =
          let is = and_parts (nat_lt 0 c) (nat_le c (made h)) (and_parts (is_made c h) (not (is_removed c h)) (fresh_there f h now c s i.0)).0 in (
            i.0,
            ltb-true 0 c is.0,
            leb-true c (made h) is.1,
            λ k l m. false_from_ne_true (is_unused now h k) (λ e.
                let le = i.1 k (has_entry k e) e in let no : ⊥ = omega (arith, le, m) in absurd no),
          )

  -- an entry that is met is that of its number
  pub met : (done rest : List (ℕ × Entry)) (c : ℕ) (e : Entry) → f.entries.entries ≡ done ++ (c, e) ∷ rest → IsUnique nat_eq f.entries → Remembers e c h
  met done rest c e are unique =
      let within = subst (λ es. Contains es (c, e)) (sym are) (Contains-append_right done ((c, e) ∷ rest) (c, e) (0, omega arith, refl)) in
      subst (λ o. IsEntryOf o c h) (lookup-from_Contains nat_eq_equiv c e f.entries.entries unique within) (s.entries c)

-- ---- the one that gives way

pub leaves_fresh : (h : List ConnectionEvent) (most now c : ℕ) → gives_way most now h ≡ Some c → is_unused now h c ≡ true
leaves_fresh h most now c e = by (is_full most now h) e
  where
    found : (xs : List ℕ) → find (is_unused now h) xs ≡ Some c → is_unused now h c ≡ true
    found [] f = absurd (let z : ◌≡◌ {A = Option ℕ} None (Some c) = f in cc)
    found (x ∷ xs) f = go (is_unused now h x) refl f (found xs)
      where
        go : (b : Bool) → is_unused now h x ≡ b → cond b (Some x) (find (is_unused now h) xs) ≡ Some c
            → (find (is_unused now h) xs ≡ Some c → is_unused now h c ≡ true) → is_unused now h c ≡ true
        go true g i further = let same : x ≡ c = ap (λ o. unwrap_or o x) i in ap (is_unused now h) (sym same) ∙ g
        go false g i further = further i

    by : (b : Bool) → (if b then first_fresh now h else None) ≡ Some c → is_unused now h c ≡ true
    by true f = found (numbers_to (made h)) f
    by false f = absurd (let z : ◌≡◌ {A = Option ℕ} None (Some c) = f in cc)

pub leaves_made : (f : Front) (h : List ConnectionEvent) (most now c : ℕ) → Stands f h → gives_way most now h ≡ Some c → is_there c h ≡ true
leaves_made f h most now c s e = fresh_there f h now c s (leaves_fresh h most now c e)
