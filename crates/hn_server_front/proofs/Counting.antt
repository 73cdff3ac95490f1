-- How many numbers up to a bound pass a test; and as many connections wait as have a moment.
use Rattle.std.proofs.Common.{◌≡◌, ℕ, zero, suc, ◌+◌, ◌<◌, ◌≤◌, Bool, true, false, cond, ◌&&◌, ◌||◌, ◌==◌, not, inl, inr, List, [], ◌∷◌, length, filter, Option, Some, None, is_some, option_map, nat_le, nat_lt, refl, sym, ap, ◌∙◌, arith, eq-eqb, ne_eqb, if◌then◌else◌}
use Rattle.std.proofs.Common.{length-append}
use Rattle.std.proofs.lemmas.Bool.{and_from, or_cases, and_parts, or_left, or_right, false_from_ne_true, true_from_ne_false, cases_eq, eqb-true, leb-true, ltb-true}
use Rattle.std.proofs.lemmas.List.Elements.{filter-append}
use Rattle.indexmap.specs.IndexMap.{index_map_len}
use Rattle.hd_delivery.specs.Histories.{is_this}
use Rattle.hd_server.specs.Lives.{ConnectionEvent, made, numbers_to, is_made, is_removed, poll_of, since}
use Rattle.hn_server_front.specs.declared.front.Front.{Front}
use Rattle.hn_server_front.specs.declared.moments.Waiting.{Waiting}
use Rattle.hn_server_front.specs.Moments.{IsInOrder, at, is_before, is_same, is_within}
use Rattle.hn_server_front.specs.Stands.{Stands, IsUnborn, held_since, is_there, since_of}

-- ---- numbers that pass a test

abbrev pub count : ℕ → (ℕ → Bool) → ℕ
count n p = length (filter p (numbers_to n))

one : {A : Type 0} (p : A → Bool) (x : A) → length (filter p (x ∷ [])) ≡ cond (p x) 1 0
one p x = go (p x)
  where
    go : (b : Bool) → length (cond b (x ∷ []) []) ≡ cond b 1 0
    go true = refl
    go false = refl

pub count_next : (n : ℕ) (p : ℕ → Bool) → count (suc n) p ≡ count n p + cond (p (suc n)) 1 0
count_next n p =
    ap length (filter-append p (numbers_to n) (suc n ∷ []))
    ∙ (length-append (filter p (numbers_to n)) (filter p (suc n ∷ [])) ∙ ap (λ k. count n p + k) (one p (suc n)))

-- what holds of the tests at each number, as many in all
pub count_sum : (n : ℕ) (p q r : ℕ → Bool) → ((c : ℕ) → 0 < c → c ≤ n → cond (p c) 1 0 + cond (q c) 1 0 ≡ cond (r c) 1 0) → count n p + count n q ≡ count n r
count_sum zero p q r f = refl
count_sum (suc n) p q r f =
    let rest = count_sum n p q r (λ c l m. f c l (omega (arith, m))) in
    let last = f (suc n) (omega arith) (omega arith) in
    omega (arith, rest, last, count_next n p, count_next n q, count_next n r)

-- a test that passes what another passes
pub count_more : (n : ℕ) (p q : ℕ → Bool) → ((c : ℕ) → 0 < c → c ≤ n → p c ≡ true → q c ≡ true) → count n p ≤ count n q
count_more zero p q f = omega arith
count_more (suc n) p q f =
    let rest = count_more n p q (λ c l m. f c l (omega (arith, m))) in
    let last = go (p (suc n)) refl (q (suc n)) refl in
    omega (arith, rest, last, count_next n p, count_next n q)
  where
    go : (a : Bool) → p (suc n) ≡ a → (b : Bool) → q (suc n) ≡ b → cond a 1 0 ≤ cond b 1 0
    go true e true g = omega arith
    go true e false g = absurd (let z : false ≡ true = sym g ∙ f (suc n) (omega arith) (omega arith) e in cc)
    go false e true g = omega arith
    go false e false g = omega arith

-- up to the bound alone
pub count_alike : (n : ℕ) (p q : ℕ → Bool) → ((c : ℕ) → 0 < c → c ≤ n → p c ≡ q c) → count n p ≡ count n q
count_alike zero p q f = refl
count_alike (suc n) p q f =
    let rest = count_alike n p q (λ c l m. f c l (omega (arith, m))) in
    count_next n p ∙ (ap (λ k. k + cond (p (suc n)) 1 0) rest
    ∙ (ap (λ b. count n q + cond b 1 0) (f (suc n) (omega arith) (omega arith)) ∙ sym (count_next n q)))

pub count_same : (n : ℕ) (p q : ℕ → Bool) → ((c : ℕ) → p c ≡ q c) → length (filter p (numbers_to n)) ≡ length (filter q (numbers_to n))
count_same n p q f = count_alike n p q (λ c l m. f c)

-- one number passes the first test alone
pub count_without : (n c : ℕ) (p q : ℕ → Bool) → 0 < c → c ≤ n → p c ≡ true → q c ≡ false → ((k : ℕ) → (k ≡ c → ⊥) → p k ≡ q k)
    → length (filter p (numbers_to n)) ≡ suc (length (filter q (numbers_to n)))
count_without zero c p q l m a b f = absurd (omega (arith, l, m))
count_without (suc n) c p q l m a b f = elim (cases_eq c (suc n)) [ inl e ↦ last e | inr e ↦ before e (count_without n c p q l (omega (arith, m, e)) a b f) ]
  where
    last : c ≡ suc n → count (suc n) p ≡ suc (count (suc n) q)
    last e =
        let rest = count_alike n p q (λ k i j. f k (λ h. omega (arith, i, j, h, e))) in
        let x : ◌≡◌ {A = ℕ} (cond (p (suc n)) 1 0) 1 = ap (λ t. cond t 1 0) (ap p (sym e) ∙ a) in
        let y : ◌≡◌ {A = ℕ} (cond (q (suc n)) 1 0) 0 = ap (λ t. cond t 1 0) (ap q (sym e) ∙ b) in
        omega (arith, rest, x, y, count_next n p, count_next n q)

    before : (c ≡ suc n → ⊥) → count n p ≡ suc (count n q) → count (suc n) p ≡ suc (count (suc n) q)
    before e rest =
        let x : ◌≡◌ {A = ℕ} (cond (p (suc n)) 1 0) (cond (q (suc n)) 1 0) = ap (λ t. cond t 1 0) (f (suc n) (λ h. e (sym h))) in
        omega (arith, rest, x, count_next n p, count_next n q)

pub count_none : (n : ℕ) (p : ℕ → Bool) → ((c : ℕ) → p c ≡ false) → count n p ≡ 0
count_none zero p f = refl
count_none (suc n) p f =
    let rest = count_none n p f in
    let last : ◌≡◌ {A = ℕ} (cond (p (suc n)) 1 0) 0 = ap (λ t. cond t 1 0) (f (suc n)) in
    omega (arith, rest, last, count_next n p)

-- ---- those that wait

-- they wait exactly since these moments
abbrev pub WaitFor : List Waiting → (ℕ → Option ℕ) → Type 0
WaitFor ws s = (w : Waiting) → is_within w ws ≡ is_this w.since (s w.conn)

pub is_this_at : (n : ℕ) (o : Option ℕ) → is_this n o ≡ true → o ≡ Some n
is_this_at n None e = absurd (let z : false ≡ true = e in cc)
is_this_at n (Some k) e = ap (λ x. Some x) (sym (eqb-true n k e))

pub is_this_self : (n : ℕ) (o : Option ℕ) → o ≡ Some n → is_this n o ≡ true
is_this_self n o e = ap (λ x. is_this n x) e ∙ eq-eqb n n refl

pub same_self : (w : Waiting) → is_same w w ≡ true
same_self w = and_from (w.since == w.since) (w.conn == w.conn) (eq-eqb w.since w.since refl) (eq-eqb w.conn w.conn refl)

pub first_within : (w : Waiting) (ws : List Waiting) → is_within w (w ∷ ws) ≡ true
first_within w ws = or_left (is_same w w) (is_within w ws) (same_self w)

-- none is before itself
not_before : (v w : Waiting) → v.since ≡ w.since → v.conn ≡ w.conn → is_before w v ≡ true → ⊥
not_before v w e f b = elim (or_cases (nat_lt w.since v.since) ((w.since == v.since) && nat_lt w.conn v.conn) b) [
  | inl x ↦ (let l = ltb-true w.since v.since x in omega (arith, l, e))
  | inr x ↦ (let l = ltb-true w.conn v.conn (and_parts (w.since == v.since) (nat_lt w.conn v.conn) x).1 in omega (arith, l, f))
]

-- without the first, the others wait
others : (w : Waiting) (ws : List Waiting) (s : ℕ → Option ℕ) → IsInOrder (w ∷ ws) → WaitFor (w ∷ ws) s → WaitFor ws (λ c. if c == w.conn then None else s c)
others w ws s order waits v = go (v.conn == w.conn) refl
  where
    own : s w.conn ≡ Some w.since
    own = is_this_at w.since (s w.conn) (sym (waits w) ∙ first_within w ws)

    go : (b : Bool) → (v.conn == w.conn) ≡ b → is_within v ws ≡ is_this v.since (if b then None else s v.conn)
    go true e = false_from_ne_true (is_within v ws) (λ i.
        let same : v.conn ≡ w.conn = eqb-true v.conn w.conn e in
        let his : s v.conn ≡ Some v.since = is_this_at v.since (s v.conn) (sym (waits v) ∙ or_right (is_same v w) (is_within v ws) i) in
        let both : Some v.since ≡ Some w.since = sym his ∙ (ap s same ∙ own) in
        not_before v w (ap (λ o. moment o) both) same (order.0 v i))
      where
        moment : Option ℕ → ℕ
        moment None = 0
        moment (Some m) = m
    go false e = sym (ap (λ b. b || is_within v ws) (apart (v.since == w.since) e)) ∙ waits v
      where
        apart : (a : Bool) → (v.conn == w.conn) ≡ false → (a && (v.conn == w.conn)) ≡ false
        apart true f = f
        apart false f = refl

-- as many of those that wait pass a test as numbers that have a moment
pub count_waiting : (n : ℕ) (ws : List Waiting) (s : ℕ → Option ℕ) (p : ℕ → Bool) → IsInOrder ws → WaitFor ws s
    → ((c : ℕ) → is_some (s c) ≡ true → (0 < c) × (c ≤ n))
    → length (filter (λ w. p w.conn) ws) ≡ count n (λ c. is_some (s c) && p c)
count_waiting n [] s p order waits within = sym (count_none n (λ c. is_some (s c) && p c) (λ c. go c (s c) refl))
  where
    go : (c : ℕ) (o : Option ℕ) → s c ≡ o → (is_some o && p c) ≡ false
    go c None e = refl
    go c (Some m) e = absurd (let z : false ≡ true = waits (at m c) ∙ is_this_self m (s c) e in cc)
count_waiting n (w ∷ ws) s p order waits within =
    go (p w.conn) refl (count_waiting n ws rest p order.1 (others w ws s order waits) (λ c e. within c (some_rest c (c == w.conn) e)))
  where
    rest : ℕ → Option ℕ
    rest c = if c == w.conn then None else s c

    own : s w.conn ≡ Some w.since
    own = is_this_at w.since (s w.conn) (sym (waits w) ∙ first_within w ws)

    some_rest : (c : ℕ) (b : Bool) → (let o : Option ℕ = if b then None else s c in is_some o ≡ true) → is_some (s c) ≡ true
    some_rest c true e = absurd (let z : false ≡ true = e in cc)
    some_rest c false e = e

    gone : rest w.conn ≡ None
    gone = ap (λ b. if b then None else s w.conn) (eq-eqb w.conn w.conn refl)

    kept : (c : ℕ) → (c ≡ w.conn → ⊥) → s c ≡ rest c
    kept c f = sym (ap (λ b. if b then None else s c) (ne_eqb c w.conn f))

    go : (b : Bool) → p w.conn ≡ b → length (filter (λ v. p v.conn) ws) ≡ count n (λ c. is_some (rest c) && p c)
        → length (cond b (w ∷ filter (λ v. p v.conn) ws) (filter (λ v. p v.conn) ws)) ≡ count n (λ c. is_some (s c) && p c)
    go true e others_count =
        let place = within w.conn (ap (λ o. is_some o) own) in
        ap suc others_count ∙ sym (count_without n w.conn (λ c. is_some (s c) && p c) (λ c. is_some (rest c) && p c) place.0 place.1
        (and_from (is_some (s w.conn)) (p w.conn) (ap (λ o. is_some o) own) e)
        (ap (λ o. is_some o && p w.conn) gone)
        (λ k f. ap (λ o. is_some o && p k) (kept k f)))
    go false e others_count = others_count ∙ count_alike n (λ c. is_some (rest c) && p c) (λ c. is_some (s c) && p c) (λ c l m. elim (cases_eq c w.conn) [
      | inl same ↦ no_matter c same
      | inr apart ↦ ap (λ o. is_some o && p c) (sym (kept c apart))
    ])
      where
        none_passes : (a b : Bool) (c : ℕ) → p c ≡ false → (a && p c) ≡ (b && p c)
        none_passes a b c f = ap (λ t. a && t) f ∙ (both a b ∙ sym (ap (λ t. b && t) f))
          where
            both : (a b : Bool) → (a && false) ≡ (b && false)
            both true true = refl
            both true false = refl
            both false true = refl
            both false false = refl

        no_matter : (c : ℕ) → c ≡ w.conn → (is_some (rest c) && p c) ≡ (is_some (s c) && p c)
        no_matter c same = none_passes (is_some (rest c)) (is_some (s c)) c (ap p same ∙ e)

all_pass : {A : Type 0} (xs : List A) → length (filter (λ x. true) xs) ≡ length xs
all_pass [] = refl
all_pass (x ∷ xs) = ap suc (all_pass xs)

-- where no number waits but those that pass a test
module _ (n : ℕ) (ws : List Waiting) (s : ℕ → Option ℕ) (p : ℕ → Bool) (order : IsInOrder ws) (waits : WaitFor ws s)
    (passes : (c : ℕ) → is_some (s c) ≡ true → p c ≡ true) (within : (c : ℕ) → p c ≡ true → (0 < c) × (c ≤ n)) where
  length_counted : length ws ≡ count n (λ c. is_some (s c) && true)
  length_counted = sym (all_pass ws) ∙ count_waiting n ws s (λ c. true) order waits (λ c e. within c (passes c e))

  -- as many wait as pass it, or fewer
  pub few : length ws ≤ count n p
  few =
      let less = count_more n (λ c. is_some (s c) && true) p (λ c l m e. passes c (and_parts (is_some (s c)) true e).0) in
      omega (arith, less, length_counted)

  -- and fewer where one that passes doesn't wait
  pub fewer : (c : ℕ) → p c ≡ true → s c ≡ None → length ws < count n p
  fewer c there none =
      let own : (p c && not (c == c)) ≡ false = ap (λ b. p c && not b) (eq-eqb c c refl) ∙ last (p c) in
      let others : (k : ℕ) → (k ≡ c → ⊥) → p k ≡ (p k && not (k == c)) =
      λ k e. sym (ap (λ b. p k && not b) (ne_eqb k c e) ∙ first (p k)) in
      let as_many = count_without n c p (λ k. p k && not (k == c)) (within c there).0 (within c there).1 there own others in
      let less = count_more n (λ k. is_some (s k) && true) (λ k. p k && not (k == c)) (λ k l m e.
      let waits_so = (and_parts (is_some (s k)) true e).0 in
      and_from (p k) (not (k == c)) (passes k waits_so) (elim (cases_eq k c) [
        | inl same ↦ absurd (let z : false ≡ true = ap (λ o. is_some o) (sym none) ∙ (ap (λ n. is_some (s n)) (sym same) ∙ waits_so) in cc)
        | inr apart ↦ ap not (ne_eqb k c apart)
      ])) in
      omega (arith, less, as_many, length_counted)
    where
      last : (b : Bool) → (b && false) ≡ false
      last true = refl
      last false = refl

      first : (b : Bool) → (b && true) ≡ b
      first true = refl
      first false = refl

-- ---- in the words of the notes

-- nothing ends the life of a connection that isn't there
since_gone : (c : ℕ) (h : List ConnectionEvent) → is_removed c h ≡ true → since_of c h ≡ None
since_gone c h e = rw e refl

pub since_unborn : (c : ℕ) (h : List ConnectionEvent) → IsUnborn c h → since_of c h ≡ None
since_unborn c h u = rw (u.held, u.ended, u.socket, u.lost, u.poll, u.polled, u.opened, u.told) refl

pub since_is_there : (f : Front) (h : List ConnectionEvent) (c : ℕ) → Stands f h → is_some (since_of c h) ≡ true → is_there c h ≡ true
since_is_there f h c stands e = and_from (is_made c h) (not (is_removed c h))
    (true_from_ne_false (is_made c h) (λ x. no_moment (since_unborn c h (stands.unborn c x))))
    (ap not (false_from_ne_true (is_removed c h) (λ x. no_moment (since_gone c h x))))
  where
    no_moment : since_of c h ≡ None → ⊥
    no_moment x = let z : false ≡ true = sym (ap (λ o. is_some o) x) ∙ e in cc

pub there_within : (c : ℕ) (h : List ConnectionEvent) → is_there c h ≡ true → (0 < c) × (c ≤ made h)
there_within c h e =
    let made_so = (and_parts (is_made c h) (not (is_removed c h)) e).0 in
    let parts = and_parts (nat_lt 0 c) (nat_le c (made h)) made_so in
    (ltb-true 0 c parts.0, leb-true c (made h) parts.1)

-- those that wait and pass a test
pub waiting_counted : (f : Front) (h : List ConnectionEvent) (p : ℕ → Bool) → Stands f h → length (filter (λ w. p w.conn) f.moments.waiting.items)
    ≡ count (made h) (λ c. is_some (since_of c h) && p c)
waiting_counted f h p stands =
    let within : (c : ℕ) → is_some (since_of c h) ≡ true → (0 < c) × (c ≤ made h) = λ c e. there_within c h (since_is_there f h c stands e) in
    count_waiting (made h) f.moments.waiting.items (λ c. since_of c h) p stands.order stands.waiting within

pub waiting_few : (f : Front) (h : List ConnectionEvent) → Stands f h → length f.moments.waiting.items ≤ index_map_len f.entries
waiting_few f h stands =
    let less = few (made h) f.moments.waiting.items (λ c. since_of c h) (λ c. is_there c h) stands.order stands.waiting
    (λ c e. since_is_there f h c stands e) (λ c e. there_within c h e) in
    omega (arith, less, stands.size)

-- and fewer where one that is there doesn't wait
pub waiting_fewer : (f : Front) (h : List ConnectionEvent) (c : ℕ) → Stands f h → is_there c h ≡ true → since_of c h ≡ None
    → length f.moments.waiting.items < index_map_len f.entries
waiting_fewer f h c stands there none =
    let less = fewer (made h) f.moments.waiting.items (λ c. since_of c h) (λ c. is_there c h) stands.order stands.waiting
    (λ c e. since_is_there f h c stands e) (λ c e. there_within c h e) c there none in
    omega (arith, less, stands.size)

-- only one that is there holds a poll
held_is_there : (c : ℕ) (h : List ConnectionEvent) → is_some (held_since c h) ≡ true → is_there c h ≡ true
held_is_there c h e = go (is_there c h) e
  where
    go : (b : Bool) → is_some (if b then option_map (λ poll. poll.1) (poll_of c h) else None) ≡ true → b ≡ true
    go true e = refl
    go false e = e

-- fewer hold polls than are there, where one that is there holds none
pub polling_fewer : (f : Front) (h : List ConnectionEvent) (c : ℕ) → Stands f h → is_there c h ≡ true → held_since c h ≡ None
    → length f.polls.waiting.items < index_map_len f.entries
polling_fewer f h c stands there none =
    let less = fewer (made h) f.polls.waiting.items (λ c. held_since c h) (λ c. is_there c h) stands.polls_order stands.polling
    (λ c e. held_is_there c h e) (λ c e. there_within c h e) c there none in
    omega (arith, less, stands.size)
