-- Lives are settled where no moment has come unnoted; and at most so many connections live, if notes come in order.
use Rattle.std.proofs.Common.{refl, ap, subst, sym, ◌∙◌, ◌≡◌, ℕ, zero, suc, ◌+◌, ◌<◌, ◌≤◌, Bool, true, false, List, [], ◌∷◌, ◌++◌, length, Option, Some, None, arith, filter, length-append, inl, inr, if◌then◌else◌}
use Rattle.std.specs.Prelude.{◌==◌, not, is_some, option_map, ◌&&◌}
use Rattle.std.proofs.lemmas.Bool.{and_parts, or_parts, not-true, eqb-true, eq-eqb, ne_eqb, le-leb, leb-true, leb-false, ltb-true, cases_eq, or_left, or_right, and_from, not_from_false}
use Rattle.hd_server.specs.declared.vocabulary.Life.{Life}
use Rattle.hd_server.specs.declared.vocabulary.Life.TheVariants.{Unknown, Fresh, Socket, Lost, Polling, Ending}
use Rattle.hd_server.specs.Numbers.{lives_for}
use Rattle.hd_server.specs.Lives.{ConnectionEvent, Negotiated, Opened, Socketed, Polled, Answered, LaneLost, Ended, Expired, Removed, AreInOrder, made, negotiated_at, is_opened, socket_of, lost_at, poll_of, poll_ended, ended_at, ends_then, is_removed, is_known, is_past, is_polling, past, standing, since, deadline, life_of, live, overdue, numbers_to, HasRoom, last_moment}
use Rattle.hd_server.specs.Laws.{FewLive, LivesAreSettled}

-- ---- numbers that pass a test

filter_join : (p : ℕ → Bool) (xs ys : List ℕ) → filter p (xs ++ ys) ≡ filter p xs ++ filter p ys
filter_join p [] ys = refl
filter_join p (x ∷ xs) ys = by (p x) (filter_join p xs ys) where
  by : (b : Bool) → filter p (xs ++ ys) ≡ filter p xs ++ filter p ys
      → (if b then x ∷ filter p (xs ++ ys) else filter p (xs ++ ys)) ≡ (if b then x ∷ filter p xs else filter p xs) ++ filter p ys
  by true further = ap (λ l. x ∷ l) further
  by false further = further

count_last : (p : ℕ → Bool) (xs : List ℕ) (y : ℕ) → length (filter p (xs ++ y ∷ [])) ≡ length (filter p xs) + (if p y then 1 else 0)
count_last p xs y = ap length (filter_join p xs (y ∷ [])) ∙ length-append (filter p xs) (filter p (y ∷ [])) ∙ by (p y) where
  by : (b : Bool) → length (filter p xs) + length (if b then y ∷ [] else []) ≡ length (filter p xs) + (if b then 1 else 0)
  by true = refl
  by false = refl

-- a test that passes what another passes, passes as many at least
pub fewer : (n : ℕ) (p q : ℕ → Bool) → ((k : ℕ) → k ≤ n → p k ≡ true → q k ≡ true) → length (filter p (numbers_to n)) ≤ length (filter q (numbers_to n))
fewer zero p q f = omega arith
fewer (suc n) p q f =
    let one = count_last p (numbers_to n) (suc n) in
    let other = count_last q (numbers_to n) (suc n) in
    let before = fewer n p q (λ k l. f k (omega (arith, l))) in
    let last : (if p (suc n) then 1 else 0) ≤ (if q (suc n) then 1 else 0) = by (p (suc n)) (q (suc n)) (f (suc n) (omega arith)) in
    omega (arith, one, other, before, last)
  where
    by : (a b : Bool) → (a ≡ true → b ≡ true) → (if a then 1 else 0) ≤ (if b then 1 else 0)
    by true true g = omega arith
    by true false g = absurd (let z : false ≡ true = g refl in cc)
    by false b g = omega arith

-- and one more, if it passes one that the other doesn't
pub fewer_by_one : (n c : ℕ) (p q : ℕ → Bool) → ((k : ℕ) → k ≤ n → p k ≡ true → q k ≡ true) → 0 < c → c ≤ n → p c ≡ false → q c ≡ true
    → suc (length (filter p (numbers_to n))) ≤ length (filter q (numbers_to n))
fewer_by_one zero c p q f l m e g = absurd (omega (arith, l, m))
fewer_by_one (suc n) c p q f l m e g = elim (cases_eq c (suc n)) [ inl same ↦ last same | inr other ↦ earlier (fewer_by_one n c p q (λ k i. f k (omega (arith, i))) l (omega (arith, m, other)) e g) ] where
  one : length (filter p (numbers_to (suc n))) ≡ length (filter p (numbers_to n)) + (if p (suc n) then 1 else 0)
  one = count_last p (numbers_to n) (suc n)

  two : length (filter q (numbers_to (suc n))) ≡ length (filter q (numbers_to n)) + (if q (suc n) then 1 else 0)
  two = count_last q (numbers_to n) (suc n)

  last : c ≡ suc n → suc (length (filter p (numbers_to (suc n)))) ≤ length (filter q (numbers_to (suc n)))
  last same =
      let before = fewer n p q (λ k i. f k (omega (arith, i))) in
      let none : ◌≡◌ {A = ℕ} (if p (suc n) then 1 else 0) 0 = ap (λ b. if b then 1 else 0) (ap p (sym same) ∙ e) in
      let more : ◌≡◌ {A = ℕ} (if q (suc n) then 1 else 0) 1 = ap (λ b. if b then 1 else 0) (ap q (sym same) ∙ g) in
      omega (arith, one, two, before, none, more)

  earlier : suc (length (filter p (numbers_to n))) ≤ length (filter q (numbers_to n)) → suc (length (filter p (numbers_to (suc n)))) ≤ length (filter q (numbers_to (suc n)))
  earlier before =
      let next = by (p (suc n)) (q (suc n)) (f (suc n) (omega arith)) in
      omega (arith, one, two, before, next)
    where
      by : (a b : Bool) → (a ≡ true → b ≡ true) → (if a then 1 else 0) ≤ (if b then 1 else 0)
      by true true h = omega arith
      by true false h = absurd (let z : false ≡ true = h refl in cc)
      by false b h = omega arith

-- one number more is one more at most
one_more : (p : ℕ → Bool) (n : ℕ) → length (filter p (numbers_to (suc n))) ≤ suc (length (filter p (numbers_to n)))
one_more p n = let e = count_last p (numbers_to n) (suc n) in let l = by (p (suc n)) in omega (arith, e, l) where
  by : (b : Bool) → (if b then 1 else 0) ≤ 1
  by true = omega arith
  by false = omega arith

first_passes : (p : ℕ → Bool) (xs : List ℕ) (c : ℕ) (rest : List ℕ) → filter p xs ≡ c ∷ rest → p c ≡ true
first_passes p [] c rest e = absurd (cc)
first_passes p (x ∷ xs) c rest e = by (p x) refl e (first_passes p xs c rest) where
  by : (b : Bool) → p x ≡ b → (if b then x ∷ filter p xs else filter p xs) ≡ c ∷ rest → (filter p xs ≡ c ∷ rest → p c ≡ true) → p c ≡ true
  by true f g further = let here : x ≡ c = cc in ap p (sym here) ∙ f
  by false f g further = further g

append_none : {A : Type 0} (xs ys : List A) → xs ++ ys ≡ [] → (xs ≡ []) × (ys ≡ [])
append_none [] ys e = (refl, e)
append_none (x ∷ xs) ys e = absurd (cc)

-- where none passes, a number among them doesn't
none_passes : (p : ℕ → Bool) (n c : ℕ) → 0 < c → c ≤ n → filter p (numbers_to n) ≡ [] → p c ≡ false
none_passes p zero c l m e = absurd (omega (arith, l, m))
none_passes p (suc n) c l m e =
    let parts = append_none (filter p (numbers_to n)) (filter p (suc n ∷ [])) (sym (filter_join p (numbers_to n) (suc n ∷ [])) ∙ e) in
    elim (cases_eq c (suc n)) [
      | inl same ↦ ap p same ∙ by (p (suc n)) parts.1
      | inr other ↦ none_passes p n c l (omega (arith, m, other)) parts.0
    ]
  where
    by : (b : Bool) → (if b then suc n ∷ [] else []) ≡ [] → b ≡ false
    by true f = absurd (cc)
    by false f = refl

-- ---- lives

pub lives_are_settled : LivesAreSettled
lives_are_settled c now h is_one none =
    let parts = and_parts _ _ is_one in
    let still : is_past now (deadline c h) ≡ false
    = none_passes (λ k. is_past now (deadline k h)) (made h) c (ltb-true 0 c parts.0) (leb-true c (made h) parts.1) none in
    ap (λ b. if b then past (standing c h) else standing c h) still

-- what is past at a moment is so later
past_later : (o : Option ℕ) (m now : ℕ) → m ≤ now → is_past m o ≡ true → is_past now o ≡ true
past_later None m now l e = e
past_later (Some moment) m now l e = let before = leb-true moment m e in le-leb moment now (omega (arith, l, before))

known_but_past : (l : Life) → is_known (past l) ≡ true → is_known l ≡ true
known_but_past Unknown e = e
known_but_past Fresh e = refl
known_but_past (Socket lane) e = refl
known_but_past Lost e = refl
known_but_past Polling e = refl
known_but_past Ending e = refl

known_either : (a b : Bool) (l : Life) → (a ≡ true → b ≡ true) → is_known (if b then past l else l) ≡ true → is_known (if a then past l else l) ≡ true
known_either true true l f e = e
known_either true false l f e = absurd (let z : false ≡ true = f refl in cc)
known_either false true l f e = known_but_past l e
known_either false false l f e = e

-- what is known at a moment was known before, where nothing is noted
known_before : (c m now : ℕ) (h : List ConnectionEvent) → m ≤ now → is_known (life_of c now h) ≡ true → is_known (life_of c m h) ≡ true
known_before c m now h l e = known_either (is_past m (deadline c h)) (is_past now (deadline c h)) (standing c h) (past_later (deadline c h) m now l) e

pub removed_unknown : (c now : ℕ) (h : List ConnectionEvent) → is_removed c h ≡ true → life_of c now h ≡ Unknown
removed_unknown c now h e = rw e refl

-- ---- what a note of one connection changes

-- all that a life is read off is the same
pub record IsSame (k : ℕ) (g h : List ConnectionEvent) : Type 0 where
  pub of_token : negotiated_at k g ≡ negotiated_at k h
  pub of_opening : is_opened k g ≡ is_opened k h
  pub of_socket : socket_of k g ≡ socket_of k h
  pub of_loss : lost_at k g ≡ lost_at k h
  pub of_poll : poll_of k g ≡ poll_of k h
  pub of_reply : poll_ended k g ≡ poll_ended k h
  pub of_end : ended_at k g ≡ ended_at k h
  pub of_leave : is_removed k g ≡ is_removed k h

since_same : (k : ℕ) (g h : List ConnectionEvent) (l : Life) → IsSame k g h → since k l g ≡ since k l h
since_same k g h Unknown s = refl
since_same k g h Fresh s = s.of_token
since_same k g h (Socket lane) s = refl
since_same k g h Lost s = s.of_loss
since_same k g h Polling s = s.of_reply
since_same k g h Ending s = s.of_end

pub standing_same : (k : ℕ) (g h : List ConnectionEvent) → IsSame k g h → standing k g ≡ standing k h
standing_same k g h s = rw (s.of_token, s.of_opening, s.of_socket, s.of_loss, s.of_poll, s.of_reply, s.of_end, s.of_leave) refl

life_same : (k now : ℕ) (g h : List ConnectionEvent) → IsSame k g h → life_of k now g ≡ life_of k now h
life_same k now g h s =
    let lives = standing_same k g h s in
    let counts = ap (λ l. since k l g) lives ∙ since_same k g h (standing k h) s in
    let moments : deadline k g ≡ deadline k h = ap (λ o. option_map (λ moment. moment + lives_for) o) counts in
    ap (λ l. if is_past now (deadline k g) then past l else l) lives ∙ ap (λ o. if is_past now o then past (standing k h) else standing k h) moments

-- of which connection it is
abbrev pub conn_of : ConnectionEvent → ℕ
conn_of (Negotiated c token reconnect now) = c
conn_of (Opened c now) = c
conn_of (Socketed c lane now) = c
conn_of (Polled c lane now) = c
conn_of (Answered c lane now) = c
conn_of (LaneLost c lane now) = c
conn_of (Ended c now) = c
conn_of (Expired c now) = c
conn_of (Removed c) = c

pub same_of_another : (k : ℕ) (n : ConnectionEvent) (h : List ConnectionEvent) → (k == conn_of n) ≡ false → IsSame k (n ∷ h) h
same_of_another k (Negotiated c token reconnect now) h e = record {
  of_token = rw e refl;
  of_opening = refl;
  of_socket = refl;
  of_loss = refl;
  of_poll = refl;
  of_reply = refl;
  of_end = refl;
  of_leave = refl;
}
same_of_another k (Opened c now) h e = record {
  of_token = refl;
  of_opening = rw e refl;
  of_socket = refl;
  of_loss = refl;
  of_poll = refl;
  of_reply = refl;
  of_end = refl;
  of_leave = refl;
}
same_of_another k (Socketed c lane now) h e = record {
  of_token = refl;
  of_opening = refl;
  of_socket = rw e refl;
  of_loss = rw e refl;
  of_poll = refl;
  of_reply = refl;
  of_end = refl;
  of_leave = refl;
}
same_of_another k (Polled c lane now) h e = record {
  of_token = refl;
  of_opening = refl;
  of_socket = refl;
  of_loss = refl;
  of_poll = rw e refl;
  of_reply = rw e refl;
  of_end = refl;
  of_leave = refl;
}
same_of_another k (Answered c lane now) h e = record {
  of_token = refl;
  of_opening = refl;
  of_socket = refl;
  of_loss = refl;
  of_poll = rw e refl;
  of_reply = rw e refl;
  of_end = refl;
  of_leave = refl;
}
same_of_another k (LaneLost c lane now) h e = record {
  of_token = refl;
  of_opening = refl;
  of_socket = rw e refl;
  of_loss = rw e refl;
  of_poll = rw e refl;
  of_reply = rw e refl;
  of_end = refl;
  of_leave = refl;
}
same_of_another k (Ended c now) h e = record {
  of_token = refl;
  of_opening = refl;
  of_socket = refl;
  of_loss = refl;
  of_poll = refl;
  of_reply = refl;
  of_end = rw e refl;
  of_leave = refl;
}
same_of_another k (Expired c now) h e = record {
  of_token = refl;
  of_opening = refl;
  of_socket = refl;
  of_loss = refl;
  of_poll = refl;
  of_reply = refl;
  of_end = rw e refl;
  of_leave = rw e refl;
}
same_of_another k (Removed c) h e = record {
  of_token = refl;
  of_opening = refl;
  of_socket = refl;
  of_loss = refl;
  of_poll = refl;
  of_reply = refl;
  of_end = refl;
  of_leave = rw e refl;
}

-- another that is known after a note was known before
another_known : (k m now : ℕ) (n : ConnectionEvent) (h : List ConnectionEvent) → (k == conn_of n) ≡ false → m ≤ now
    → is_known (life_of k now (n ∷ h)) ≡ true → is_known (life_of k m h) ≡ true
another_known k m now n h e l known =
    known_before k m now h l (ap is_known (sym (life_same k now (n ∷ h) h (same_of_another k n h e))) ∙ known)

-- what is noted of one that was known makes none known
of_known : (k m now : ℕ) (n : ConnectionEvent) (h : List ConnectionEvent) → is_known (life_of (conn_of n) m h) ≡ true → m ≤ now
    → is_known (life_of k now (n ∷ h)) ≡ true → is_known (life_of k m h) ≡ true
of_known k m now n h was l known = by (k == conn_of n) refl where
  by : (b : Bool) → (k == conn_of n) ≡ b → is_known (life_of k m h) ≡ true
  by true e = ap (λ x. is_known (life_of x m h)) (eqb-true k (conn_of n) e) ∙ was
  by false e = another_known k m now n h e l known

none_maps : (o : Option ℕ) → is_some o ≡ false → option_map Socket o ≡ None
none_maps None e = refl
none_maps (Some lane) e = absurd (cc)

-- one that only polls, and whose end didn't begin, is known past its moment, unless it was let go
only_polling : (c : ℕ) (h : List ConnectionEvent) → is_removed c h ≡ false → ends_then c h ≡ true → standing c h ≡ Polling
only_polling c h stays ends =
    let parts = and_parts _ _ ends in
    let polls = and_parts _ _ parts.0 in
    let none = or_parts _ _ (not-true _ polls.1) in
    let young : is_some (ended_at c h) ≡ false = not-true _ parts.1 in
    let free : is_some (lost_at c h) ≡ false = none.1 in
    let polling : is_polling c h ≡ true = polls.0 in
    rw (stays, young, none_maps (socket_of c h) none.0, free, polling) refl

of_expired : (c m now : ℕ) (h : List ConnectionEvent) → is_past m (deadline c h) ≡ true
    → is_known (life_of c now (Expired c m ∷ h)) ≡ true → is_known (life_of c m h) ≡ true
of_expired c m now h comes known = by (is_removed c h) (ends_then c h) refl refl where
  gone : is_removed c (Expired c m ∷ h) ≡ true → is_known (life_of c m h) ≡ true
  gone e = absurd (let z : false ≡ true = ap is_known (sym (removed_unknown c now (Expired c m ∷ h) e)) ∙ known in cc)

  by : (a b : Bool) → is_removed c h ≡ a → ends_then c h ≡ b → is_known (life_of c m h) ≡ true
  by true b e f = gone (or_right ((c == c) && not (ends_then c h)) (is_removed c h) e)
  by false false e f =
      let its_own = and_from (c == c) (not (ends_then c h)) (eq-eqb c c refl) (not_from_false (ends_then c h) f) in
      gone (or_left ((c == c) && not (ends_then c h)) (is_removed c h) its_own)
  by false true e f = rw (comes, only_polling c h e f) refl

pub of_gone : (k now c : ℕ) (h : List ConnectionEvent) → is_known (life_of k now (Removed c ∷ h)) ≡ true → is_known (life_of k now h) ≡ true
of_gone k now c h known = by (k == c) refl where
  by : (b : Bool) → (k == c) ≡ b → is_known (life_of k now h) ≡ true
  by true e = absurd (let z : false ≡ true = ap is_known (sym (removed_unknown k now (Removed c ∷ h) (or_left (k == c) (is_removed k h) e))) ∙ known in cc)
  by false e = another_known k now now (Removed c) h e (omega arith) known

of_first : (k m now c : ℕ) (h : List ConnectionEvent) (rest : List ℕ) → overdue m h ≡ c ∷ rest → m ≤ now
    → is_known (life_of k now (Expired c m ∷ h)) ≡ true → is_known (life_of k m h) ≡ true
of_first k m now c h rest is l known = by (k == c) refl where
  by : (b : Bool) → (k == c) ≡ b → is_known (life_of k m h) ≡ true
  by true e =
      let same : k ≡ c = eqb-true k c e in
      ap (λ x. is_known (life_of x m h)) same ∙ of_expired c m now h (first_passes (λ x. is_past m (deadline x h)) (numbers_to (made h)) c rest is)
      (subst (λ x. is_known (life_of x now (Expired c m ∷ h)) ≡ true) same known)
  by false e = another_known k m now (Expired c m) h e l known

-- ---- how many live

trans : {a b c : ℕ} → a ≤ b → b ≤ c → a ≤ c
trans l m = omega (arith, l, m)

fewer_live : (m now : ℕ) (g h : List ConnectionEvent) → made g ≡ made h → ((k : ℕ) → is_known (life_of k now g) ≡ true → is_known (life_of k m h) ≡ true)
    → length (live now g) ≤ length (live m h)
fewer_live m now g h same f =
    rw same (fewer (made h) (λ k. is_known (life_of k now g)) (λ k. is_known (life_of k m h)) (λ k l. f k))

-- a new one is one more, and there was room
new_live : (most m now : ℕ) (n : ConnectionEvent) (h : List ConnectionEvent) → made (n ∷ h) ≡ suc (made h) → HasRoom most m (conn_of n) h → m ≤ now
    → length (live now (n ∷ h)) ≤ most
new_live most m now n h grows room l =
    let few = leb-false most (length (live m h)) room.not_full in
    let new = room.next in
    let more = one_more (λ k. is_known (life_of k now (n ∷ h))) (made h) in
    let old = fewer (made h) (λ k. is_known (life_of k now (n ∷ h))) (λ k. is_known (life_of k m h))
    (λ k below. another_known k m now n h (ne_eqb k (conn_of n) (λ e. omega (arith, e, below, new))) l) in
    rw grows (omega (arith, few, more, old))

pub all_few : (most : ℕ) (h : List ConnectionEvent) → AreInOrder most h → (now : ℕ) → last_moment h ≤ now → length (live now h) ≤ most
all_few most [] a now l = omega arith
all_few most (Negotiated c token reconnect m ∷ h) (order, later, may) now l = new_live most m now (Negotiated c token reconnect m) h refl may l
all_few most (Opened c m ∷ h) (order, later, may) now l = new_live most m now (Opened c m) h refl may l
all_few most (Socketed c lane m ∷ h) (order, later, may) now l =
    trans (fewer_live m now (Socketed c lane m ∷ h) h refl (λ k. of_known k m now (Socketed c lane m) h may l)) (all_few most h order m later)
all_few most (Polled c lane m ∷ h) (order, later, may) now l =
    trans (fewer_live m now (Polled c lane m ∷ h) h refl (λ k. of_known k m now (Polled c lane m) h may l)) (all_few most h order m later)
all_few most (Answered c lane m ∷ h) (order, later, may) now l =
    trans (fewer_live m now (Answered c lane m ∷ h) h refl (λ k. of_known k m now (Answered c lane m) h may l)) (all_few most h order m later)
all_few most (LaneLost c lane m ∷ h) (order, later, may) now l =
    trans (fewer_live m now (LaneLost c lane m ∷ h) h refl (λ k. of_known k m now (LaneLost c lane m) h may l)) (all_few most h order m later)
all_few most (Ended c m ∷ h) (order, later, may) now l =
    trans (fewer_live m now (Ended c m ∷ h) h refl (λ k. of_known k m now (Ended c m) h may l)) (all_few most h order m later)
all_few most (Expired c m ∷ h) (order, later, (rest, is)) now l =
    trans (fewer_live m now (Expired c m ∷ h) h refl (λ k. of_first k m now c h rest is l)) (all_few most h order m later)
all_few most (Removed c ∷ h) (order, later, may) now l =
    trans (fewer_live now now (Removed c ∷ h) h refl (λ k. of_gone k now c h)) (all_few most h order now l)

pub few_live : FewLive
few_live most now h order l = all_few most h order now l
