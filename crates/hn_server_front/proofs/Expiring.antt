-- The connections whose moment has come: those that wait and are due, of which the least number is the first. What is noted of it is the
-- same whether it expires, or ends or is let go as `ends_then` says.
use Rattle.std.proofs.Common.{◌≡◌, ◌≤◌, ◌<◌, ◌+◌, ℕ, zero, suc, Bool, true, false, not, ◌&&◌, ◌||◌, ◌==◌, List, [], ◌∷◌, ◌++◌, filter, Option, Some, None, is_some, option_map, cond, nat_lt, nat_le, if◌then◌else◌, inl, inr, sym, ap, subst, ◌∙◌, refl, arith, eq-eqb, eqb-true, ltb-true, leb-true}
use Rattle.std.proofs.lemmas.Bool.{and_parts, and_from, true_from_ne_false, false_from_ne_true, cases_lt, cases_Bool}
use Rattle.std.proofs.lemmas.List.Elements.{filter-append}
use Rattle.hd_delivery.specs.Histories.{is_this}
use Rattle.hd_server.specs.declared.vocabulary.Life.TheVariants.{Unknown}
use Rattle.hd_server.specs.Numbers.{held_for, lives_for}
use Rattle.hd_server.specs.Lives.{ConnectionEvent, Ended, Expired, Removed, made, numbers_to, is_made, is_removed, ended_at, only_polls, ends_then, deadline, is_past, overdue, standing, since, is_opened, negotiated_at, socket_of, lost_at, poll_of, poll_ended}
use Rattle.hn_server_front.specs.declared.front.Front.{Front}
use Rattle.hn_server_front.specs.declared.moments.Waiting.{Waiting}
use Rattle.hn_server_front.specs.Calls.{Expires, IsFirst, IsNoted, is_held_long}
use Rattle.hn_server_front.specs.Moments.{at, is_due, is_same, is_within, IsInOrder, IsLeast}
use Rattle.hn_server_front.specs.Stands.{IsUnborn, Stands, is_there, since_of}
use Rattle.hn_server_front.proofs.Placed.{same_is}
use Rattle.hn_server_front.proofs.Alike.{Alike, same_of_eight, standing_by, stands_alike}

-- ---- which of a list are due

within_filter : (p : Waiting → Bool) (w : Waiting) (ws : List Waiting) → is_within w (filter p ws) ≡ (p w && is_within w ws)
within_filter p w [] = go (p w)
  where
    go : (b : Bool) → false ≡ (b && false)
    go true = refl
    go false = refl
within_filter p w (v ∷ vs) = elim (cases_Bool (p v)) [
  | inl e ↦ ap (λ b. is_within w (cond b (v ∷ filter p vs) (filter p vs))) e ∙ (ap (λ b. is_same w v || b) (within_filter p w vs) ∙ passed e (is_same w v) refl)
  | inr e ↦ ap (λ b. is_within w (cond b (v ∷ filter p vs) (filter p vs))) e ∙ (within_filter p w vs ∙ failed e (is_same w v) refl)
]
  where
    passed : p v ≡ true → (s : Bool) → is_same w v ≡ s → (s || (p w && is_within w vs)) ≡ (p w && (s || is_within w vs))
    passed e true h = sym (ap (λ b. b && true) (ap p (same_is w v h) ∙ e))
    passed e false h = refl

    failed : p v ≡ false → (s : Bool) → is_same w v ≡ s → (p w && is_within w vs) ≡ (p w && (s || is_within w vs))
    failed e true h =
        let f : p w ≡ false = ap p (same_is w v h) ∙ e in
        ap (λ b. b && is_within w vs) f ∙ sym (ap (λ b. b && true) f)
    failed e false h = refl

-- those that pass a test are in the order of all
pub order_filter : (p : Waiting → Bool) (ws : List Waiting) → IsInOrder ws → IsInOrder (filter p ws)
order_filter p [] o = tt
order_filter p (v ∷ vs) o = go (p v) (order_filter p vs o.1)
  where
    go : (b : Bool) → IsInOrder (filter p vs) → IsInOrder (cond b (v ∷ filter p vs) (filter p vs))
    go true rest = (λ w e. o.0 w (and_parts (p w) (is_within w vs) (sym (within_filter p w vs) ∙ e)).1, rest)
    go false rest = rest

-- ---- who waits, and whose moment has come

abbrev pub due_of : ℕ → Front → List Waiting
due_of now f = filter (λ (v : Waiting). is_due f.moments.lasts now v) f.moments.waiting.items

abbrev pub is_overdue : ℕ → ℕ → List ConnectionEvent → Bool
is_overdue now c h = is_past now (deadline c h)

-- whether this moment, if it is one, has come
abbrev pub is_after : ℕ → Option ℕ → Bool
is_after now since = is_past now (option_map (λ moment. moment + lives_for) since)

this_is : (n : ℕ) (o : Option ℕ) → is_this n o ≡ true → o ≡ Some n
this_is n None e = absurd (let z : false ≡ true = e in cc)
this_is n (Some k) e = ap (λ m. Some m) (sym (eqb-true n k e))

due_is_past : (f : Front) (h : List ConnectionEvent) → Stands f h → (now : ℕ) (w : Waiting) → is_within w (due_of now f) ≡ true → is_overdue now w.conn h ≡ true
due_is_past f h s now w e =
    let both = sym (within_filter (λ (v : Waiting). is_due f.moments.lasts now v) w f.moments.waiting.items) ∙ e in
    let p = and_parts (is_due f.moments.lasts now w) (is_within w f.moments.waiting.items) both in
    let q : since_of w.conn h ≡ Some w.since = this_is w.since (since_of w.conn h) (sym (s.waiting w) ∙ p.1) in
    ap (λ o. is_after now o) q ∙ (sym (ap (λ n. is_due n now w) s.lasts) ∙ p.0)

past_is_due : (f : Front) (h : List ConnectionEvent) → Stands f h → (now c : ℕ) → is_overdue now c h ≡ true → (since : ℕ) × (is_within (at since c) (due_of now f) ≡ true)
past_is_due f h s now c e = go (since_of c h) refl (sym e)
  where
    go : (o : Option ℕ) → since_of c h ≡ o → true ≡ is_after now (since_of c h) → (since : ℕ) × (is_within (at since c) (due_of now f) ≡ true)
    go None q e = absurd (let z : true ≡ false = e ∙ ap (λ o. is_after now o) q in cc)
    go (Some m) q e = (
      m,
      within_filter (λ (v : Waiting). is_due f.moments.lasts now v) (at m c) f.moments.waiting.items
          ∙ and_from (is_due f.moments.lasts now (at m c)) (is_within (at m c) f.moments.waiting.items)
          (ap (λ n. is_due n now (at m c)) s.lasts ∙ sym (e ∙ ap (λ o. is_after now o) q))
          (s.waiting (at m c) ∙ (ap (λ o. is_this m o) q ∙ eq-eqb m m refl)),
    )

-- nothing ends a number that no connection has
unborn_waits : (c : ℕ) (h : List ConnectionEvent) → IsUnborn c h → since_of c h ≡ None
unborn_waits c h u =
    let life : standing c h ≡ Unknown =
    same_of_eight standing_by (is_removed c h) false (ended_at c h) None (socket_of c h) None (lost_at c h) None
    (poll_of c h) None (poll_ended c h) None (is_opened c h) false (negotiated_at c h) None
    u.held u.ended u.socket u.lost u.poll u.polled u.opened u.told
    in
    ap (λ life. since c life h) life

past_is_made : (f : Front) (h : List ConnectionEvent) → Stands f h → (now c : ℕ) → is_overdue now c h ≡ true → is_made c h ≡ true
past_is_made f h s now c e = true_from_ne_false (is_made c h) (λ m.
    let q : since_of c h ≡ None = unborn_waits c h (s.unborn c m) in
    let z : true ≡ false = sym e ∙ ap (λ o. is_after now o) q in
    cc)

-- ---- who holds a poll, and for long

pub held_long_are : (f : Front) (h : List ConnectionEvent) → Stands f h → (now since c : ℕ)
    → is_within (at since c) (filter (λ (w : Waiting). is_due f.polls.lasts now w) f.polls.waiting.items) ≡ is_held_long now since c h
held_long_are f h s now since c =
    within_filter (λ (w : Waiting). is_due f.polls.lasts now w) (at since c) f.polls.waiting.items
    ∙ (ap (λ n. is_due n now (at since c) && is_within (at since c) f.polls.waiting.items) s.polls_last
    ∙ (ap (λ b. is_due held_for now (at since c) && b) (s.polling (at since c)) ∙ go (is_due held_for now (at since c)) (is_there c h)))
  where
    turned : (a b : Bool) → (a && b) ≡ (b && a)
    turned true true = refl
    turned true false = refl
    turned false true = refl
    turned false false = refl

    go : (due there : Bool) → (due && is_this since (if there then option_map (λ poll. poll.1) (poll_of c h) else None))
        ≡ (is_this since (option_map (λ poll. poll.1) (if there then poll_of c h else None)) && due)
    go due true = turned due (is_this since (option_map (λ poll. poll.1) (poll_of c h)))
    go due false = turned due false

-- ---- the first of the numbers that pass a test

numbers_none : (p : ℕ → Bool) (n : ℕ) → ((k : ℕ) → k ≤ n → p k ≡ false) → filter p (numbers_to n) ≡ []
numbers_none p zero f = refl
numbers_none p (suc n) f =
    filter-append p (numbers_to n) (suc n ∷ [])
    ∙ (ap (λ ys. ys ++ filter p (suc n ∷ [])) (numbers_none p n (λ k l. f k (omega (arith, l)))) ∙ ap (λ b. cond b (suc n ∷ []) []) (f (suc n) (omega arith)))

numbers_first : (p : ℕ → Bool) (c n : ℕ) → 0 < c → c ≤ n → p c ≡ true → ((k : ℕ) → p k ≡ true → c ≤ k) → (rest : List ℕ) × (filter p (numbers_to n) ≡ c ∷ rest)
numbers_first p c zero l m e f = absurd (omega (arith, l, m))
numbers_first p c (suc n) l m e f = elim (cases_lt n c) [
  | inl g ↦ (
      let q : c ≡ suc n = omega (arith, g, m) in (
        [],
        filter-append p (numbers_to n) (suc n ∷ [])
            ∙ (ap (λ ys. ys ++ filter p (suc n ∷ [])) (numbers_none p n (λ k j. false_from_ne_true (p k) (λ t. let r = f k t in omega (arith, r, j, g))))
            ∙ (ap (λ b. cond b (suc n ∷ []) []) (ap p (sym q) ∙ e) ∙ ap (λ k. k ∷ []) (sym q))),
      ))
  | inr g ↦ (
      let r = numbers_first p c n l g e f in (
        r.0 ++ filter p (suc n ∷ []),
        filter-append p (numbers_to n) (suc n ∷ []) ∙ ap (λ ys. ys ++ filter p (suc n ∷ [])) r.1,
      ))
]

-- ---- the least number of those that are due

pub none_overdue : (f : Front) (h : List ConnectionEvent) → Stands f h → (now : ℕ) → IsLeast (due_of now f) None → overdue now h ≡ []
none_overdue f h s now e = numbers_none (λ c. is_overdue now c h) (made h) (λ c l. false_from_ne_true (is_overdue now c h) (λ p.
    let d = past_is_due f h s now c p in
    let z : true ≡ false = sym d.1 ∙ ap (λ ws. is_within (at d.0 c) ws) e in
    cc))

least_is_past : (f : Front) (h : List ConnectionEvent) → Stands f h → (now c : ℕ) → IsLeast (due_of now f) (Some c) → is_overdue now c h ≡ true
least_is_past f h s now c l = due_is_past f h s now (at l.0.0 c) l.0.1

pub least_is_made : (f : Front) (h : List ConnectionEvent) → Stands f h → (now c : ℕ) → IsLeast (due_of now f) (Some c) → is_made c h ≡ true
least_is_made f h s now c l = past_is_made f h s now c (least_is_past f h s now c l)

pub first_overdue : (f : Front) (h : List ConnectionEvent) → Stands f h → (now c : ℕ) → IsLeast (due_of now f) (Some c) → (rest : List ℕ) × (overdue now h ≡ c ∷ rest)
first_overdue f h s now c l =
    let m = and_parts (nat_lt 0 c) (nat_le c (made h)) (least_is_made f h s now c l) in
    let below : (k : ℕ) → is_overdue now k h ≡ true → c ≤ k = λ k p. let d = past_is_due f h s now k p in l.1 (at d.0 k) d.1 in
    numbers_first (λ k. is_overdue now k h) c (made h) (ltb-true 0 c m.0) (leb-true c (made h) m.1) (least_is_past f h s now c l) below

-- one that is let go waits for nothing
held_waits : (c : ℕ) (h : List ConnectionEvent) → is_removed c h ≡ true → since_of c h ≡ None
held_waits c h e =
    let life : standing c h ≡ Unknown =
    ap (λ b. standing_by b (ended_at c h) (socket_of c h) (lost_at c h) (poll_of c h) (poll_ended c h) (is_opened c h) (negotiated_at c h)) e
    in
    ap (λ life. since c life h) life

pub least_is_there : (f : Front) (h : List ConnectionEvent) → Stands f h → (now c : ℕ) → IsLeast (due_of now f) (Some c) → is_there c h ≡ true
least_is_there f h s now c l = and_from (is_made c h) (not (is_removed c h)) (least_is_made f h s now c l)
    (true_from_ne_false (not (is_removed c h)) (λ e. elim (cases_Bool (is_removed c h)) [
      | inl g ↦ (let z : true ≡ false = sym (least_is_past f h s now c l) ∙ ap (λ o. is_after now o) (held_waits c h g) in cc)
      | inr g ↦ (let z : true ≡ false = sym (ap (λ b. not b) g) ∙ e in cc)
    ]))

-- ---- what is noted of it

-- one that only polls and isn't ending ends by its moment
pub ends_alike : (c now : ℕ) (h : List ConnectionEvent) → ends_then c h ≡ true → Alike (Ended c now ∷ h) (Expired c now ∷ h)
ends_alike c now h e = record {
  made_so = refl;
  held = λ k. held k (k == c) refl;
  opened = λ k. refl;
  told = λ k. refl;
  promise = λ k. refl;
  token = λ k. refl;
  socket = λ k. refl;
  lost = λ k. refl;
  poll = λ k. refl;
  polled = λ k. refl;
  ended = λ k. ended k (k == c) refl;
  conn = λ token. refl;
}
  where
    here : (k : ℕ) → (k == c) ≡ true → ends_then k h ≡ true
    here k q = ap (λ j. ends_then j h) (eqb-true k c q) ∙ e

    held : (k : ℕ) (b : Bool) → (k == c) ≡ b → is_removed k h ≡ ((b && not (ends_then k h)) || is_removed k h)
    held k true q = sym (ap (λ t. not t || is_removed k h) (here k q))
    held k false q = refl

    ended : (k : ℕ) (b : Bool) → (k == c) ≡ b
        → (if b && not (is_some (ended_at k h)) then Some now else ended_at k h) ≡ (if b && ends_then k h then Some now else ended_at k h)
    ended k true q =
        ap (λ t. if t then Some now else ended_at k h) (and_parts (only_polls k h) (not (is_some (ended_at k h))) (here k q)).1
        ∙ sym (ap (λ t. if t then Some now else ended_at k h) (here k q))
    ended k false q = refl

-- and every other is let go by it
pub goes_alike : (c now : ℕ) (h : List ConnectionEvent) → ends_then c h ≡ false → Alike (Removed c ∷ h) (Expired c now ∷ h)
goes_alike c now h e = record {
  made_so = refl;
  held = λ k. held k (k == c) refl;
  opened = λ k. refl;
  told = λ k. refl;
  promise = λ k. refl;
  token = λ k. refl;
  socket = λ k. refl;
  lost = λ k. refl;
  poll = λ k. refl;
  polled = λ k. refl;
  ended = λ k. ended k (k == c) refl;
  conn = λ token. refl;
}
  where
    here : (k : ℕ) → (k == c) ≡ true → ends_then k h ≡ false
    here k q = ap (λ j. ends_then j h) (eqb-true k c q) ∙ e

    held : (k : ℕ) (b : Bool) → (k == c) ≡ b → (b || is_removed k h) ≡ ((b && not (ends_then k h)) || is_removed k h)
    held k true q = sym (ap (λ t. not t || is_removed k h) (here k q))
    held k false q = refl

    ended : (k : ℕ) (b : Bool) → (k == c) ≡ b → ended_at k h ≡ (if b && ends_then k h then Some now else ended_at k h)
    ended k true q = sym (ap (λ t. if t then Some now else ended_at k h) (here k q))
    ended k false q = refl

-- ---- the call

pub expired_none : (f : Front) (h : List ConnectionEvent) → Stands f h → (now : ℕ) (r o : Option ℕ) → IsLeast (due_of now f) r → r ≡ None → o ≡ None → Expires f h now o
expired_none f h s now r o l e n =
    subst (λ o. Expires f h now o) (sym n) (none_overdue f h s now (subst (λ r. IsLeast (due_of now f) r) e l), s)

pub expired_ends : (f new : Front) (h : List ConnectionEvent) → Stands f h → (now c : ℕ) (r : Option ℕ) → IsLeast (due_of now f) r → r ≡ Some c
    → (is_there c h && ends_then c h) ≡ true → IsNoted f new c (Ended c now) → Expires new h now (Some c)
expired_ends f new h s now c r l e t n =
    let m = subst (λ r. IsLeast (due_of now f) r) e l in
    let p = and_parts (is_there c h) (ends_then c h) t in
    (first_overdue f h s now c m, stands_alike new (Ended c now ∷ h) (Expired c now ∷ h) (ends_alike c now h p.1) ((n h s).0 (least_is_made f h s now c m)))

pub expired_goes : (f new : Front) (h : List ConnectionEvent) → Stands f h → (now c : ℕ) (r : Option ℕ) → IsLeast (due_of now f) r → r ≡ Some c
    → (is_there c h && ends_then c h) ≡ false → IsNoted f new c (Removed c) → Expires new h now (Some c)
expired_goes f new h s now c r l e t n =
    let m = subst (λ r. IsLeast (due_of now f) r) e l in
    let p : ends_then c h ≡ false = sym (ap (λ b. b && ends_then c h) (least_is_there f h s now c m)) ∙ t in
    (first_overdue f h s now c m, stands_alike new (Removed c ∷ h) (Expired c now ∷ h) (goes_alike c now h p) ((n h s).0 (least_is_made f h s now c m)))

pub least_is_first : (f : Front) (h : List ConnectionEvent) → Stands f h → (now : ℕ) (r : Option ℕ) → IsLeast (due_of now f) r → IsFirst r (overdue now h)
least_is_first f h s now None l = none_overdue f h s now l
least_is_first f h s now (Some c) l = first_overdue f h s now c l
