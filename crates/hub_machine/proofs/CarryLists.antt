-- Lists of pairs of which those of some connections are kept: how joining, leaving and closing the slow ones change them.
use Rattle.std.proofs.Common.{◌≡◌, ◌⊎◌, inl, inr, ℕ, ◌==◌, Bool, true, false, not, ◌&&◌, ◌||◌, List, [], ◌∷◌, ◌++◌, filter, map}
use Rattle.std.proofs.Common.{Option, Some, None, refl, sym, ap, ◌∙◌}
use Rattle.std.specs.Prelude.{if◌then◌else◌, length, nat_lt}
use Rattle.std.proofs.lemmas.Bool.{eqb-true, eq-eqb, ne_eqb, cond-true, cond-false, both_ways, and_right, or_left, or_cases, false_from_ne_true}
use Rattle.std.proofs.lemmas.List.Elements.{filter_agree, filter-append}
use Rattle.hd_rooms.specs.Registry.{Pair, Lists, count_of, gone, has, may_join, members, most_groups, same_pair, same_text, with_member, with_pair, without, without_pair}
use Rattle.hd_server.specs.Machine.{DeliveryOutcome, Got, TooSlow, PassedOver, outcome_in}
use Rattle.hub_machine.specs.Spreads.{is_listed}
use Rattle.hub_machine.specs.MachineView.{without_slow}
use Rattle.hub_machine.proofs.Open.{filter_after, filter_goes, filter_stays}

-- ---- tests

pub eqb_swap : (a b : ℕ) → (a == b) ≡ (b == a)
eqb_swap a b = go (a == b) refl
  where
    go : (x : Bool) → (a == b) ≡ x → (a == b) ≡ (b == a)
    go true e = e ∙ sym (eq-eqb b a (sym (eqb-true a b e)))
    go false e = e ∙ sym (ne_eqb b a (λ h. both_ways (a == b) e (eq-eqb a b (sym h))))

and_true : (a b : Bool) → b ≡ true → (a && b) ≡ a
and_true true b e = e
and_true false b e = refl

and_swap : (a b : Bool) → (a && b) ≡ (b && a)
and_swap true true = refl
and_swap true false = refl
and_swap false true = refl
and_swap false false = refl

-- ---- filters

filter_both : {A : Type 0} (p q : A → Bool) (xs : List A) → filter (λ x. p x && q x) xs ≡ filter q (filter p xs)
filter_both p q xs = filter_after p (λ x. p x && q x) q (λ x e. and_right (p x) (q x) e) (λ x e. and_true (p x) (q x) e) xs

filters_swap : {A : Type 0} (p q : A → Bool) (xs : List A) → filter p (filter q xs) ≡ filter q (filter p xs)
filters_swap p q xs = sym (filter_both q p xs) ∙ filter_agree (λ x. q x && p x) (λ x. p x && q x) (λ x. and_swap (q x) (p x)) xs ∙ filter_both p q xs

-- ---- pairs of connections that pass a test

abbrev pub kept : (ℕ → Bool) → List Pair → List Pair
kept f pairs = filter (λ (p : Pair). f p.1) pairs

kept_agree : (f g : ℕ → Bool) (pairs : List Pair) → ((k : ℕ) → f k ≡ g k) → kept f pairs ≡ kept g pairs
kept_agree f g pairs same = filter_agree (λ (p : Pair). f p.1) (λ (p : Pair). g p.1) (λ p. same p.1) pairs

kept_both : (f g : ℕ → Bool) (pairs : List Pair) → kept (λ k. f k && g k) pairs ≡ kept g (kept f pairs)
kept_both f g pairs = filter_both (λ (p : Pair). f p.1) (λ (p : Pair). g p.1) pairs

-- one that passes has the pair exactly if it had it
has_kept : (f : ℕ → Bool) (p : Pair) (pairs : List Pair) → f p.1 ≡ true → has p (kept f pairs) ≡ has p pairs
has_kept f p [] e = refl
has_kept f p (q ∷ qs) e = go (f q.1) refl (has_kept f p qs e)
  where
    other : f q.1 ≡ false → same_pair p q ≡ false
    other g = and_right (same_text p.0 q.0) (p.1 == q.1) (false_from_ne_true (p.1 == q.1) (λ h. both_ways (f q.1) g (ap f (sym (eqb-true p.1 q.1 h)) ∙ e)))

    go : (b : Bool) → f q.1 ≡ b → has p (kept f qs) ≡ has p qs → has p (kept f (q ∷ qs)) ≡ has p (q ∷ qs)
    go true g ih = ap (has p) (filter_stays (λ (x : Pair). f x.1) q qs g) ∙ ap (λ b. same_pair p q || b) ih
    go false g ih = ap (has p) (filter_goes (λ (x : Pair). f x.1) q qs g) ∙ ih ∙ ap (λ b. b || has p qs) (sym (other g))

-- it comes to have the pair
kept_with : (f : ℕ → Bool) (p : Pair) (pairs : List Pair) → f p.1 ≡ true → kept f (with_pair p pairs) ≡ with_pair p (kept f pairs)
kept_with f p pairs e = go (has p pairs) refl
  where
    go : (b : Bool) → has p pairs ≡ b → kept f (with_pair p pairs) ≡ with_pair p (kept f pairs)
    go true h = ap (kept f) (cond-true (has p pairs) pairs (pairs ++ p ∷ []) h)
        ∙ sym (cond-true (has p (kept f pairs)) (kept f pairs) (kept f pairs ++ p ∷ []) (has_kept f p pairs e ∙ h))
    go false h = ap (kept f) (cond-false (has p pairs) pairs (pairs ++ p ∷ []) h)
        ∙ filter-append (λ (x : Pair). f x.1) pairs (p ∷ [])
        ∙ ap (λ l. kept f pairs ++ l) (filter_stays (λ (x : Pair). f x.1) p [] e)
        ∙ sym (cond-false (has p (kept f pairs)) (kept f pairs) (kept f pairs ++ p ∷ []) (has_kept f p pairs e ∙ h))

-- it has as many pairs
count_kept : (f : ℕ → Bool) (c : ℕ) (pairs : List Pair) → f c ≡ true → count_of c (kept f pairs) ≡ count_of c pairs
count_kept f c pairs e =
    ap length (sym (filter_both (λ (x : Pair). f x.1) (λ x. c == x.1) pairs) ∙ filter_agree (λ (x : Pair). f x.1 && (c == x.1)) (λ x. c == x.1) same pairs)
  where
    same : (x : Pair) → (f x.1 && (c == x.1)) ≡ (c == x.1)
    same x = go (c == x.1) refl
      where
        go : (b : Bool) → (c == x.1) ≡ b → (f x.1 && (c == x.1)) ≡ (c == x.1)
        go true g = ap (λ b. b && (c == x.1)) (ap f (sym (eqb-true c x.1 g)) ∙ e)
        go false g = and_right (f x.1) (c == x.1) g ∙ sym g

pub may_kept : (f : ℕ → Bool) (p : Pair) (pairs : List Pair) → f p.1 ≡ true → may_join p (kept f pairs) ≡ may_join p pairs
may_kept f p pairs e =
    ap (λ b. b || nat_lt (count_of p.1 (kept f pairs)) most_groups) (has_kept f p pairs e)
    ∙ ap (λ n. has p pairs || nat_lt n most_groups) (count_kept f p.1 pairs e)

-- it joins, if it may
pub kept_member : (f : ℕ → Bool) (p : Pair) (pairs : List Pair) → f p.1 ≡ true → kept f (with_member p pairs) ≡ with_member p (kept f pairs)
kept_member f p pairs e = go (may_join p pairs) refl
  where
    go : (b : Bool) → may_join p pairs ≡ b → kept f (with_member p pairs) ≡ with_member p (kept f pairs)
    go true h = ap (kept f) (cond-true (may_join p pairs) (with_pair p pairs) pairs h) ∙ kept_with f p pairs e
        ∙ sym (cond-true (may_join p (kept f pairs)) (with_pair p (kept f pairs)) (kept f pairs) (may_kept f p pairs e ∙ h))
    go false h = ap (kept f) (cond-false (may_join p pairs) (with_pair p pairs) pairs h)
        ∙ sym (cond-false (may_join p (kept f pairs)) (with_pair p (kept f pairs)) (kept f pairs) (may_kept f p pairs e ∙ h))

-- it leaves
pub kept_without : (f : ℕ → Bool) (p : Pair) (pairs : List Pair) → kept f (without_pair p pairs) ≡ without_pair p (kept f pairs)
kept_without f p pairs = filters_swap (λ (x : Pair). f x.1) (λ q. not (same_pair p q)) pairs

-- ---- both lists

abbrev pub lists_of : List Pair → List Pair → Lists
lists_of groups users = record { groups = groups; users = users }

abbrev pub among : (ℕ → Bool) → Lists → Lists
among f l = lists_of (kept f l.groups) (kept f l.users)

pub lists_same : (a b c d : List Pair) → a ≡ b → c ≡ d → lists_of a c ≡ lists_of b d
lists_same a b c d e f = ap (λ g. lists_of g c) e ∙ ap (λ u. lists_of b u) f

pub among_agree : (f g : ℕ → Bool) (l : Lists) → ((k : ℕ) → f k ≡ g k) → among f l ≡ among g l
among_agree f g l same =
    lists_same (kept f l.groups) (kept g l.groups) (kept f l.users) (kept g l.users) (kept_agree f g l.groups same) (kept_agree f g l.users same)

gone_among : (f : ℕ → Bool) (c : ℕ) (l : Lists) → gone (among f l) c ≡ among (λ k. f k && not (c == k)) l
gone_among f c l =
    lists_same (without c (kept f l.groups)) (kept (λ k. f k && not (c == k)) l.groups) (without c (kept f l.users)) (kept (λ k. f k && not (c == k)) l.users)
    (sym (kept_both f (λ k. not (c == k)) l.groups)) (sym (kept_both f (λ k. not (c == k)) l.users))

-- ---- those that are too slow

abbrev pub is_slow : Option DeliveryOutcome → Bool
is_slow (Some TooSlow) = true
is_slow _ = false

-- one of these fates closed it
abbrev pub slow_among : ℕ → List (ℕ × DeliveryOutcome) → Bool
slow_among k [] = false
slow_among k (f ∷ fs) = ((f.0 == k) && is_slow (Some f.1)) || slow_among k fs

slow_first : (a b s : Bool) → ((a && not b) && not s) ≡ (a && not ((b && true) || s))
slow_first true true s = refl
slow_first true false s = refl
slow_first false b s = refl

not_first : (a b s : Bool) → (a && not s) ≡ (a && not ((b && false) || s))
not_first a true s = refl
not_first a false s = refl

pub slow_leave : (fates : List (ℕ × DeliveryOutcome)) (f : ℕ → Bool) (l : Lists)
    → without_slow fates (among f l) ≡ among (λ k. f k && not (slow_among k fates)) l
slow_leave [] f l = among_agree f (λ k. f k && true) l (λ k. sym (and_true (f k) true refl))
slow_leave ((c, TooSlow) ∷ fs) f l =
    ap (without_slow fs) (gone_among f c l) ∙ slow_leave fs (λ k. f k && not (c == k)) l
    ∙ among_agree (λ k. (f k && not (c == k)) && not (slow_among k fs)) (λ k. f k && not (((c == k) && true) || slow_among k fs)) l
    (λ k. slow_first (f k) (c == k) (slow_among k fs))
slow_leave ((c, Got) ∷ fs) f l =
    slow_leave fs f l ∙ among_agree (λ k. f k && not (slow_among k fs)) (λ k. f k && not (((c == k) && false) || slow_among k fs)) l
    (λ k. not_first (f k) (c == k) (slow_among k fs))
slow_leave ((c, PassedOver) ∷ fs) f l =
    slow_leave fs f l ∙ among_agree (λ k. f k && not (slow_among k fs)) (λ k. f k && not (((c == k) && false) || slow_among k fs)) l
    (λ k. not_first (f k) (c == k) (slow_among k fs))

-- ---- fates that depend on the connection alone

abbrev pub fates_by : (ℕ → DeliveryOutcome) → List ℕ → List (ℕ × DeliveryOutcome)
fates_by fate cs = map (λ c. (c, fate c)) cs

pub fate_found : (fate : ℕ → DeliveryOutcome) (cs : List ℕ) (k : ℕ) → outcome_in k (fates_by fate cs) ≡ (if is_listed k cs then Some (fate k) else None)
fate_found fate [] k = refl
fate_found fate (c ∷ cs) k = go (k == c) refl (fate_found fate cs k)
  where
    go : (b : Bool) → (k == c) ≡ b → outcome_in k (fates_by fate cs) ≡ (if is_listed k cs then Some (fate k) else None)
        → outcome_in k (fates_by fate (c ∷ cs)) ≡ (if is_listed k (c ∷ cs) then Some (fate k) else None)
    go true e ih = cond-true (k == c) (Some (fate c)) (outcome_in k (fates_by fate cs)) e ∙ ap (λ n. Some (fate n)) (sym (eqb-true k c e))
        ∙ sym (cond-true (is_listed k (c ∷ cs)) (Some (fate k)) None (or_left (k == c) (is_listed k cs) e))
    go false e ih = cond-false (k == c) (Some (fate c)) (outcome_in k (fates_by fate cs)) e ∙ ih
        ∙ ap (λ b. if (b || is_listed k cs) then Some (fate k) else None) (sym e)

or_again : (v l : Bool) → (v || (l && v)) ≡ v
or_again true l = refl
or_again false true = refl
or_again false false = refl

slow_is : (fate : ℕ → DeliveryOutcome) (cs : List ℕ) (k : ℕ) → slow_among k (fates_by fate cs) ≡ (is_listed k cs && is_slow (Some (fate k)))
slow_is fate [] k = refl
slow_is fate (c ∷ cs) k = go (k == c) refl (slow_is fate cs k)
  where
    go : (b : Bool) → (k == c) ≡ b → slow_among k (fates_by fate cs) ≡ (is_listed k cs && is_slow (Some (fate k)))
        → slow_among k (fates_by fate (c ∷ cs)) ≡ (is_listed k (c ∷ cs) && is_slow (Some (fate k)))
    go true e ih = ap (λ b. (b && is_slow (Some (fate c))) || slow_among k (fates_by fate cs)) (eqb_swap c k ∙ e)
        ∙ ap (λ n. is_slow (Some (fate n)) || slow_among k (fates_by fate cs)) (sym (eqb-true k c e))
        ∙ ap (λ b. is_slow (Some (fate k)) || b) ih ∙ or_again (is_slow (Some (fate k))) (is_listed k cs)
        ∙ ap (λ b. (b || is_listed k cs) && is_slow (Some (fate k))) (sym e)
    go false e ih = ap (λ b. (b && is_slow (Some (fate c))) || slow_among k (fates_by fate cs)) (eqb_swap c k ∙ e) ∙ ih
        ∙ ap (λ b. (b || is_listed k cs) && is_slow (Some (fate k))) (sym e)

pub slow_found : (fate : ℕ → DeliveryOutcome) (cs : List ℕ) (k : ℕ) → slow_among k (fates_by fate cs) ≡ is_slow (outcome_in k (fates_by fate cs))
slow_found fate cs k = slow_is fate cs k ∙ go (is_listed k cs) ∙ ap is_slow (sym (fate_found fate cs k))
  where
    go : (b : Bool) → (b && is_slow (Some (fate k))) ≡ is_slow (if b then Some (fate k) else None)
    go true = refl
    go false = refl

-- ---- who is a member

member_first : (name : List ℕ) (q : Pair) (pairs : List Pair) (k : ℕ) → is_listed k (members name (q ∷ pairs)) ≡ true
    → (k ≡ q.1) ⊎ (is_listed k (members name pairs) ≡ true)
member_first name q pairs k e = go (same_text name q.0) refl
  where
    here : same_text name q.0 ≡ true → members name (q ∷ pairs) ≡ q.1 ∷ members name pairs
    here s = ap (map (λ (x : Pair). x.1)) (filter_stays (λ (x : Pair). same_text name x.0) q pairs s)

    elsewhere : same_text name q.0 ≡ false → members name (q ∷ pairs) ≡ members name pairs
    elsewhere s = ap (map (λ (x : Pair). x.1)) (filter_goes (λ (x : Pair). same_text name x.0) q pairs s)

    either : ((k == q.1) ≡ true) ⊎ (is_listed k (members name pairs) ≡ true) → (k ≡ q.1) ⊎ (is_listed k (members name pairs) ≡ true)
    either (inl is) = inl (eqb-true k q.1 is)
    either (inr later) = inr later

    go : (b : Bool) → same_text name q.0 ≡ b → (k ≡ q.1) ⊎ (is_listed k (members name pairs) ≡ true)
    go true s = either (or_cases (k == q.1) (is_listed k (members name pairs)) (ap (is_listed k) (sym (here s)) ∙ e))
    go false s = inr (ap (is_listed k) (sym (elsewhere s)) ∙ e)

-- each member passes
pub members_pass : (f : ℕ → Bool) (name : List ℕ) (pairs : List Pair) (k : ℕ) → is_listed k (members name (kept f pairs)) ≡ true → f k ≡ true
members_pass f name [] k e = absurd (both_ways false refl e)
members_pass f name (q ∷ qs) k e = go (f q.1) refl (members_pass f name qs k)
  where
    either : f q.1 ≡ true → (is_listed k (members name (kept f qs)) ≡ true → f k ≡ true)
        → (k ≡ q.1) ⊎ (is_listed k (members name (kept f qs)) ≡ true) → f k ≡ true
    either g ih (inl is) = ap f is ∙ g
    either g ih (inr later) = ih later

    go : (b : Bool) → f q.1 ≡ b → (is_listed k (members name (kept f qs)) ≡ true → f k ≡ true) → f k ≡ true
    go true g ih = either g ih (member_first name q (kept f qs) k
        (ap (λ l. is_listed k (members name l)) (sym (filter_stays (λ (x : Pair). f x.1) q qs g)) ∙ e))
    go false g ih = ih (ap (λ l. is_listed k (members name l)) (sym (filter_goes (λ (x : Pair). f x.1) q qs g)) ∙ e)
