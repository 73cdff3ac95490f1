-- What holds of jobs and rounds after legal happenings.
use Rattle.std.proofs.Common.{inl, inr, ⊎_elim, ◌≡◌, ℕ, zero, suc, ◌+◌, ◌-◌, ◌<◌, ◌≤◌, Bool, true, false, List, [], ◌∷◌, ◌++◌, length, Option, Some, None, refl, sym, ap, ◌∙◌, subst, arith}
use Rattle.std.specs.Prelude.{nat_lt, not, ◌==◌, ◌||◌, ◌&&◌, slice_get, if◌then◌else◌}
use Rattle.std.proofs.lemmas.Bool.{and_parts, not-true, eqb-true, eq-eqb, ltb-true, ltb-false}
use Rattle.hd_calls.specs.declared.vocabulary.Act.{Act}
use Rattle.hd_calls.specs.declared.vocabulary.Act.TheVariants as act
use Rattle.hd_calls.specs.Hubs.{Invoked, Hub, Turn, Given, Cancelled, call_for}
use Rattle.hd_calls.specs.Rules.{act_at, job_after, goes_on, run, first_from}
use Rattle.hd_calls.specs.Tables.{JobHappening, Accepted, Came, Marked, Turned, Ended, Replied, Round, begun_in, moments_in, turns_in, acts_in, marked_in, finishes, over_in, passed_in, live_job_in, is_due_in, next_job_in}
use Rattle.hj_jobs.specs.Calls.{IsTurnIn}
use Rattle.hj_jobs.specs.Legal.{MayTurn, MayHappen, AreLegal, ActsAreRun, turns_this_round, RoundsAreFair}

choose : {A : Type 0} (P : A → Type 0) (b : Bool) (x y : A) → (b ≡ true → P x) → (b ≡ false → P y) → P (if b then x else y)
choose P true x y f g = f refl
choose P false x y f g = g refl

clash : {A : Type 0} {b : Bool} → b ≡ true → b ≡ false → A
clash e f = absurd (let z : true ≡ false = sym e ∙ f in cc)

-- places --------------------------------------------------------------------------

get_within : {A : Type 0} (xs : List A) (j : ℕ) (x : A) → slice_get xs j ≡ Some x → j < length xs
get_within [] j x e = absurd (cc)
get_within (y ∷ ys) zero x e = omega arith
get_within (y ∷ ys) (suc j) x e = let l = get_within ys j x e in omega (arith, l)

-- a place of a list with one more is one of the list, or the last
data Place {A : Type 0} (xs : List A) (y : A) (j : ℕ) (x : A) : Type 0 where
  Front : slice_get xs j ≡ Some x → Place xs y j x
  Last : j ≡ length xs → x ≡ y → Place xs y j x

place : {A : Type 0} (xs : List A) (y : A) (j : ℕ) (x : A) → slice_get (xs ++ y ∷ []) j ≡ Some x → Place xs y j x
place [] y zero x e = Last refl (let z : Some y ≡ Some x = e in cc)
place [] y (suc j) x e = absurd (cc)
place (z ∷ zs) y zero x e = Front e
place (z ∷ zs) y (suc j) x e = further (place zs y j x e)
  where
    further : Place zs y j x → Place (z ∷ zs) y (suc j) x
    further (Front f) = Front f
    further (Last f g) = Last (ap suc f) g

get_front : {A : Type 0} (xs : List A) (y : A) (j : ℕ) (x : A) → slice_get xs j ≡ Some x → slice_get (xs ++ y ∷ []) j ≡ Some x
get_front [] y j x e = absurd (cc)
get_front (z ∷ zs) y zero x e = e
get_front (z ∷ zs) y (suc j) x e = get_front zs y j x e

same_some : {A : Type 0} (x y : A) → Some x ≡ Some y → x ≡ y
same_some x y e = cc

-- both lists grow together
same_length : (h : List JobHappening) → length (begun_in h) ≡ length (moments_in h)
same_length [] = refl
same_length (Accepted c now ∷ h) = longer (begun_in h) (moments_in h) c now (same_length h)
  where
    longer : {A B : Type 0} (xs : List A) (ys : List B) (x : A) (y : B) → length xs ≡ length ys → length (xs ++ x ∷ []) ≡ length (ys ++ y ∷ [])
    longer [] [] x y e = refl
    longer [] (b ∷ bs) x y e = absurd (omega (arith, e))
    longer (a ∷ as_) [] x y e = absurd (omega (arith, e))
    longer (a ∷ as_) (b ∷ bs) x y e = ap suc (longer as_ bs x y (omega (arith, e)))
same_length (Came j w a ∷ h) = same_length h
same_length (Marked j ∷ h) = same_length h
same_length (Turned j turn what ∷ h) = same_length h
same_length (Ended j ∷ h) = same_length h
same_length (Replied j i ∷ h) = same_length h
same_length (Round ∷ h) = same_length h

-- acts are a run ------------------------------------------------------------------

abbrev finishing : List Act → Bool
finishing [] = false
finishing (a ∷ as_) = finishes a || finishing as_

goes_none : (a : Act) → goes_on a [] ≡ []
goes_none (act.End e) = refl
goes_none act.More = refl
goes_none act.Wait = refl
goes_none (act.Item v) = refl
goes_none (act.Ask a b) = refl
goes_none (act.Do a) = refl

goes_further : (a : Act) (xs ys : List Act) (b : Act) → finishing (a ∷ goes_on a xs) ≡ false → (finishing xs ≡ false → ys ≡ xs ++ b ∷ []) → a ∷ goes_on a ys ≡ (a ∷ goes_on a xs) ++ b ∷ []
goes_further (act.End e) xs ys b f g = absurd (let z : true ≡ false = f in cc)
goes_further act.More xs ys b f g = ap (λ zs. act.More ∷ zs) (g f)
goes_further act.Wait xs ys b f g = ap (λ zs. act.Wait ∷ zs) (g f)
goes_further (act.Item v) xs ys b f g = ap (λ zs. act.Item v ∷ zs) (g f)
goes_further (act.Ask c d) xs ys b f g = ap (λ zs. act.Ask c d ∷ zs) (g f)
goes_further (act.Do c) xs ys b f g = ap (λ zs. act.Do c ∷ zs) (g f)

run_push : {Job : Type 0} (hub : Hub Job) (job : Job) (ts : List Turn) (u : Turn) → finishing (run hub job ts) ≡ false → run hub job (ts ++ u ∷ []) ≡ run hub job ts ++ act_at hub (job_after hub job ts) u ∷ []
run_push hub job [] (Given i now) f = ap (λ xs. (hub.step_of job i now).1 ∷ xs) (goes_none (hub.step_of job i now).1)
run_push hub job [] Cancelled f = refl
run_push hub job (Given i now ∷ ts) u f =
    let s = hub.step_of job i now in
    goes_further s.1 (run hub s.0 ts) (run hub s.0 (ts ++ u ∷ [])) (act_at hub (job_after hub s.0 ts) u) f (λ g. run_push hub s.0 ts u g)
run_push hub job (Cancelled ∷ ts) u f = absurd (let z : true ≡ false = f in cc)

finishing_push : (xs : List Act) (a : Act) → finishing (xs ++ a ∷ []) ≡ (finishing xs || finishes a)
finishing_push [] a = or_end (finishes a)
  where
    or_end : (b : Bool) → (b || false) ≡ b
    or_end true = refl
    or_end false = refl
finishing_push (x ∷ xs) a = ap (λ b. finishes x || b) (finishing_push xs a) ∙ or_assoc (finishes x) (finishing xs) (finishes a)
  where
    or_assoc : (a b c : Bool) → (a || (b || c)) ≡ ((a || b) || c)
    or_assoc true b c = refl
    or_assoc false b c = refl

or_false : (a b : Bool) → a ≡ false → b ≡ false → (a || b) ≡ false
or_false a b e f = ap (λ x. x || b) e ∙ f

or_left : (a b : Bool) → (a || b) ≡ false → (a ≡ false) × (b ≡ false)
or_left true b e = absurd (let z : true ≡ false = e in cc)
or_left false b e = (refl, e)

-- a job that isn't over made no ending
unfinished : (j : ℕ) (h : List JobHappening) → over_in j h ≡ false → finishing (acts_in j h) ≡ false
unfinished j [] e = refl
unfinished j (Turned k turn what ∷ h) e =
    let p = or_left ((j == k) && finishes what) (over_in j h) e in
    choose (λ xs. finishing xs ≡ false) (j == k) (acts_in j h ++ what ∷ []) (acts_in j h)
    (λ f. finishing_push (acts_in j h) what ∙ or_false (finishing (acts_in j h)) (finishes what) (unfinished j h p.1) (ap (λ b. b && finishes what) (sym f) ∙ p.0))
    (λ f. unfinished j h p.1)
unfinished j (Ended k ∷ h) e = unfinished j h (or_left (j == k) (over_in j h) e).1
unfinished j (Accepted c now ∷ h) e = unfinished j h e
unfinished j (Came k w a ∷ h) e = unfinished j h e
unfinished j (Marked k ∷ h) e = unfinished j h e
unfinished j (Replied k i ∷ h) e = unfinished j h e
unfinished j (Round ∷ h) e = unfinished j h e

live_over : (j : ℕ) (h : List JobHappening) → live_job_in j h ≡ true → over_in j h ≡ false
live_over j h e = not-true (over_in j h) (and_parts (nat_lt j (length (begun_in h))) (not (over_in j h)) e).1

turn_live : (j : ℕ) (h : List JobHappening) (now : ℕ) (turn : Turn) → IsTurnIn h j now turn → live_job_in j h ≡ true
turn_live j h now (Given i m) p = p.0
turn_live j h now Cancelled p = p.0

module _ {Job : Type 0} (hub : Hub Job) (who : List ℕ) where
  -- a job that isn't there yet had no turn
  unturned : (j : ℕ) (h : List JobHappening) → AreLegal hub who h → length (begun_in h) ≤ j → (turns_in j h ≡ []) × (acts_in j h ≡ [])
  unturned j [] p l = (refl, refl)
  unturned j (Accepted c now ∷ h) p l = unturned j h p.0 (shorter (begun_in h) c l)
    where
      shorter : (xs : List Invoked) (x : Invoked) → length (xs ++ x ∷ []) ≤ j → length xs ≤ j
      shorter xs x l = let z : length (xs ++ x ∷ []) ≡ suc (length xs) = one_longer xs x in omega (arith, l, z)
        where
          one_longer : (xs : List Invoked) (x : Invoked) → length (xs ++ x ∷ []) ≡ suc (length xs)
          one_longer [] x = refl
          one_longer (y ∷ ys) x = ap suc (one_longer ys x)
  unturned j (Turned k turn what ∷ h) p l = go (j == k) refl (unturned j h p.0 l)
    where
      go : (b : Bool) → (j == k) ≡ b → (turns_in j h ≡ []) × (acts_in j h ≡ []) → ((if b then turns_in j h ++ turn ∷ [] else turns_in j h) ≡ []) × ((if b then acts_in j h ++ what ∷ [] else acts_in j h) ≡ [])
      go true f e = absurd (let z = eqb-true j k f in let w = get_within (begun_in h) k p.1.call p.1.at in omega (arith, z, w, l))
      go false f e = e
  unturned j (Came k w a ∷ h) p l = unturned j h p.0 l
  unturned j (Marked k ∷ h) p l = unturned j h p.0 l
  unturned j (Ended k ∷ h) p l = unturned j h p.0 l
  unturned j (Replied k i ∷ h) p l = unturned j h p.0 l
  unturned j (Round ∷ h) p l = unturned j h p.0 l

  -- one more act of a job is that of one more turn
  one_more : (j : ℕ) (c : Invoked) (since : ℕ) (turn : Turn) (what : Act) (h : List JobHappening) → acts_in j h ≡ run hub (hub.begin_of (call_for who c) since) (turns_in j h) → over_in j h ≡ false
      → what ≡ act_at hub (job_after hub (hub.begin_of (call_for who c) since) (turns_in j h)) turn
      → acts_in j h ++ what ∷ [] ≡ run hub (hub.begin_of (call_for who c) since) (turns_in j h ++ turn ∷ [])
  one_more j c since turn what h ih o is =
      ap (λ xs. xs ++ what ∷ []) ih ∙ (ap (λ q. run hub (hub.begin_of (call_for who c) since) (turns_in j h) ++ q ∷ []) is
      ∙ sym (run_push hub (hub.begin_of (call_for who c) since) (turns_in j h) turn (ap finishing (sym ih) ∙ unfinished j h o)))

  turned : (j k : ℕ) (c : Invoked) (since : ℕ) (turn : Turn) (what : Act) (h : List JobHappening) → MayTurn hub who h k turn what → slice_get (begun_in h) j ≡ Some c → slice_get (moments_in h) j ≡ Some since
      → acts_in j h ≡ run hub (hub.begin_of (call_for who c) since) (turns_in j h) → j ≡ k
      → acts_in j h ++ what ∷ [] ≡ run hub (hub.begin_of (call_for who c) since) (turns_in j h ++ turn ∷ [])
  turned j k c since turn what h m at on ih z =
      let o = live_over j h (subst (λ x. live_job_in x h ≡ true) (sym z) (turn_live k h m.now turn m.due)) in
      let ec : m.call ≡ c = same_some m.call c (sym m.at ∙ (ap (slice_get (begun_in h)) (sym z) ∙ at)) in
      let es : m.since ≡ since = same_some m.since since (sym m.began ∙ (ap (slice_get (moments_in h)) (sym z) ∙ on)) in
      one_more j c since turn what h ih o (m.does ∙ (ap (λ q. act_at hub (job_after hub (hub.begin_of (call_for who m.call) m.since) (turns_in q h)) turn) (sym z)
      ∙ (ap (λ q. act_at hub (job_after hub (hub.begin_of (call_for who q) m.since) (turns_in j h)) turn) ec ∙ ap (λ q. act_at hub (job_after hub (hub.begin_of (call_for who c) q) (turns_in j h)) turn) es)))

  begun : (j : ℕ) (c d : Invoked) (since now : ℕ) (h : List JobHappening) → AreLegal hub who h → ActsAreRun hub who h → Place (begun_in h) d j c → Place (moments_in h) now j since
      → acts_in j h ≡ run hub (hub.begin_of (call_for who c) since) (turns_in j h)
  begun j c d since now h p ih (Front a) (Front b) = ih j c since a b
  begun j c d since now h p ih (Last a e) b = let u = unturned j h p (omega (arith, a)) in u.1 ∙ ap (λ ts. run hub (hub.begin_of (call_for who c) since) ts) (sym u.0)
  begun j c d since now h p ih (Front a) (Last b e) = absurd (let w = get_within (begun_in h) j c a in let z = same_length h in omega (arith, w, z, b))

  pub acts_are_run : (h : List JobHappening) → AreLegal hub who h → ActsAreRun hub who h
  acts_are_run [] p j c since at on = refl
  acts_are_run (Accepted d now ∷ h) p j c since at on = begun j c d since now h p.0 (acts_are_run h p.0) (place (begun_in h) d j c at) (place (moments_in h) now j since on)
  acts_are_run (Turned k turn what ∷ h) p j c since at on = go (acts_are_run h p.0 j c since at on) (j == k) refl
    where
      go : acts_in j h ≡ run hub (hub.begin_of (call_for who c) since) (turns_in j h) → (b : Bool) → (j == k) ≡ b → (if b then acts_in j h ++ what ∷ [] else acts_in j h) ≡ run hub (hub.begin_of (call_for who c) since) (if b then turns_in j h ++ turn ∷ [] else turns_in j h)
      go ih false f = ih
      go ih true f = turned j k c since turn what h p.1 at on ih (eqb-true j k f)
  acts_are_run (Came k w a ∷ h) p j c since at on = acts_are_run h p.0 j c since at on
  acts_are_run (Marked k ∷ h) p j c since at on = acts_are_run h p.0 j c since at on
  acts_are_run (Ended k ∷ h) p j c since at on = acts_are_run h p.0 j c since at on
  acts_are_run (Replied k i ∷ h) p j c since at on = acts_are_run h p.0 j c since at on
  acts_are_run (Round ∷ h) p j c since at on = acts_are_run h p.0 j c since at on

-- rounds --------------------------------------------------------------------------

-- the first number that passes a test is not below where the search began, and none before it passes
record IsFirst (k j : ℕ) (p : ℕ → Bool) : Type 0 where
  from : k ≤ j
  none_before : (i : ℕ) → k ≤ i → i < j → p i ≡ false

first_is : (k u j : ℕ) (p : ℕ → Bool) → first_from k u p ≡ Some j → IsFirst k j p
first_is k zero j p e = absurd (cc)
first_is k (suc u) j p e = go (λ q. first_is (suc k) u j p q) (p k) refl e
  where
    go : (first_from (suc k) u p ≡ Some j → IsFirst (suc k) j p) → (b : Bool) → p k ≡ b → (if b then Some k else first_from (suc k) u p) ≡ Some j → IsFirst k j p
    go ih true f q = let z : k ≡ j = same_some k j q in record { from = omega (arith, z); none_before = λ i l m. absurd (omega (arith, l, m, z)) }
    go ih false f q = let r = ih q in record { from = let l = r.from in omega (arith, l); none_before = λ i l m. later i l m r (k == i) refl }
      where
        later : (i : ℕ) → k ≤ i → i < j → IsFirst (suc k) j p → (b : Bool) → (k == i) ≡ b → p i ≡ false
        later i l m r true g = ap p (sym (eqb-true k i g)) ∙ f
        later i l m r false g = r.none_before i (let n : k ≡ i → ⊥ = λ z. clash {b = k == i} (eq-eqb k i z) g in omega (arith, l, n)) m

first_not : (k u : ℕ) (p : ℕ → Bool) → first_from k u p ≡ None → (i : ℕ) → k ≤ i → i < k + u → p i ≡ false
first_not k zero p e i l m = absurd (omega (arith, l, m))
first_not k (suc u) p e i l m = go (λ q. first_not (suc k) u p q i) (p k) refl e (k == i) refl
  where
    go : (first_from (suc k) u p ≡ None → suc k ≤ i → i < suc k + u → p i ≡ false) → (b : Bool) → p k ≡ b → (if b then Some k else first_from (suc k) u p) ≡ None → (c : Bool) → (k == i) ≡ c → p i ≡ false
    go ih true f q c g = absurd (cc)
    go ih false f q true g = ap p (sym (eqb-true k i g)) ∙ f
    go ih false f q false g = ih q (let n : k ≡ i → ⊥ = λ z. clash {b = k == i} (eq-eqb k i z) g in omega (arith, l, n)) (omega (arith, m))

module _ {Job : Type 0} (hub : Hub Job) (who : List ℕ) where
  next_is : (h : List JobHappening) (j : ℕ) → next_job_in h ≡ Some j → IsFirst (passed_in h) j (λ i. is_due_in i h)
  next_is h j e = first_is (passed_in h) (length (begun_in h) - passed_in h) j (λ i. is_due_in i h) e

  -- a job past the place of the round had no turn in it
  none_yet : (h : List JobHappening) → AreLegal hub who h → (j : ℕ) → passed_in h ≤ j → turns_this_round j h ≡ 0
  none_yet [] p j l = refl
  none_yet (Round ∷ h) p j l = refl
  none_yet (Turned k turn what ∷ h) p j l =
      let f = (next_is h k p.1.next).from in
      choose (λ n. n ≡ 0) (j == k) (suc (turns_this_round j h)) (turns_this_round j h) (λ e. absurd (let z = eqb-true j k e in omega (arith, z, l))) (λ e. none_yet h p.0 j (omega (arith, f, l)))
  none_yet (Accepted c now ∷ h) p j l = none_yet h p.0 j l
  none_yet (Came k w a ∷ h) p j l = none_yet h p.0 j l
  none_yet (Marked k ∷ h) p j l = none_yet h p.0 j l
  none_yet (Ended k ∷ h) p j l = none_yet h p.0 j l
  none_yet (Replied k i ∷ h) p j l = none_yet h p.0 j l

  once : (h : List JobHappening) → AreLegal hub who h → (j : ℕ) → turns_this_round j h ≤ 1
  once [] p j = omega arith
  once (Round ∷ h) p j = omega arith
  once (Turned k turn what ∷ h) p j =
      choose (λ n. n ≤ 1) (j == k) (suc (turns_this_round j h)) (turns_this_round j h)
      (λ e. let z = eqb-true j k e in let f = (next_is h k p.1.next).from in let n = none_yet h p.0 j (omega (arith, f, z)) in omega (arith, n))
      (λ e. once h p.0 j)
  once (Accepted c now ∷ h) p j = once h p.0 j
  once (Came k w a ∷ h) p j = once h p.0 j
  once (Marked k ∷ h) p j = once h p.0 j
  once (Ended k ∷ h) p j = once h p.0 j
  once (Replied k i ∷ h) p j = once h p.0 j

  in_order : (ds k : List JobHappening) (j : ℕ) (turn : Turn) (what : Act) → AreLegal hub who (ds ++ Turned j turn what ∷ k) → (i : ℕ) → passed_in k ≤ i → i < j → is_due_in i k ≡ false
  in_order [] k j turn what p i l m = (next_is k j p.1.next).none_before i l m
  in_order (d ∷ ds) k j turn what p i l m = in_order ds k j turn what p.0 i l m

  due_within : (h : List JobHappening) (j : ℕ) → is_due_in j h ≡ true → j < length (begun_in h)
  due_within h j e =
      let l = live_part j h e in
      ltb-true j (length (begun_in h)) (and_parts (nat_lt j (length (begun_in h))) (not (over_in j h)) l).0
    where
      live_part : (j : ℕ) (h : List JobHappening) → is_due_in j h ≡ true → live_job_in j h ≡ true
      live_part j h e = first_part (live_job_in j h) _ e
        where
          first_part : (a b : Bool) → (a && b) ≡ true → a ≡ true
          first_part true b e = refl
          first_part false b e = e

  none_left : (h : List JobHappening) → next_job_in h ≡ None → (j : ℕ) → is_due_in j h ≡ true → j < passed_in h
  none_left h e j d = before (nat_lt j (passed_in h)) refl
    where
      before : (b : Bool) → nat_lt j (passed_in h) ≡ b → j < passed_in h
      before true f = ltb-true j (passed_in h) f
      before false f =
          let l : passed_in h ≤ j = ltb-false j (passed_in h) f in
          let w = due_within h j d in
          clash d (first_not (passed_in h) (length (begun_in h) - passed_in h) (λ i. is_due_in i h) e j l (omega (arith, l, w)))

  pub rounds_are_fair : (h : List JobHappening) → AreLegal hub who h → RoundsAreFair h
  rounds_are_fair h p = record {
    once = λ j. once h p j;
    in_order = λ ds k j turn what e i l m. in_order ds k j turn what (subst (λ x. AreLegal hub who x) (sym e) p) i l m;
    none_left = λ e j d. none_left h e j d;
  }
