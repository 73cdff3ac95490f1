-- Which job is the next of a round.
use Rattle.std.proofs.Common.{◌≡◌, ℕ, zero, suc, ◌+◌, ◌-◌, ◌<◌, ◌≤◌, Bool, true, false, List, [], ◌∷◌, length, Option, Some, None, refl, sym, ap, ◌∙◌, subst, arith}
use Rattle.std.specs.Prelude.{if◌then◌else◌, ◌==◌}
use Rattle.std.proofs.lemmas.Bool.{false_from_ne_true, cond-false, eqb-true, eq-eqb, or_left}
use Rattle.hd_calls.specs.Rules.{first_from}
use Rattle.hd_calls.specs.Tables.{JobHappening, begun_in, is_due_in, next_job_in, passed_in}
use Rattle.hv_value.specs.declared.sorted_set.SortedSet.{SortedSet}
use Rattle.hj_jobs.specs.Calls.{SomeIsDue}
use Rattle.hv_value.specs.SortedSet.{is_in, IsFirstPast}
use Rattle.hj_jobs.specs.Stands.{DueAgree}
use Rattle.hj_jobs.proofs.Basics.{true_false}
use Rattle.hj_jobs.proofs.Table.{due_live, live_within}

first_found : (u k j : ℕ) (p : ℕ → Bool) → k ≤ j → j < k + u → p j ≡ true → ((i : ℕ) → k ≤ i → i < j → p i ≡ false) → first_from k u p ≡ Some j
first_found zero k j p l m here before = absurd (omega (arith, l, m))
first_found (suc u) k j p l m here before = go (λ (e : p k ≡ false). first_found u (suc k) j p (let ne : k ≡ j → ⊥ = (λ z. true_false (sym here ∙ (ap p (sym z) ∙ e))) in omega (arith, l, ne)) (omega (arith, m)) here (λ i a b. before i (omega (arith, a)) b)) (p k) refl
  where
    go : (p k ≡ false → first_from (suc k) u p ≡ Some j) → (b : Bool) → p k ≡ b → (if b then Some k else first_from (suc k) u p) ≡ Some j
    go later true e = last (k == j) refl
      where
        last : (b : Bool) → (k == j) ≡ b → Some k ≡ Some j
        last true f = ap Some (eqb-true k j f)
        last false f = true_false (sym e ∙ before k (omega arith) (let ne : k ≡ j → ⊥ = apart k j f in omega (arith, l, ne)))
          where
            apart : (a b : ℕ) → (a == b) ≡ false → a ≡ b → ⊥
            apart a b f e = true_false (sym (eq-eqb a b e) ∙ f)
    go later false e = later e

first_none : (u k : ℕ) (p : ℕ → Bool) → ((i : ℕ) → k ≤ i → p i ≡ false) → first_from k u p ≡ None
first_none zero k p f = refl
first_none (suc u) k p f = cond-false (p k) (Some k) (first_from (suc k) u p) (f k (omega arith)) ∙ first_none u (suc k) p (λ i l. f i (omega (arith, l)))

-- the number of the first due job past that which had the last turn
pub record IsNext (h : List JobHappening) (n : ℕ) : Type 0 where
  pub job : ℕ
  pub is : n ≡ suc job
  pub due : is_due_in job h ≡ true
  pub next : next_job_in h ≡ Some job

module _ (due : SortedSet) (h : List JobHappening) (a : DueAgree due h) where
  pub next_found : (passed n : ℕ) → passed ≡ passed_in h → IsFirstPast passed due.numbers.items (Some n) → IsNext h n
  next_found passed zero p first = true_false (sym first.0 ∙ a.from_one)
  next_found passed (suc j) p first =
      let here : is_due_in j h ≡ true = sym (a.same j) ∙ first.0 in
      let past : passed < suc j = first.1 in
      let within = live_within j h (due_live j h here) in
      record {
        job = j;
        is = refl;
        due = here;
        next = first_found (length (begun_in h) - passed_in h) (passed_in h) j (λ i. is_due_in i h) (omega (arith, p, past)) (omega (arith, p, past, within)) here
            (λ i l m. false_from_ne_true (is_due_in i h) (λ d. let least : suc j ≤ suc i = first.2 (suc i) (a.same i ∙ d) (omega (arith, p, l)) in omega (arith, least, m)));
      }

  pub next_none : (passed : ℕ) → passed ≡ passed_in h → IsFirstPast passed due.numbers.items None → next_job_in h ≡ None
  next_none passed p first =
      first_none (length (begun_in h) - passed_in h) (passed_in h) (λ i. is_due_in i h)
      (λ i l. false_from_ne_true (is_due_in i h) (λ d. let before : suc i ≤ passed = first (suc i) (a.same i ∙ d) in omega (arith, before, p, l)))

  some_in : (ns : List ℕ) → (length ns == 0) ≡ false → (n : ℕ) × (is_in n ns ≡ true)
  some_in [] e = true_false e
  some_in (n ∷ ns) e = (n, or_left (n == n) (is_in n ns) (eq-eqb n n refl))

  pub some_due : (length due.numbers.items == 0) ≡ false → SomeIsDue h
  some_due e = go (some_in due.numbers.items e)
    where
      go : (n : ℕ) × (is_in n due.numbers.items ≡ true) → SomeIsDue h
      go x = at x.0 x.1
        where
          at : (n : ℕ) → is_in n due.numbers.items ≡ true → SomeIsDue h
          at zero f = true_false (sym f ∙ a.from_one)
          at (suc j) f = (j, sym (a.same j) ∙ f)

  none_in : (ns : List ℕ) (n : ℕ) → (length ns == 0) ≡ true → is_in n ns ≡ true → ⊥
  none_in [] n e f = true_false (sym f)
  none_in (k ∷ ns) n e f = let z : length (k ∷ ns) ≡ 0 = eqb-true (length (k ∷ ns)) 0 e in omega (arith, z)

  pub none_due : (length due.numbers.items == 0) ≡ true → SomeIsDue h → ⊥
  none_due e x = none_in due.numbers.items (suc x.0) e (a.same x.0 ∙ x.1)
