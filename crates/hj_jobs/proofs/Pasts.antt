-- What each happening changes in what the happenings say of each job.
use Rattle.std.proofs.Common.{◌≡◌, ℕ, zero, suc, ◌+◌, ◌<◌, ◌≤◌, Bool, true, false, List, [], ◌∷◌, ◌++◌, length, Option, Some, None, refl, sym, ap, ◌∙◌, subst, arith, length-append, inl, inr}
use Rattle.std.specs.Prelude.{slice_get, not, nat_lt, ◌&&◌, ◌||◌, ◌==◌, if◌then◌else◌}
use Rattle.std.proofs.lemmas.Bool.{eqb-true, eq-eqb, ne_eqb, lt-ltb, le-ltb, cases_eq, cases_lt, and_right}
use Rattle.hd_calls.specs.declared.vocabulary.Input.{Input}
use Rattle.hd_calls.specs.declared.vocabulary.Act.{Act}
use Rattle.hd_calls.specs.Hubs.{Invoked, Answer, Turn}
use Rattle.hd_calls.specs.Tables.{JobHappening, Accepted, Came, Marked, Turned, Ended, Replied, Round, begun_in, moments_in, turns_in, acts_in, inputs_in, marked_in, reply_in, over_in, live_job_in, finishes}
use Rattle.hj_jobs.specs.Stands.{Past, past}
use Rattle.hj_jobs.proofs.Basics.{get_front, get_past, get_last}
use Rattle.hj_jobs.proofs.OneJob.{fed, cancelled, answered, turned}

-- the happenings h' say of no job but that at place k anything else than h, and as many began
pub record Touches (h after : List JobHappening) (k : ℕ) : Type 0 where
  pub begun : begun_in after ≡ begun_in h
  pub moments : moments_in after ≡ moments_in h
  pub elsewhere : (j : ℕ) → (j == k) ≡ false → past j after ≡ past j h

here : (k : ℕ) → (k == k) ≡ true
here k = eq-eqb k k refl

-- the past of a job with these parts
abbrev pub with_parts : ℕ → List JobHappening → Bool → List Turn → List Act → List (ℕ × Answer) → Bool → Option Input → Past
with_parts j h over turns acts inputs is_cancelled reply = record {
  call = slice_get (begun_in h) j;
  since = slice_get (moments_in h) j;
  live = nat_lt j (length (begun_in h)) && not over;
  over = over;
  turns = turns;
  acts = acts;
  inputs = inputs;
  is_cancelled = is_cancelled;
  reply = reply;
}

module _ (h : List JobHappening) (k : ℕ) where
  module _ (w : ℕ) (a : Answer) where
    came_if : ℕ → Bool → Past
    came_if j b = with_parts j h (over_in j h) (turns_in j h) (acts_in j h) (if b then inputs_in j h ++ (w, a) ∷ [] else inputs_in j h) (marked_in j h) (reply_in j h)

    pub came_touches : Touches h (Came k w a ∷ h) k
    unfolding came_if
    came_touches = record { begun = refl; moments = refl; elsewhere = λ j e. ap (came_if j) e }

    pub came_here : past k (Came k w a ∷ h) ≡ fed (past k h) w a
    unfolding came_if
    came_here = ap (came_if k) (here k)

  marked_if : ℕ → Bool → Past
  marked_if j b = with_parts j h (over_in j h) (turns_in j h) (acts_in j h) (inputs_in j h) (b || marked_in j h) (reply_in j h)

  pub marked_touches : Touches h (Marked k ∷ h) k
  unfolding marked_if
  marked_touches = record { begun = refl; moments = refl; elsewhere = λ j e. ap (marked_if j) e }

  pub marked_here : past k (Marked k ∷ h) ≡ cancelled (past k h)
  unfolding marked_if
  marked_here = ap (marked_if k) (here k)

  module _ (i : Input) where
    replied_if : ℕ → Bool → Past
    replied_if j b = with_parts j h (over_in j h) (turns_in j h) (acts_in j h) (inputs_in j h) (marked_in j h) (if b then Some i else reply_in j h)

    pub replied_touches : Touches h (Replied k i ∷ h) k
    unfolding replied_if
    replied_touches = record { begun = refl; moments = refl; elsewhere = λ j e. ap (replied_if j) e }

    pub replied_here : past k (Replied k i ∷ h) ≡ answered (past k h) i
    unfolding replied_if
    replied_here = ap (replied_if k) (here k)

  module _ (t : Turn) (what : Act) where
    turned_if : ℕ → Bool → Bool → Past
    turned_if j b ends = with_parts j h ((b && ends) || over_in j h) (if b then turns_in j h ++ t ∷ [] else turns_in j h) (if b then acts_in j h ++ what ∷ [] else acts_in j h) (inputs_in j h) (marked_in j h) (if b then None else reply_in j h)

    pub turned_touches : Touches h (Turned k t what ∷ h) k
    unfolding turned_if
    turned_touches = record { begun = refl; moments = refl; elsewhere = λ j e. ap (λ b. turned_if j b (finishes what)) e }

    pub turned_here : finishes what ≡ false → past k (Turned k t what ∷ h) ≡ turned (past k h) t what
    unfolding turned_if
    turned_here f = ap (λ b. turned_if k b (finishes what)) (here k) ∙ ap (turned_if k true) f

    pub turned_ends : finishes what ≡ true → live_job_in k (Turned k t what ∷ h) ≡ false
    turned_ends f =
        ap (λ b. nat_lt k (length (begun_in h)) && not ((b && finishes what) || over_in k h)) (here k)
        ∙ (ap (λ b. nat_lt k (length (begun_in h)) && not (b || over_in k h)) f
        ∙ and_right (nat_lt k (length (begun_in h))) false refl)

  ended_if : ℕ → Bool → Past
  ended_if j b = with_parts j h (b || over_in j h) (turns_in j h) (acts_in j h) (inputs_in j h) (marked_in j h) (reply_in j h)

  pub ended_touches : Touches h (Ended k ∷ h) k
  unfolding ended_if
  ended_touches = record { begun = refl; moments = refl; elsewhere = λ j e. ap (ended_if j) e }

  pub ended_ends : live_job_in k (Ended k ∷ h) ≡ false
  ended_ends =
      ap (λ b. nat_lt k (length (begun_in h)) && not (b || over_in k h)) (here k)
      ∙ and_right (nat_lt k (length (begun_in h))) false refl

-- ---- a job more

module _ (h : List JobHappening) (c : Invoked) (now : ℕ) (agree : length (moments_in h) ≡ length (begun_in h)) where
  accepted_length : length (begun_in h ++ c ∷ []) ≡ suc (length (begun_in h))
  accepted_length = let e = length-append (begun_in h) (c ∷ []) in let f : length (c ∷ []) ≡ 1 = refl in omega arith

  pub accepted_more : length (begun_in (Accepted c now ∷ h)) ≡ suc (length (begun_in h))
  accepted_more = accepted_length

  pub accepted_moments : length (moments_in (Accepted c now ∷ h)) ≡ length (begun_in (Accepted c now ∷ h))
  accepted_moments =
      let e = length-append (moments_in h) (now ∷ []) in
      let f : length (now ∷ []) ≡ 1 = refl in
      let g = accepted_length in
      omega arith

  abbrev pub accepted_as : ℕ → Option Invoked → Option ℕ → Bool → Past
  accepted_as j call since began = record {
    call = call;
    since = since;
    live = began && not (over_in j h);
    over = over_in j h;
    turns = turns_in j h;
    acts = acts_in j h;
    inputs = inputs_in j h;
    is_cancelled = marked_in j h;
    reply = reply_in j h;
  }

  pub accepted_elsewhere : (j : ℕ) → (j ≡ length (begun_in h) → ⊥) → past j (Accepted c now ∷ h) ≡ past j h
  accepted_elsewhere j ne =
      ap (λ (o : Option Invoked). accepted_as j o (slice_get (moments_in h ++ now ∷ []) j) (nat_lt j (length (begun_in h ++ c ∷ [])))) (get_other (begun_in h) c j ne)
      ∙ (ap (λ (o : Option ℕ). accepted_as j (slice_get (begun_in h) j) o (nat_lt j (length (begun_in h ++ c ∷ [])))) (get_other (moments_in h) now j (λ e. ne (e ∙ agree)))
      ∙ ap (λ (b : Bool). accepted_as j (slice_get (begun_in h) j) (slice_get (moments_in h) j) b) (ap (nat_lt j) accepted_length ∙ lt_other j (length (begun_in h)) ne))
    where
      get_other : {A : Type 0} (xs : List A) (x : A) (j : ℕ) → (j ≡ length xs → ⊥) → slice_get (xs ++ x ∷ []) j ≡ slice_get xs j
      get_other xs x j ne = elim (cases_lt j (length xs)) [
        | inl l ↦ get_front xs (x ∷ []) j l
        | inr l ↦ get_past (xs ++ x ∷ []) j (let e = length-append xs (x ∷ []) in let f : length (x ∷ []) ≡ 1 = refl in let g : length xs < j = elim (cases_lt (length xs) j) [ inl m ↦ m | inr m ↦ absurd (ne (omega (arith, l, m))) ] in omega (arith, e, f, g)) ∙ sym (get_past xs j l)
      ]

      lt_other : (j n : ℕ) → (j ≡ n → ⊥) → nat_lt j (suc n) ≡ nat_lt j n
      lt_other j n ne = elim (cases_lt j n) [
        | inl l ↦ lt-ltb j (suc n) (omega (arith, l)) ∙ sym (lt-ltb j n l)
        | inr l ↦ elim (cases_lt n j) [
          | inl m ↦ le-ltb j (suc n) (omega (arith, m)) ∙ sym (le-ltb j n l)
          | inr m ↦ absurd (ne (omega (arith, l, m)))
        ]
      ]

  -- what is said of the job that begins: nothing but its call
  pub accepted_here : past (length (begun_in h)) (Accepted c now ∷ h) ≡ accepted_as (length (begun_in h)) (Some c) (Some now) true
  accepted_here =
      let n = length (begun_in h) in
      ap (λ (o : Option Invoked). accepted_as n o (slice_get (moments_in h ++ now ∷ []) n) (nat_lt n (length (begun_in h ++ c ∷ [])))) (get_last (begun_in h) c)
      ∙ (ap (λ (o : Option ℕ). accepted_as n (Some c) o (nat_lt n (length (begun_in h ++ c ∷ [])))) (ap (slice_get (moments_in h ++ now ∷ [])) (sym agree) ∙ get_last (moments_in h) now)
      ∙ ap (λ (b : Bool). accepted_as n (Some c) (Some now) b) (ap (nat_lt n) accepted_length ∙ lt-ltb n (suc n) (omega arith)))
