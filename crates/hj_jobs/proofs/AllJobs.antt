-- What all jobs count together, against what they weigh, and before and after a happening.
use Rattle.std.proofs.Common.{◌≡◌, ℕ, zero, suc, ◌+◌, ◌-◌, ◌*◌, ◌<◌, ◌≤◌, Bool, true, false, List, ◌∷◌, length, map, Option, sym, ap, ◌∙◌, subst, arith, length-drop}
use Rattle.std.specs.Prelude.{slice_get, if◌then◌else◌}
use Rattle.std.proofs.Math.Nat.{mul-le-mul_right}
use Rattle.std.proofs.lemmas.Bool.{ne_eqb}
use Rattle.std.proofs.lemmas.List.{length-map}
use Rattle.hd_calls.specs.declared.vocabulary.Input.{Input}
use Rattle.hd_calls.specs.Numbers.{most_inputs, most_live}
use Rattle.hd_calls.specs.Hubs.{Invoked, upload_input}
use Rattle.hd_calls.specs.Rules.{sum_below, used}
use Rattle.hd_calls.specs.Tables.{Accepted, begun_in, inputs_in, inputs_left_in, inputs_waiting_in, JobHappening, kept_weight_in, live_job_in, live_jobs_in, moments_in, reply_in, turns_in, weight_in}
use Rattle.hd_calls.specs.Weights.{job_weight}
use Rattle.hj_jobs.specs.Calls.{Measures}
use Rattle.hj_jobs.specs.Counted.{job_count}
use Rattle.hj_jobs.specs.Stands.{count_in, count_of, past}
use Rattle.hj_jobs.proofs.Counting.{sum_changed, sum_same, sum_within}
use Rattle.hj_jobs.proofs.Pasts.{accepted_elsewhere, accepted_more, Touches}
use Rattle.hj_jobs.proofs.Weighing.{job_measured, job_within, measured_both, measured_zero, most_of_one}

pub sums_measured : (n : ℕ) (f g : ℕ → ℕ) → ((j : ℕ) → Measures (f j) (g j)) → Measures (sum_below n f) (sum_below n g)
sums_measured zero f g m = measured_zero
sums_measured (suc n) f g m = measured_both (f n) (sum_below n f) (g n) (sum_below n g) (m n) (sums_measured n f g m)

-- what is kept of all jobs counts as much as it weighs
pub all_measured : (h : List JobHappening) → Measures (count_in h) (kept_weight_in h)
all_measured h = sums_measured (length (begun_in h)) (λ j. count_of (past j h)) (λ j. weight_in j h) (λ j. one (live_job_in j h) (slice_get (begun_in h) j) (inputs_waiting_in j h) (reply_in j h))
  where
    one : (b : Bool) (o : Option Invoked) (is : List Input) (r : Option Input) → Measures (if b then job_count o is r else 0) (if b then job_weight o is r else 0)
    one true o is r = job_measured o is r
    one false o is r = measured_zero

pub all_within : (h : List JobHappening) → ((j : ℕ) → live_job_in j h ≡ true → inputs_left_in j h ≤ most_inputs) → live_jobs_in h ≤ most_live → count_in h ≤ most_live * most_of_one
all_within h few l =
    let sum = sum_within (length (begun_in h)) (λ j. count_of (past j h)) (λ j. live_job_in j h) most_of_one part none in
    let times : live_jobs_in h * most_of_one ≤ most_live * most_of_one = mul-le-mul_right most_of_one l in
    omega (arith, sum, times)
  where
    part : (j : ℕ) → live_job_in j h ≡ true → count_of (past j h) ≤ most_of_one
    part j e =
        let left : length (inputs_waiting_in j h) ≡ inputs_left_in j h = length-drop (used (turns_in j h)) (map upload_input (inputs_in j h)) ∙ ap (λ n. n - used (turns_in j h)) (length-map (inputs_in j h) upload_input) in
        let few_here = few j e in
        let is : count_of (past j h) ≡ job_count (slice_get (begun_in h) j) (inputs_waiting_in j h) (reply_in j h) = ap (λ b. if b then job_count (slice_get (begun_in h) j) (inputs_waiting_in j h) (reply_in j h) else 0) e in
        let within = job_within (slice_get (begun_in h) j) (inputs_waiting_in j h) (reply_in j h) most_inputs (omega (arith, left, few_here)) in
        subst (λ n. n ≤ most_of_one) (sym is) within

    none : (j : ℕ) → live_job_in j h ≡ false → count_of (past j h) ≡ 0
    none j e = ap (λ b. if b then job_count (slice_get (begun_in h) j) (inputs_waiting_in j h) (reply_in j h) else 0) e

-- one job is touched: what all count changes as what it counts
pub all_touched : (h after : List JobHappening) (k : ℕ) → Touches h after k → k < length (begun_in h) → count_in after + count_of (past k h) ≡ count_in h + count_of (past k after)
all_touched h after k t l =
    ap (λ m. sum_below m (λ j. count_of (past j after)) + count_of (past k h)) (ap length t.begun)
    ∙ sum_changed (length (begun_in h)) (λ j. count_of (past j h)) (λ j. count_of (past j after)) k l (λ j ne. ap count_of (sym (t.elsewhere j (ne_eqb j k ne))))

-- one job more
pub all_begun : (h : List JobHappening) (c : Invoked) (now : ℕ) → length (moments_in h) ≡ length (begun_in h)
    → count_in (Accepted c now ∷ h) ≡ count_in h + count_of (past (length (begun_in h)) (Accepted c now ∷ h))
all_begun h c now agree =
    let after = Accepted c now ∷ h in
    let n = length (begun_in h) in
    let more : count_in after ≡ count_of (past n after) + sum_below n (λ j. count_of (past j after)) = ap (λ m. sum_below m (λ j. count_of (past j after))) (accepted_more h c now agree) in
    let same = sum_same n (λ j. count_of (past j h)) (λ j. count_of (past j after)) (λ j l. ap count_of (sym (accepted_elsewhere h c now agree j (λ z. omega (arith, z, l))))) in
    omega (arith, more, same)
