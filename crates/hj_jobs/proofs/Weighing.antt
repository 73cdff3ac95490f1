-- Counts for weights: of two together, of lists and of a job, and against the weights themselves.
use Rattle.std.proofs.Common.{◌≡◌, ℕ, ◌+◌, ◌*◌, ◌<◌, ◌≤◌, ◌^◌, List, [], ◌∷◌, ◌++◌, length, Option, Some, None, refl, arith}
use Rattle.hv_value.specs.Tree.{trees, pairs}
use Rattle.hv_value.specs.View.{tree, trees_of, entries}
use Rattle.hv_value.specs.declared.value.Value.{Value}
use Rattle.hd_calls.specs.declared.vocabulary.Input.{Input}
use Rattle.hd_calls.specs.Numbers.{most_inputs, most_live, most_weight}
use Rattle.hd_calls.specs.Hubs.{Invoked}
use Rattle.hd_calls.specs.Weights.{value_weight, values_weight, pairs_weight, text_weight, ids_weight, call_weight, input_weight, inputs_weight, reply_weight, job_weight}
use Rattle.hj_jobs.specs.declared.entry.Awaits.{Awaits}
use Rattle.hj_jobs.specs.declared.entry.Awaits.TheVariants as awaits
use Rattle.hj_jobs.specs.Counted.{most_counted, counted, input_count, inputs_count, job_count}
use Rattle.hj_jobs.specs.Calls.{Measures}
use Rattle.hj_jobs.specs.Entries.{given_count, inputs_after}

-- ---- sums of two

pub counted_right : (a b : ℕ) → counted (a + counted b) ≡ counted (a + b)
counted_right a b = omega arith

pub counted_both : (a b : ℕ) → counted (counted a + counted b) ≡ counted (a + b)
counted_both a b = omega arith

pub counted_pair : (a b c : ℕ) → counted (counted a + counted (b + counted c)) ≡ counted (a + (b + c))
counted_pair a b c = omega arith

pub counted_four : (a b c d e : ℕ) → counted (counted a + counted (counted (counted b + counted c) + counted (d + counted e))) ≡ counted (a + (b + (c + (d + e))))
counted_four a b c d e = omega arith

pub counted_within : (a : ℕ) → counted a ≤ most_counted
counted_within a = omega arith

-- ---- lists, of which one more is counted

pub values_push : (vs : List Value) (v : Value) → values_weight (trees (trees_of (vs ++ v ∷ []))) ≡ values_weight (trees (trees_of vs)) + value_weight (tree v)
values_push [] v = omega arith
values_push (w ∷ vs) v = let e = values_push vs v in omega (arith, e)

pub pairs_push : (ps : List (List ℕ × Value)) (p : List ℕ × Value) → pairs_weight (pairs (entries (ps ++ p ∷ []))) ≡ pairs_weight (pairs (entries ps)) + (length p.0 + value_weight (tree p.1))
pairs_push [] p = omega arith
pairs_push (q ∷ ps) p = let e = pairs_push ps p in omega (arith, e)

pub ids_push : (is : List (List ℕ)) (i : List ℕ) → ids_weight (is ++ i ∷ []) ≡ ids_weight is + text_weight i
ids_push [] i = omega arith
ids_push (k ∷ is) i = let e = ids_push is i in omega (arith, e)

-- ---- against the weights

pub measured : (w : ℕ) → Measures (counted w) w
measured w = record { least = omega arith; exact = λ l. omega (arith, l) }

pub measured_zero : Measures 0 0
measured_zero = record { least = omega arith; exact = λ l. refl }

pub measured_both : (a b v w : ℕ) → Measures a v → Measures b w → Measures (a + b) (v + w)
measured_both a b v w m n =
    let x = m.least in
    let y = n.least in
    record { least = omega (arith, x, y); exact = λ l. let e = m.exact (omega (arith, l)) in let f = n.exact (omega (arith, l)) in omega (arith, e, f) }

pub inputs_measured : (is : List Input) → Measures (inputs_count is) (inputs_weight is)
inputs_measured [] = measured_zero
inputs_measured (i ∷ is) = measured_both (counted (input_weight i)) (inputs_count is) (input_weight i) (inputs_weight is) (measured (input_weight i)) (inputs_measured is)

pub reply_measured : (o : Option Input) → Measures (input_count o) (reply_weight o)
reply_measured None = measured_zero
reply_measured (Some i) = measured (input_weight i)

pub job_measured : (o : Option Invoked) (is : List Input) (r : Option Input) → Measures (job_count o is r) (job_weight o is r)
job_measured None is r = measured_zero
job_measured (Some c) is r =
    measured_both (counted (call_weight c)) (inputs_count is + input_count r) (call_weight c) (inputs_weight is + reply_weight r) (measured (call_weight c))
    (measured_both (inputs_count is) (input_count r) (inputs_weight is) (reply_weight r) (inputs_measured is) (reply_measured r))

-- the same is light by its count and by its weight
pub light_measured : (n w : ℕ) → Measures n w → n ≤ most_weight → w ≤ most_weight
light_measured n w m l = let e = m.exact l in omega (arith, e, l)

pub heavy_measured : (n w : ℕ) → Measures n w → most_weight < n → most_weight < w
heavy_measured n w m l = let e = m.least in omega (arith, e, l)

-- ---- bounds

-- the most that one job counts, at which this many inputs wait
abbrev pub most_of_job : ℕ → ℕ
most_of_job waiting = (waiting + 2) * most_counted

pub inputs_within : (is : List Input) → inputs_count is ≤ length is * most_counted
inputs_within [] = omega arith
inputs_within (i ∷ is) = let e = inputs_within is in let f = counted_within (input_weight i) in omega (arith, e, f)

pub reply_within : (o : Option Input) → input_count o ≤ most_counted
reply_within None = omega arith
reply_within (Some i) = counted_within (input_weight i)

pub job_within : (o : Option Invoked) (is : List Input) (r : Option Input) (m : ℕ) → length is ≤ m → job_count o is r ≤ most_of_job m
job_within None is r m l = omega arith
job_within (Some c) is r m l =
    let e = inputs_within is in
    let f = reply_within r in
    let g = counted_within (call_weight c) in
    omega (arith, e, f, g, l)

-- the most that one live job counts, and all of them
abbrev pub most_of_one : ℕ
most_of_one = most_of_job most_inputs

-- so one more can be added
pub one_fits : (a b : ℕ) → a ≤ most_live * most_of_one → b ≤ most_of_one → a + b < 2 ^ 64
one_fits a b l m = omega (arith, l, m)

pub alone_fits : (a : ℕ) → a ≤ most_of_one → a + 0 < 2 ^ 64
alone_fits a l = omega (arith, l)

pub fed_fits : (a : ℕ) (i : Input) → a ≤ most_of_one → a + inputs_count (i ∷ []) < 2 ^ 64
fed_fits a i l = let e = counted_within (input_weight i) in omega (arith, l, e)

pub input_fits : (a w : ℕ) → a ≤ most_of_one → a + counted w < 2 ^ 64
input_fits a w l = let e = counted_within w in omega (arith, l, e)

-- a sum in which a part was replaced, where all changed as that part did
pub sum_settled : (old new e f all later before after : ℕ) → new + e ≡ old + f → later + before ≡ all + after → before ≡ e → after ≡ f → old ≡ all → new ≡ later
sum_settled old new e f all later before after s t a b o = omega (arith, s, t, a, b, o)

pub sum_dropped : (old new e all later before after : ℕ) → new + e ≡ old → later + before ≡ all + after → before ≡ e → after ≡ 0 → old ≡ all → new ≡ later
sum_dropped old new e all later before after s t a b o = omega (arith, s, t, a, b, o)

-- ---- a job that changes

pub inputs_more : (is : List Input) (i : Input) → inputs_count (is ++ i ∷ []) ≡ inputs_count is + counted (input_weight i)
inputs_more [] i = omega arith
inputs_more (k ∷ is) i = let e = inputs_more is i in omega (arith, e)

pub job_fed : (c : Invoked) (is : List Input) (i : Input) (r : Option Input) → job_count (Some c) (is ++ i ∷ []) r ≡ job_count (Some c) is r + inputs_count (i ∷ [])
job_fed c is i r = let e = inputs_more is i in omega (arith, e)

pub job_answered : (c : Invoked) (is : List Input) (i : Input) → job_count (Some c) is (Some i) ≡ job_count (Some c) is None + counted (input_weight i)
job_answered c is i = omega arith

pub job_begun : (c : Invoked) → job_count (Some c) [] None ≡ counted (call_weight c)
job_begun c = omega arith

-- what is given leaves the inputs that wait
pub given_left : (a : Awaits) (is : List Input) → inputs_count is ≡ given_count a is + inputs_count (inputs_after a is)
given_left awaits.Upload [] = omega arith
given_left awaits.Upload (i ∷ is) = omega arith
given_left awaits.Turn is = omega arith
given_left awaits.CallEnd is = omega arith
given_left awaits.Deed is = omega arith

pub job_turned : (c : Invoked) (a : Awaits) (is : List Input) (r : Option Input) → job_count (Some c) is r ≡ (given_count a is + input_count r) + job_count (Some c) (inputs_after a is) None
job_turned c a is r = let e = given_left a is in omega (arith, e)
