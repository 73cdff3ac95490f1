-- Runs of Sum.
use Rattle.std.proofs.Common.{◌≡◌, ℕ, suc, ℤ, pos, ◌+ℤ◌, List, [], ◌∷◌, ◌++◌, map, length, take, replicate, refl, ◌∙◌}
use Rattle.std.proofs.Math.IntN.{+ℤ_assoc, +ℤ_idl, +ℤ_idr}
use Rattle.hv_value.specs.Whole.{IsWhole}
use Rattle.hv_value.specs.declared.value.Value.{Value}
use Rattle.hv_value.specs.declared.value.Value.TheVariants as value
use Rattle.hm_message.specs.declared.message.Ending.TheVariants as ending
use Rattle.hd_calls.specs.declared.vocabulary.Call as as_given
use Rattle.hd_calls.specs.declared.vocabulary.Input.TheVariants as input
use Rattle.hd_calls.specs.declared.vocabulary.Act.TheVariants as act
use Rattle.hd_calls.specs.Hubs.{Turn, Given}
use Rattle.hd_calls.specs.Rules.{run}
use Rattle.hub_calc.specs.declared.refusal.Refusal.TheVariants.{WrongArguments}
use Rattle.hub_calc.specs.declared.method.Method.TheVariants.{Sum}
use Rattle.hub_calc.specs.Refusals.{refusal_text}
use Rattle.hub_calc.specs.Table.{Sums, calc_begin, calc_hub}
use Rattle.hub_calc.specs.Laws.{IsCall, calc_run, total, uploads, fed, AllSumsAreWhole, SumAddsUp, SumStopsAtItsRange, SumTakesWholeNumbers}
use Rattle.hub_calc.proofs.Runs.{begins, whole_is, whole_isnt}

-- after this sum, whatever comes first of the numbers has a sum that a value can hold
From : ℤ → List ℤ → Type 0
From s zs = (k : ℕ) → IsWhole (s +ℤ total (take k zs))

first_sum : (s z : ℤ) (zs : List ℤ) → From s (z ∷ zs) → IsWhole (s +ℤ z)
unfolding From
first_sum s z zs h = rw (+ℤ_idr z) at (h 1)

later_sums : (s z : ℤ) (zs : List ℤ) → From s (z ∷ zs) → From (s +ℤ z) zs
unfolding From
later_sums s z zs h k = rw (+ℤ_assoc s z (total (take k zs))) (h (suc k))

-- each item is waited after, and then comes what comes from their sum
run_items : (s : ℤ) (items : List (ℤ × ℕ)) (rest : List Turn) → From s (map (λ p. p.0) items)
    → run calc_hub (Sums s) (uploads items ++ rest) ≡ replicate (length items) act.Wait ++ run calc_hub (Sums (s +ℤ total (map (λ p. p.0) items))) rest
run_items s [] rest h = rw (+ℤ_idr s) refl
run_items s (p ∷ items) rest h =
    rw (
      whole_is (s +ℤ p.0) (first_sum s p.0 (map (λ q. q.0) items) h),
      run_items (s +ℤ p.0) items rest (later_sums s p.0 (map (λ q. q.0) items) h),
      +ℤ_assoc s p.0 (total (map (λ q. q.0) items)),
    ) refl

from_zero : (zs : List ℤ) → AllSumsAreWhole zs → From (pos 0) zs
unfolding From
from_zero zs h k = rw (+ℤ_idl (total (take k zs))) (h k)

-- a call of Sum from the first turn on
run_sum : (call : as_given.Call) (since start : ℕ) (items : List (ℤ × ℕ)) (rest : List Turn) → IsCall Sum [] call → AllSumsAreWhole (map (λ p. p.0) items)
    → calc_run call since (fed start items ++ rest) ≡ replicate (suc (length items)) act.Wait ++ run calc_hub (Sums (total (map (λ p. p.0) items))) rest
run_sum call since start items rest is h =
    let b : calc_begin call since ≡ Sums (pos 0) = begins Sum [] call since (Sums (pos 0)) is refl in
    rw (b, run_items (pos 0) items rest (from_zero (map (λ p. p.0) items) h), +ℤ_idl (total (map (λ p. p.0) items))) refl

pub sum : SumAddsUp
sum call since start stop items error is h = run_sum call since start items (Given (input.StreamEnd 0 error) stop ∷ []) is h

pub sum_stops : SumStopsAtItsRange
sum_stops call since start stop items z is h out =
    run_sum call since start items (Given (input.Item 0 (value.Int z)) stop ∷ []) is h
    ∙ rw (whole_isnt (total (map (λ p. p.0) items) +ℤ z) out) refl

other_item : (s : ℤ) (v : Value) (stop : ℕ) → ((z : ℤ) → v ≡ value.Int z → ⊥)
    → run calc_hub (Sums s) (Given (input.Item 0 v) stop ∷ []) ≡ act.End (ending.Error (refusal_text WrongArguments)) ∷ []
other_item s value.Null stop other = refl
other_item s (value.Bool b) stop other = refl
other_item s (value.Int z) stop other = absurd (other z refl)
other_item s (value.Text t) stop other = refl
other_item s (value.Bytes b) stop other = refl
other_item s (value.List ts) stop other = refl
other_item s (value.Map ps) stop other = refl

pub sum_whole : SumTakesWholeNumbers
sum_whole call since start stop items v is h other =
    run_sum call since start items (Given (input.Item 0 v) stop ∷ []) is h ∙ rw (other_item (total (map (λ p. p.0) items)) v stop other) refl
