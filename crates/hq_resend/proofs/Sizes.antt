-- The sizes of the frames of a list from a place on.
use Rattle.std.specs.Prelude.{◌≡◌, ℕ, zero, suc, ◌++◌, ◌+◌, ◌-◌, ◌<◌, ◌≤◌, Bool, true, false, List, [], ◌∷◌, length, drop, sum_by, slice_get, Some, None, if◌then◌else◌}
use Rattle.std.proofs.Common.{arith, get_or, ap, sym, ◌∙◌, zero-add, length-append}
use Rattle.std.proofs.lemmas.List.Sums.{sum_by-drop_more}
use Rattle.std.proofs.lemmas.Option.{get_or_from_slice_get, slice_get-get_or}
use Rattle.circular_buffer.specs.Buffer.{keep_last}
use Rattle.hq_resend.specs.Buffers.{dropped_count}

-- a frame and those after it
pub from-place : (frames : List (List ℕ)) (place : ℕ) (frame : List ℕ) → place < length frames → slice_get frames place ≡ Some frame →
    sum_by length (drop place frames) ≡ length frame + sum_by length (drop (place + 1) frames)
from-place frames place frame inside e =
    let same : get_or frames place [] ≡ frame = get_or_from_slice_get frames place frame [] e in
    omega (arith, sum_by-drop_more {X = List ℕ} length frames place [] inside, ap (length {A = ℕ}) same)

-- the bytes held once the frame after those written is written
pub after-writing : (keeps : Bool) (acked written gone bytes left : ℕ) (frames : List (List ℕ)) → gone ≤ dropped_count keeps acked written →
    bytes ≡ sum_by length (drop (dropped_count keeps acked written - gone) frames) →
    left ≡ (if keeps then bytes else sum_by length (drop (written - gone + 1) frames)) →
    left ≡ sum_by length (drop (dropped_count keeps acked (written + 1) - gone) frames)
after-writing true acked written gone bytes left frames within is_sum is_left = is_left ∙ is_sum
after-writing false acked written gone bytes left frames within is_sum is_left =
    let place : written - gone + 1 ≡ written + 1 - gone = omega arith in
    is_left ∙ ap (λ n. sum_by length (drop n frames)) place

-- what stands at a place past the front
pub slice_get-drop : (n : ℕ) (frames : List (List ℕ)) (i : ℕ) → slice_get (drop n frames) i ≡ slice_get frames (n + i)
slice_get-drop zero frames i = ap (slice_get frames) (sym (zero-add i))
slice_get-drop (suc n) [] i = let e : suc n + i ≡ suc (n + i) = omega arith in ap (slice_get {X = List ℕ} []) (sym e)
slice_get-drop (suc n) (x ∷ frames) i = let e : suc n + i ≡ suc (n + i) = omega arith in slice_get-drop n frames i ∙ ap (slice_get (x ∷ frames)) (sym e)

-- a place inside of a list has a frame
pub not-none : (frames : List (List ℕ)) (place : ℕ) → place < length frames → slice_get frames place ≡ None → ⊥
not-none frames place inside none = let there : slice_get frames place ≡ Some (get_or frames place []) = slice_get-get_or frames place [] inside in cc

-- a ring with room keeps all
pub keeps-all : (frames : List (List ℕ)) (frame : List ℕ) (capacity : ℕ) → length frames < capacity → keep_last capacity (frames ++ frame ∷ []) ≡ frames ++ frame ∷ []
keeps-all frames frame capacity room =
    let none : length (frames ++ frame ∷ []) - capacity ≡ 0 = omega (arith, length-append frames (frame ∷ [])) in
    ap (λ (n : ℕ). drop n (frames ++ frame ∷ [])) none
