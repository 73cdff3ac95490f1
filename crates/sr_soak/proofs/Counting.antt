-- Each call that has an id has ended or is live.
use Rattle.std.proofs.Common.{◌≡◌, ℕ, zero, suc, ◌<◌, ◌≤◌, Bool, true, false, List, refl, ap, ◌∙◌, arith}
use Rattle.std.specs.Prelude.{◌+◌, ◌&&◌, ◌||◌, not, if◌then◌else◌}
use Rattle.hd_calls.specs.Peers.{PeerEvent, drawn, call_of, given, lost, has_end, has_id}
use Rattle.hd_calls.specs.Rules.{count_below, sum_below}
use Rattle.sr_soak.specs.Counts.{calls_in, endings_in, live_in}

one_split : (a b c : Bool) (x y z : ℕ) → x ≡ y + z
    → (if a then suc x else x) ≡ (if a && (b || c) then suc y else y) + (if a && (not b && not c) then suc z else z)
one_split true true c x y z e = omega (arith, e)
one_split true false true x y z e = omega (arith, e)
one_split true false false x y z e = omega (arith, e)
one_split false b c x y z e = e

-- of the numbers that pass a test some pass one of two others too, and the rest neither
count_split : (n : ℕ) (p e l : ℕ → Bool)
    → count_below n p ≡ count_below n (λ k. p k && (e k || l k)) + count_below n (λ k. p k && (not (e k) && not (l k)))
count_split zero p e l = refl
count_split (suc n) p e l = one_split (p n) (e n) (l n) (count_below n p) (count_below n (λ k. p k && (e k || l k)))
    (count_below n (λ k. p k && (not (e k) && not (l k)))) (count_split n p e l)

pub ended_or_live : (h : List PeerEvent) → calls_in h ≡ endings_in h + live_in h
ended_or_live h = count_split (suc (drawn h)) (λ n. has_id (call_of n h)) (λ n. has_end (given n h)) (λ n. lost n h)

-- all numbers but 0 pass
pub count_but_first : (n : ℕ) (p : ℕ → Bool) → p 0 ≡ false → ((j : ℕ) → 0 < j → j ≤ n → p j ≡ true) → count_below (suc n) p ≡ n
count_but_first zero p e f = ap (λ b. if b then 1 else 0) e
count_but_first (suc n) p e f =
    ap (λ b. if b then suc (count_below (suc n) p) else count_below (suc n) p) (f (suc n) (omega arith) (omega arith))
    ∙ ap suc (count_but_first n p e (λ j l m. f j l (omega (arith, m))))

pub sum_none : (n : ℕ) (f : ℕ → ℕ) → ((j : ℕ) → f j ≡ 0) → sum_below n f ≡ 0
sum_none zero f e = refl
sum_none (suc n) f e = let x = e n in let y = sum_none n f e in omega arith
