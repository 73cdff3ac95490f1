-- Uploads end with their calls, so that nothing of the user's is live once no call is.
use Rattle.std.proofs.Common.{◌≡◌, ◌<◌, ◌≤◌, ◌+◌, ◌⊎◌, inl, inr, ℕ, zero, suc, Bool, true, false, not, ◌&&◌, ◌||◌, List, [], ◌∷◌, length, Option, Some, None, refl, sym, ◌∙◌, ap, subst, arith, true≢false}
use Rattle.std.specs.Prelude.{◌==◌, nat_eq, if◌then◌else◌}
use Rattle.std.proofs.lemmas.Bool.{cases_lt}
use Rattle.hd_calls.specs.Hubs.{Hub, Invoked}
use Rattle.hd_calls.specs.Peers.{PeerEvent, Plain, Calls, Uploads, Cancels, Reads, Handles, Runs, Answers, Refuses, Loses, Rounds, Settings, call_of, drawn, has_id, live_call, live_upload, stream_count}
use Rattle.hd_calls.specs.Rules.{Follows, any_below, count_below, live_uploads, own_live, sum_below}
use Rattle.hd_client.specs.Plans.{has_live}
use Rattle.sr_client.specs.Obeying.{EndsItsUploads, UploadsHaveCalls}

-- ---- counts

none_counted : (n : ℕ) (p : ℕ → Bool) → any_below n p ≡ false → count_below n p ≡ 0
none_counted zero p e = refl
none_counted (suc n) p e = by (p n) (any_below n p) refl (none_counted n p) e where
  by : (b rest : Bool) → any_below n p ≡ rest → (any_below n p ≡ false → count_below n p ≡ 0) → (b || rest) ≡ false
      → (if b then suc (count_below n p) else count_below n p) ≡ 0
  by true rest is more e = absurd (true≢false e)
  by false rest is more e = more (is ∙ e)

counted_none : (n : ℕ) (p : ℕ → Bool) → count_below n p ≡ 0 → any_below n p ≡ false
counted_none zero p e = refl
counted_none (suc n) p e = by (p n) (counted_none n p) e where
  by : (b : Bool) → (count_below n p ≡ 0 → any_below n p ≡ false) → (if b then suc (count_below n p) else count_below n p) ≡ 0 → (b || any_below n p) ≡ false
  by true more e = absurd (let h : suc (count_below n p) ≡ 0 = e in omega arith)
  by false more e = more e

less_or_last : (k n : ℕ) → k < suc n → (k ≡ n) ⊎ (k < n)
less_or_last k n less = by (cases_lt k n) where
  by : (k < n) ⊎ (n ≤ k) → (k ≡ n) ⊎ (k < n)
  by (inl l) = inr l
  by (inr ge) = inl (omega arith)

none_of : (n : ℕ) (p : ℕ → Bool) → any_below n p ≡ false → (k : ℕ) → k < n → p k ≡ false
none_of zero p e k less = absurd (omega arith)
none_of (suc n) p e k less = by (p n) refl e (λ rest l. none_of n p rest k l) (less_or_last k n less) where
  by : (b : Bool) → p n ≡ b → (b || any_below n p) ≡ false → (any_below n p ≡ false → k < n → p k ≡ false) → (k ≡ n) ⊎ (k < n) → p k ≡ false
  by true is e more at = absurd (true≢false e)
  by false is e more (inl same) = subst (λ j. p j ≡ false) (sym same) is
  by false is e more (inr l) = more e l

sum_none : (n : ℕ) (f : ℕ → ℕ) → ((k : ℕ) → k < n → f k ≡ 0) → sum_below n f ≡ 0
sum_none zero f none = refl
sum_none (suc n) f none = (let a = none n (omega arith) in let b = sum_none n f (λ k less. none k (omega arith)) in omega (arith, a, b))

count_false : (n : ℕ) (p : ℕ → Bool) → ((k : ℕ) → p k ≡ false) → count_below n p ≡ 0
count_false zero p none = refl
count_false (suc n) p none = by (p n) (none n) (count_false n p none) where
  by : (b : Bool) → b ≡ false → count_below n p ≡ 0 → (if b then suc (count_below n p) else count_below n p) ≡ 0
  by true e rest = absurd (true≢false e)
  by false e rest = rest

-- ---- calls

-- a call has an id, or no uploads
abbrev Ends : Option Invoked → Type 0
Ends c = (has_id c ≡ true) ⊎ (stream_count c ≡ 0)

ends_of : (c : Invoked) → EndsItsUploads c → Ends (Some c)
ends_of c (inl has) = inl has
ends_of c (inr none) = inr (ap length none)

ends_here : (b : Bool) (c : Invoked) (o : Option Invoked) → Ends (Some c) → Ends o → Ends (if b then Some c else o)
ends_here true c o one more = one
ends_here false c o one more = more

no_zero : (n : ℕ) → nat_eq (suc n) 0 ≡ false
no_zero n = grind (arith)

module _ {Job : Type 0} (hub : Hub Job) (t : Settings) where
  calls_end : (n : ℕ) (h : List PeerEvent) → Follows hub t h → UploadsHaveCalls h → Ends (call_of n h)
  calls_end n [] f u = inr refl
  calls_end n (Calls None k c ∷ h) f u = ends_here (n == k) c (call_of n h) (ends_of c u.0) (calls_end n h f.0 u.1)
  calls_end n (Calls (Some j) k c ∷ h) f u =
      ends_here (n == k) c (call_of n h) (inr (ap (λ (x : Invoked). length x.streams) f.1.asked.is)) (calls_end n h f.0 u)
  calls_end n (Plain s ∷ h) f u = calls_end n h f.0 u
  calls_end n (Uploads k w a ∷ h) f u = calls_end n h f.0 u
  calls_end n (Cancels k ∷ h) f u = calls_end n h f.0 u
  calls_end n (Reads m ∷ h) f u = calls_end n h f.0 u
  calls_end n (Handles m e ∷ h) f u = calls_end n h f.0 u
  calls_end n (Runs j c since turn what ∷ h) f u = calls_end n h f.0 u
  calls_end n (Answers j i ∷ h) f u = calls_end n h f.0 u
  calls_end n (Refuses j ∷ h) f u = calls_end n h f.0 u
  calls_end n (Loses k ∷ h) f u = calls_end n h f.0 u
  calls_end n (Rounds ∷ h) f u = calls_end n h f.0 u

  -- no upload of a call is live that isn't
  none_uploaded : (n : ℕ) (h : List PeerEvent) → Ends (call_of n h) → live_call n h ≡ false → live_uploads n h ≡ 0
  none_uploaded n h (inr none) dead = ap (λ k. count_below k (λ w. live_upload n w h)) none
  none_uploaded n h (inl has) dead = count_false (stream_count (call_of n h)) (λ w. live_upload n w h) (λ w. ends w _) where
    both : (a : Bool) → (a && false) ≡ false
    both true = refl
    both false = refl

    ends : (w : ℕ) (a : Bool) → (a && (live_call n h || not (has_id (call_of n h)))) ≡ false
    ends w a = ap (λ b. a && (b || not (has_id (call_of n h)))) dead ∙ ap (λ b. a && not b) has ∙ both a

  -- so nothing is live exactly if no call is
  pub live_as_counted : (h : List PeerEvent) → Follows hub t h → UploadsHaveCalls h → (n : ℕ) → n ≡ own_live h → not (n == 0) ≡ has_live h
  live_as_counted h f u n is = by (has_live h) refl where
    calls : ℕ
    calls = count_below (suc (drawn h)) (λ k. live_call k h)

    uploads : ℕ
    uploads = sum_below (suc (drawn h)) (λ k. live_uploads k h)

    some : (k : ℕ) → (k ≡ 0 → ⊥) → not (k == 0) ≡ true
    some zero not_none = absurd (not_none refl)
    some (suc k) not_none = ap not (no_zero k)

    by : (b : Bool) → has_live h ≡ b → not (n == 0) ≡ b
    by true e = some n (λ none. true≢false (sym e ∙ counted_none (suc (drawn h)) (λ k. live_call k h) (let s : calls + uploads ≡ 0 = sym is ∙ none in omega arith)))
    by false e =
        let c : calls ≡ 0 = none_counted (suc (drawn h)) (λ k. live_call k h) e in
        let s : uploads ≡ 0 = sum_none (suc (drawn h)) (λ k. live_uploads k h)
        (λ k less. none_uploaded k h (calls_end k h f u) (none_of (suc (drawn h)) (λ j. live_call j h) e k less)) in
        ap (λ k. not (k == 0)) (let z : n ≡ 0 = omega (arith, is, c, s) in z)
