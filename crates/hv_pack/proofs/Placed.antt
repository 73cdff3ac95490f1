-- What is read at a place is spelled there, and what is spelled there is read.
use Rattle.std.proofs.Common.{◌≡◌, ◌⊎◌, inl, inr, ℕ, ◌+◌, ◌-◌, ◌≤◌, ◌≢◌, List, length, drop, Result, Ok, Err, refl, sym, ap, subst, ◌∙◌, arith}
use Rattle.std.proofs.lemmas.List.{length-append, length-drop}
use Rattle.std.specs.Prelude.{IfOk, IfErr, MatchResult}
use Rattle.hv_value.specs.Tree.{Tree}
use Rattle.hv_value.specs.View.{tree}
use Rattle.hv_value.specs.declared.value.Value.{Value}
use Rattle.hv_pack.specs.declared.error.PackError.{PackError}
use Rattle.hv_pack.specs.declared.error.PackError.TheVariants as errors
use Rattle.hv_pack.specs.Why.{IsRefused}
use Rattle.hv_pack.proofs.Fails.{then_ok, value_fails}
use Rattle.hv_pack.proofs.Stops.{value_stops}
use Rattle.hv_pack.specs.Packs.{IsSpelled, IsSpelling}
use Rattle.hv_pack.specs.Reading.{Fails, Gives, value_at, read_at, placed}
use Rattle.hv_pack.proofs.Takes.{bind_ok, ok_is, value_takes}
use Rattle.hv_pack.proofs.Again.{value_again}

pub spelled : (whole : List ℕ) (at : ℕ) (t : Tree) (end : ℕ) → at ≤ length whole → read_at whole at ≡ Ok (t, end) → IsSpelled whole at t end
unfolding read_at IsSpelling
spelled whole at t end fits e =
    let b = bind_ok (value_at (length whole) 64 (drop at whole)) (λ x. Ok (x.0, length whole - length x.1)) (t, end) e in
    let f = value_takes (length whole) 64 (drop at whole) b.0.0 b.0.1 b.1 in
    let ends : length whole - length b.0.1 ≡ at + length f.front = omega (arith, length-drop at whole, ap length f.parts, length-append f.front b.0.1) in
    let is : IsSpelled whole at b.0.0 (length whole - length b.0.1) = record { spelling = f.front; rest = b.0.1; parts = f.parts; packs = f.is; ends = ends } in
    subst (λ (y : Tree × ℕ). IsSpelled whole at y.0 y.1) (ok_is (b.0.0, length whole - length b.0.1) (t, end) b.2) is

pub read_again : (whole : List ℕ) (at : ℕ) (t : Tree) (end : ℕ) → at ≤ length whole → IsSpelled whole at t end → read_at whole at ≡ Ok (t, end)
unfolding read_at IsSpelling
read_again whole at t end fits h =
    let ends : length whole - length h.rest ≡ end = omega (arith, length-drop at whole, ap length h.parts, length-append h.spelling h.rest, h.ends) in
    let read : value_at (length whole) 64 (drop at whole) ≡ Ok (t, h.rest) = ap (value_at (length whole) 64) h.parts ∙ value_again (length whole) 64 t h.spelling h.rest h.packs in
    rw (read, ends) refl

pub is_found : (whole : List ℕ) (at : ℕ) (r : Result (Value × ℕ) PackError) → at ≤ length whole → Gives placed r (read_at whole at) → IfOk r (λ x. IsSpelled whole at (tree x.0) x.1)
is_found whole at (Ok x) fits h = spelled whole at (tree x.0) x.1 fits h
is_found whole at (Err e) fits h = tt

pub not_read : (whole : List ℕ) (at : ℕ) (e : PackError) → read_at whole at ≡ Err e → IsRefused whole at e
unfolding read_at IsRefused
not_read whole at e h = value_fails (length whole) 64 (drop at whole) e (then_ok (value_at (length whole) 64 (drop at whole)) (λ x. (x.0, length whole - length x.1)) e h)

why_not : (e : PackError) (whole : List ℕ) (at : ℕ) → Fails e (read_at whole at) → (e ≢ errors.NoMemory) → IsRefused whole at e
why_not errors.NoMemory whole at h n = absurd (n refl)
why_not e whole at h n = not_read whole at e h

pub is_refused : (whole : List ℕ) (at : ℕ) (r : Result (Value × ℕ) PackError) → Gives placed r (read_at whole at) → IfErr r (λ e. (e ≢ errors.NoMemory) → IsRefused whole at e)
is_refused whole at (Ok x) h = tt
is_refused whole at (Err e) h = why_not e whole at h

pub refused_again : (whole : List ℕ) (at : ℕ) (e : PackError) → IsRefused whole at e → read_at whole at ≡ Err e
unfolding read_at IsRefused
refused_again whole at e h = rw (value_stops (length whole) 64 (drop at whole) e h) refl

-- ---- what is given, by what reading gives

of_ok : (e : PackError) (x : Tree × ℕ) → Fails e (Ok x) → e ≡ errors.NoMemory
of_ok errors.NoMemory x h = refl
of_ok e x h = absurd cc

of_err : (e f : PackError) → Fails {Y = Tree × ℕ} f (Err e) → (f ≡ e) ⊎ (f ≡ errors.NoMemory)
of_err e errors.NoMemory h = inr refl
of_err e f h = inl (cc)

pub given_ok : (r : Result (Value × ℕ) PackError) (t : Tree) (end : ℕ) → Gives placed r (Ok (t, end)) → MatchResult r (λ x. (tree x.0 ≡ t) × (x.1 ≡ end)) (λ e. e ≡ errors.NoMemory)
given_ok (Ok x) t end h =
    let same = ok_is (t, end) (tree x.0, x.1) h in
    (sym (ap (λ (y : Tree × ℕ). y.0) same), sym (ap (λ (y : Tree × ℕ). y.1) same))
given_ok (Err e) t end h = of_ok e (t, end) h

pub given_err : (r : Result (Value × ℕ) PackError) (e : PackError) → Gives placed r (Err e) → MatchResult r (λ _. ⊥) (λ f. (f ≡ e) ⊎ (f ≡ errors.NoMemory))
given_err (Ok x) e h = absurd cc
given_err (Err f) e h = of_err e f h
