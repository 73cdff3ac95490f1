-- Targets, piece by piece.
use Rattle.std.proofs.Common.{◌≡◌, ℕ, suc, arith, ◌-◌, Bool, true, false, List, [], ◌∷◌, ◌++◌, length, drop, codes, Option, Result, Ok, Err, OnOk, refl, sym, ap, ◌∙◌, append_assoc, true≢false, if◌then◌else◌}
use Rattle.std.proofs.lemmas.Bool.{eqb-true, eq-eqb}
use Rattle.std.specs.Prelude.{◌==◌, ◌&&◌}
use Rattle.std.specs.Cmp.Lexicographic.{pointwise}
use Rattle.std.specs.List.{ends_with}
use Rattle.hd_dialing.specs.Asks.{access_pair, ends_with_slash, negotiate_path, reconnect_pair, slash}

pub pushed_then : {T E : Type 0} (r : Result T E) (old mid new front tail whole : List ℕ) → mid ≡ old ++ front → whole ≡ front ++ tail → OnOk r (new ≡ mid ++ tail)
    → OnOk r (new ≡ old ++ whole)
pushed_then (Ok a) old mid new front tail whole e f g = g ∙ (ap (λ all. all ++ tail) e ∙ (append_assoc old front tail ∙ ap (λ all. old ++ all) (sym f)))
pushed_then (Err why) old mid new front tail whole e f g = tt

-- ---- slashes

same_sides : (a b : ℕ) → (a == b) ≡ (b == a)
same_sides a b = by (a == b) (b == a) refl refl where
  by : (x y : Bool) → (a == b) ≡ x → (b == a) ≡ y → x ≡ y
  by true true e f = refl
  by false false e f = refl
  by true false e f = absurd (true≢false (sym (eq-eqb b a (sym (eqb-true a b e))) ∙ f))
  by false true e f = absurd (true≢false (sym (eq-eqb a b (sym (eqb-true b a f))) ∙ e))

and_true : (b : Bool) → (b && true) ≡ b
and_true true = refl
and_true false = refl

one_less : (n : ℕ) → suc (suc n) - 1 ≡ suc (suc n - 1)
one_less n = omega arith

pub slash_last : (path : List ℕ) → ends_with (λ x y. x == y) path (slash ∷ []) ≡ ends_with_slash path
slash_last [] = refl
slash_last (byte ∷ []) = and_true (slash == byte) ∙ same_sides slash byte
slash_last (byte ∷ next ∷ bytes) = ap (λ k. pointwise (λ x y. x == y) (slash ∷ []) (drop k (byte ∷ next ∷ bytes))) (one_less (length bytes)) ∙ slash_last (next ∷ bytes)

-- ---- the target of a negotiate

pub negotiate_is : (path t1 t2 t3 t4 s r : List ℕ) (reconnect : Bool) (access : Option (List ℕ)) → t1 ≡ path ++ s → s ≡ (if ends_with_slash path then [] else slash ∷ [])
    → t2 ≡ t1 ++ codes "negotiate?negotiateVersion=1" → t3 ≡ t2 ++ r → r ≡ reconnect_pair reconnect → t4 ≡ t3 ++ access_pair access
    → t4 ≡ negotiate_path path ++ (codes "?negotiateVersion=1" ++ (reconnect_pair reconnect ++ access_pair access))
negotiate_is path t1 t2 t3 t4 s r reconnect access e1 es e2 e3 er e4 =
    let front = codes "negotiate" in
    let version = codes "?negotiateVersion=1" in
    let a = access_pair access in
    let k = reconnect_pair reconnect in
    let sl = (if ends_with_slash path then [] else slash ∷ []) in
    let first : t1 ≡ path ++ sl = e1 ∙ ap (λ x. path ++ x) es in
    let second : t2 ≡ (path ++ sl) ++ (front ++ version) = e2 ∙ ap (λ x. x ++ (front ++ version)) first in
    let third : t3 ≡ ((path ++ sl) ++ (front ++ version)) ++ k = e3 ∙ (ap (λ x. x ++ r) second ∙ ap (λ x. ((path ++ sl) ++ (front ++ version)) ++ x) er) in
    let fourth : t4 ≡ (((path ++ sl) ++ (front ++ version)) ++ k) ++ a = e4 ∙ ap (λ x. x ++ a) third in
    fourth ∙ (append_assoc ((path ++ sl) ++ (front ++ version)) k a
    ∙ (append_assoc (path ++ sl) (front ++ version) (k ++ a)
    ∙ (ap (λ x. (path ++ sl) ++ x) (append_assoc front version (k ++ a))
    ∙ (sym (append_assoc (path ++ sl) front (version ++ (k ++ a)))
    ∙ ap (λ x. x ++ (version ++ (k ++ a))) (append_assoc path sl front)))))
