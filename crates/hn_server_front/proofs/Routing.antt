-- The path of a negotiate is the base and what comes after it.
use Rattle.std.proofs.Common.{refl, sym, ap, ◌∙◌, ◌≡◌, ℕ, true, false, ◌++◌, List, [], ◌∷◌, Option, Some, None, Result, Ok, Err, IfOk, MatchOption, Bor, length, take, drop, eq-eqb}
use Rattle.std.specs.Prelude.{◌+◌, bytes_eq, codes, nat_eq}
use Rattle.std.specs.Cmp.Lexicographic.{pointwise}
use Rattle.std.specs.Option.{option_eq}
use Rattle.std.proofs.lemmas.Bool.{false_from_ne_true}
use Rattle.std.proofs.lemmas.Bool.Decides.{Decides-eqb}
use Rattle.std.proofs.lemmas.Slice.Eq.{bytes_eq-Decides, strip_prefix_is}

-- what begins the same is the same if it ends the same
same_after : (s t u : List ℕ) → bytes_eq (s ++ t) (s ++ u) ≡ bytes_eq t u
same_after [] t u = refl
same_after (x ∷ xs) t u = rw (eq-eqb x x refl) (same_after xs t u)

pub past_base : (base path : List ℕ) (rest : Option (Bor (List ℕ))) (t : Bor (List ℕ)) → t.now ≡ codes "/negotiate"
    → MatchOption rest (pointwise nat_eq (take (length base) path) base ≡ false)
    (λ x. (pointwise nat_eq (take (length base) path) base ≡ true) × (x.now ≡ drop (length base) path) × (length x.now + length base ≡ length path))
    → bytes_eq path (base ++ codes "/negotiate") ≡ option_eq (λ x y. bytes_eq x.now y.now) rest (Some t)
past_base base path None t e m =
    let other = strip_prefix_is Decides-eqb path base None m in
    false_from_ne_true _ (λ same. other (codes "/negotiate") ((bytes_eq-Decides path (base ++ codes "/negotiate")).0 same))
past_base base path (Some x) t e m =
    let whole : path ≡ base ++ x.now = strip_prefix_is Decides-eqb path base (Some x) m in
    ap (λ p. bytes_eq p (base ++ codes "/negotiate")) whole ∙ (same_after base x.now (codes "/negotiate") ∙ ap (λ u. bytes_eq x.now u) (sym e))

-- what is given if something holds
pub given : {A E : Type 0} (r : Result A E) (Q : Type 0) (P : A → Type 0) → Q → IfOk r (λ x. Q → P x) → IfOk r P
given (Ok x) Q P q h = h q
given (Err e) Q P q h = tt
