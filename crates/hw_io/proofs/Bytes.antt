-- What a source gives, and what a sink takes in several turns.
use Rattle.std.proofs.Common.{◌≡◌, ◌+◌, ℕ, List, ◌++◌, take, drop, sym, ◌∙◌, ap, subst, append_assoc, Option, Some, None}
use Rattle.std.proofs.lemmas.List.{drop-drop, take-append-drop}
use Rattle.std.proofs.Math.Seq.{take-add}
use Rattle.std.specs.Io.KnownBytes.{Appends}

-- what is left before a call is what it gave, and then what is left after it
pub front_then_rest : (at count : ℕ) (bytes buf : List ℕ) →
    take count buf ≡ take count (drop at bytes) → drop at bytes ≡ take count buf ++ drop (at + count) bytes
front_then_rest at count bytes buf given =
    sym (take-append-drop count (drop at bytes))
    ∙ ap (λ xs. take count (drop at bytes) ++ xs) (drop-drop count at bytes)
    ∙ ap (λ xs. xs ++ drop (at + count) bytes) (sym given)

-- known bytes that grow twice
appends_both : (a b c : Option (List ℕ)) (xs ys : List ℕ) → Appends a b xs → Appends b c ys → Appends a c (xs ++ ys)
appends_both None b c xs ys p q = tt
appends_both (Some a) None c xs ys p q = absurd p
appends_both (Some a) (Some b) None xs ys p q = absurd q
appends_both (Some a) (Some b) (Some c) xs ys p q = q ∙ ap (λ zs. zs ++ ys) p ∙ append_assoc a xs ys

-- one more write, of the bytes that the earlier ones left
pub appends_more : (a b c : Option (List ℕ)) (done n : ℕ) (bytes : List ℕ) →
    Appends a b (take done bytes) → Appends b c (take n (drop done bytes)) → Appends a c (take (done + n) bytes)
appends_more a b c done n bytes p q =
    subst (λ (xs : List ℕ). Appends a c xs) (sym (take-add done n bytes))
    (appends_both a b c (take done bytes) (take n (drop done bytes)) p q)
