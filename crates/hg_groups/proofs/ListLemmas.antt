-- What follows for lists of connections when one is taken out, and for the pairs of an index.
use Rattle.std.proofs.Common.{◌≡◌, ℕ, Bool, true, false, cond, not, ◌&&◌, ◌||◌, eqb, nat_eq, List, [], ◌∷◌, refl, sym, ap, ◌∙◌, true≢false}
use Rattle.std.specs.List.{IsDistinct, AllByRecursion}
use Rattle.std.proofs.lemmas.Bool.{eqb-true, eq-eqb}
use Rattle.std.proofs.lemmas.Map.Keys.{IsDistinct-head, IsDistinct-tail, IsDistinct-cons}
use Rattle.hd_rooms.specs.RegistryLaws.{is_among, others_than}

-- who isn't there isn't missed
pub others_than-absent : (conn : ℕ) (conns : List ℕ) → is_among conn conns ≡ false → others_than conn conns ≡ conns
others_than-absent conn [] out = refl
others_than-absent conn (c ∷ conns) out = by (eqb conn c) out (others_than-absent conn conns)
  where
    by : (b : Bool) → (b || is_among conn conns) ≡ false → (is_among conn conns ≡ false → others_than conn conns ≡ conns)
        → cond (not b) (c ∷ others_than conn conns) (others_than conn conns) ≡ c ∷ conns
    by true out' h = absurd (true≢false out')
    by false out' h = ap (λ rest. c ∷ rest) (h out')

-- who is there once another left
pub is_among-others_than : (who conn : ℕ) (conns : List ℕ) → is_among who (others_than conn conns) ≡ (not (eqb conn who) && is_among who conns)
is_among-others_than who conn [] = by (eqb conn who)
  where
    by : (b : Bool) → false ≡ (not b && false)
    by true = refl
    by false = refl
is_among-others_than who conn (c ∷ conns) =
    by (eqb conn c) refl (eqb who c) refl (eqb conn who)
    (λ e f. eq-eqb conn who (eqb-true conn c e ∙ sym (eqb-true who c f)))
    (λ e f. eq-eqb conn c (eqb-true conn who e ∙ eqb-true who c f))
    (is_among-others_than who conn conns)
  where
    by : (b : Bool) → eqb conn c ≡ b → (w : Bool) → eqb who c ≡ w → (s : Bool)
        → (eqb conn c ≡ true → eqb who c ≡ true → s ≡ true)
        → (s ≡ true → eqb who c ≡ true → eqb conn c ≡ true)
        → is_among who (others_than conn conns) ≡ (not s && is_among who conns)
        → is_among who (cond (not b) (c ∷ others_than conn conns) (others_than conn conns)) ≡ (not s && (w || is_among who conns))
    by true e true f true one two h = h
    by true e true f false one two h = absurd (true≢false (sym (one e f)))
    by true e false f true one two h = h
    by true e false f false one two h = h
    by false e true f true one two h = absurd (true≢false (sym (two refl f) ∙ e))
    by false e true f false one two h = rw f refl
    by false e false f true one two h = rw f h
    by false e false f false one two h = rw f h

-- one who left can leave again
pub others_than-twice : (conn : ℕ) (conns : List ℕ) → others_than conn (others_than conn conns) ≡ others_than conn conns
others_than-twice conn conns = others_than-absent conn (others_than conn conns)
    (is_among-others_than conn conn conns ∙ ap (λ b. not b && is_among conn conns) (eq-eqb conn conn refl))

-- what holds of each connection holds of each of the others
all_others : (P : ℕ → Type 0) (conn : ℕ) (conns : List ℕ) → AllByRecursion P conns → AllByRecursion P (others_than conn conns)
all_others P conn [] all = all
all_others P conn (c ∷ conns) all = by (eqb conn c) (all_others P conn conns all.1)
  where
    by : (b : Bool) → AllByRecursion P (others_than conn conns)
        → AllByRecursion P (cond (not b) (c ∷ others_than conn conns) (others_than conn conns))
    by true rest = rest
    by false rest = (all.0, rest)

-- the others are each there once, as all were
pub IsDistinct-others_than : (conn : ℕ) (conns : List ℕ) → IsDistinct nat_eq conns → IsDistinct nat_eq (others_than conn conns)
IsDistinct-others_than conn [] once = once
IsDistinct-others_than conn (c ∷ conns) once = by (eqb conn c) (IsDistinct-others_than conn conns (IsDistinct-tail nat_eq c conns once))
  where
    by : (b : Bool) → IsDistinct nat_eq (others_than conn conns)
        → IsDistinct nat_eq (cond (not b) (c ∷ others_than conn conns) (others_than conn conns))
    by true rest = rest
    by false rest = IsDistinct-cons nat_eq c (others_than conn conns)
        (all_others (λ d. nat_eq c d ≡ false) conn conns (IsDistinct-head nat_eq c conns once)) rest
