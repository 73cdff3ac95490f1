-- Numbers that rise: one place after another, and those of the connections that are awake.
use Rattle.std.proofs.Common.{◌≡◌, ℕ, zero, suc, ◌<◌, Bool, true, false, ◌||◌, ◌==◌, List, [], ◌∷◌, length, get_or, refl, sym, ap, subst}
use Rattle.std.proofs.Common.{◌∙◌, true≢false, arith}
use Rattle.std.proofs.lemmas.Bool.{eqb-true, eq-eqb, or_left}
use Rattle.hv_value.specs.SortedSet.{IsRising, is_in}
use Rattle.hub_machine.specs.declared.machine.Machine.{Machine}
use Rattle.hub_machine.specs.Machines.{IsIndexed}
use Rattle.hub_machine.specs.Rounds.{AreNumbers, AreRising}
use Rattle.hub_machine.specs.Spreads.{is_listed}

-- ---- places

-- without the first, the others rise
rising_tail : (c : ℕ) (cs : List ℕ) → AreRising (c ∷ cs) → AreRising cs
rising_tail c [] r = tt
rising_tail c (d ∷ cs) r = r.1

-- the first is less than each after it
pub above_first : (c : ℕ) (cs : List ℕ) → AreRising (c ∷ cs) → (i : ℕ) → i < length cs → c < get_or cs i 0
above_first c [] r i l = absurd (omega (arith, l))
above_first c (d ∷ cs) r zero l = r.0
above_first c (d ∷ cs) r (suc i) l = let next : d < get_or cs i 0 = above_first d cs r.1 i (omega (arith, l)) in omega (arith, r.0, next)

-- each is less than those after it
pub rising_at : (cs : List ℕ) → AreRising cs → (k i : ℕ) → k < i → i < length cs → get_or cs k 0 < get_or cs i 0
rising_at [] r k i before l = absurd (omega (arith, l))
rising_at (c ∷ cs) r k zero before l = absurd (omega (arith, before))
rising_at (c ∷ cs) r zero (suc i) before l = above_first c cs r i (omega (arith, l))
rising_at (c ∷ cs) r (suc k) (suc i) before l = rising_at cs (rising_tail c cs r) k i (omega (arith, before)) (omega (arith, l))

-- what is listed has a place
pub listed_at : (c : ℕ) (cs : List ℕ) → is_listed c cs ≡ true → (k : ℕ) × (k < length cs) × (c ≡ get_or cs k 0)
listed_at c [] e = absurd (true≢false (sym e))
listed_at c (d ∷ cs) e = by (c == d) refl e (listed_at c cs)
  where
    by : (b : Bool) → (c == d) ≡ b → (b || is_listed c cs) ≡ true
        → (is_listed c cs ≡ true → (k : ℕ) × (k < length cs) × (c ≡ get_or cs k 0))
        → (k : ℕ) × (k < suc (length cs)) × (c ≡ get_or (d ∷ cs) k 0)
    by true f g later = (zero, omega arith, eqb-true c d f)
    by false f g later = let l = later g in (suc l.0, omega (arith, l.1), l.2)

-- ---- those that are awake

-- what is in a list is listed
pub in_listed : (c : ℕ) (cs : List ℕ) → is_in c cs ≡ is_listed c cs
in_listed c [] = refl
in_listed c (d ∷ cs) = ap (λ (b : Bool). (c == d) || b) (in_listed c cs)

-- each is above the one before it
rising_in : (cs : List ℕ) → IsRising cs → AreRising cs
rising_in [] r = tt
rising_in (c ∷ []) r = tt
rising_in (c ∷ d ∷ cs) r = (r.0 d (or_left (d == d) (is_in d cs) (eq-eqb d d refl)), rising_in (d ∷ cs) r.1)

-- those in the machine's list are its connections that are awake
pub awake_are_numbers : {H Job : Type 0} (m : Machine H Job) (conns : List ℕ) → IsIndexed {H = H} m → conns ≡ m.idle_set.awake.numbers.items
    → AreNumbers {H = H} m conns
awake_are_numbers m conns index are = record {
  rise = subst AreRising (sym are) (rising_in m.idle_set.awake.numbers.items index.kept.rising);
  are = λ c. sym (index.awake c) ∙ ap (λ cs. is_in c cs) (sym are) ∙ in_listed c conns;
}
