-- Numbers that rise, and what is left of them from a number or a place on.
use Rattle.std.proofs.Common.{◌≡◌, ℕ, suc, ◌+◌, ◌<◌, ◌≤◌, Bool, true, false, List, [], ◌∷◌, length, get_or, drop, refl, sym, ap, ◌∙◌, arith, add-one}
use Rattle.std.specs.Prelude.{◌||◌, nat_le}
use Rattle.std.proofs.lemmas.Bool.{ne_eqb, leb-true, leb-false}
use Rattle.std.proofs.Math.Seq.{drop-cons}
use Rattle.hub_machine.specs.Rounds.{AreRising}
use Rattle.hub_machine.specs.Spreads.{is_listed}
use Rattle.hub_server.proofs.Listed.{first_is_listed}

pub rising_rest : (c : ℕ) (cs : List ℕ) → AreRising (c ∷ cs) → AreRising cs
rising_rest c [] r = tt
rising_rest c (k ∷ cs) r = r.1

unlisted : (k c : ℕ) (cs : List ℕ) → (k ≡ c → ⊥) → is_listed k (c ∷ cs) ≡ is_listed k cs
unlisted k c cs n = ap (λ (b : Bool). b || is_listed k cs) (ne_eqb k c n)

-- a number before the first of them is none of them
before_first : (k c : ℕ) (cs : List ℕ) → k < c → AreRising (c ∷ cs) → is_listed k (c ∷ cs) ≡ false
before_first k c [] l r = unlisted k c [] (λ e. omega (arith, e, l))
before_first k c (d ∷ cs) l r =
    unlisted k c (d ∷ cs) (λ e. omega (arith, e, l)) ∙ before_first k d cs (let next = r.0 in omega (arith, l, next)) r.1

-- the first is none of those after it
after_first : (k c : ℕ) (cs : List ℕ) → k ≤ c → AreRising (c ∷ cs) → is_listed k cs ≡ false
after_first k c [] l r = refl
after_first k c (d ∷ cs) l r = before_first k d cs (let next = r.0 in omega (arith, l, next)) r.1

-- ---- those that are left

-- of these connections those from a number on are left
pub record AreLeft (conns : List ℕ) (first : ℕ) (left : List ℕ) : Type 0 where
  pub rise : AreRising left
  pub none_before : (k : ℕ) → k < first → is_listed k left ≡ false
  pub later : (k : ℕ) → first ≤ k → is_listed k conns ≡ is_listed k left

pub all_left : (conns : List ℕ) → AreRising conns → AreLeft conns 0 conns
all_left conns r = record { rise = r; none_before = λ k l. absurd (omega (arith, l)); later = λ k l. refl }

-- the next one isn't one of those before
pub next_later : (conns : List ℕ) (first c : ℕ) (cs : List ℕ) → AreLeft conns first (c ∷ cs) → first ≤ c
next_later conns first c cs left = go (nat_le first c) refl
  where
    go : (b : Bool) → nat_le first c ≡ b → first ≤ c
    go true e = leb-true first c e
    go false e = absurd (let is : true ≡ false = sym (first_is_listed c cs) ∙ left.none_before c (leb-false first c e) in cc)

-- none is between
pub none_between : (conns : List ℕ) (first c k : ℕ) (cs : List ℕ) → AreLeft conns first (c ∷ cs) → first ≤ k → k < c → is_listed k conns ≡ false
none_between conns first c k cs left l m = left.later k l ∙ before_first k c cs m left.rise

pub fewer_left : (conns : List ℕ) (first c : ℕ) (cs : List ℕ) → AreLeft conns first (c ∷ cs) → AreLeft conns (suc c) cs
fewer_left conns first c cs left = record {
  rise = rising_rest c cs left.rise;
  none_before = λ k l. after_first k c cs (omega (arith, l)) left.rise;
  later = λ k l. left.later k (let at = next_later conns first c cs left in omega (arith, l, at)) ∙ unlisted k c cs (λ e. omega (arith, e, l));
}

-- those from a place on begin with the one there
pub left_at : (conns : List ℕ) (i : ℕ) → i < length conns → drop i conns ≡ get_or conns i 0 ∷ drop (i + 1) conns
left_at conns i l = drop-cons conns i 0 l ∙ ap (λ n. get_or conns i 0 ∷ drop n conns) (sym (add-one i))
