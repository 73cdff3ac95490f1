-- What a link that is opened or accepted makes of what a replay keeps of links.
use Rattle.std.proofs.Common.{◌≡◌, ℕ, zero, suc, ◌<◌, ◌≤◌, Bool, true, false, List, [], ◌∷◌, ◌++◌, length, Some, refl, sym, ap, ◌∙◌, subst, arith, inl, inr, slice_index_or, slice_set, get_or}
use Rattle.std.proofs.lemmas.Option.{slice_get-get_or}
use Rattle.std.specs.Prelude.{slice_get, Contains, ◌==◌, ◌||◌, ◌⊎◌}
use Rattle.std.proofs.lemmas.Bool.{eqb-true, eq-eqb}
use Rattle.hd_delivery.specs.Histories as of
use Rattle.hd_delivery.specs.Histories.{was_on}
use Rattle.hd_delivery.specs.Bytes.{Wire, ByteStep, in_frames, lent_bytes}
use Rattle.sr_script.specs.declared.action.Action.{Action}
use Rattle.sr_script.specs.declared.action.Action.TheVariants.{Open, Accept}
use Rattle.sr_script.specs.Script.{opened, IsInTurn, AreInTurn}
use Rattle.sr_replay.specs.Runs.{steps_of, attaching}
use Rattle.sr_replay.specs.Follows.{Tries}

-- ---- which links there are

opens_more : (a : Action) (before : List Action) → opened before ≤ opened (a ∷ before)
opens_more Open before = omega arith
opens_more a before = omega arith

accepted_at : (actions : List Action) (l k : ℕ) → AreInTurn actions → k < length actions → slice_index_or actions k (Accept l) ≡ Accept l → l < opened actions
accepted_at [] l k turns few e = absurd (omega (arith, few))
accepted_at (a ∷ before) l zero turns few e = let first = subst (IsInTurn before) e turns.1 in omega (arith, first.0, opens_more a before)
accepted_at (a ∷ before) l (suc k) turns few e = omega (arith, accepted_at before l k turns.0 (omega (arith, few)) e, opens_more a before)

-- a link that is accepted was opened
pub accepted_is_open : (actions : List Action) (l : ℕ) → AreInTurn actions → Contains actions (Accept l) → l < opened actions
accepted_is_open actions l turns c = accepted_at actions l c.0 turns c.1 c.2

pub not_on : (b : Bool) → (b ≡ true → ⊥) → b ≡ false
not_on true never = absurd (never refl)
not_on false never = refl

-- what an index gives is there
pub there : {A : Type 0} (xs : List A) (i : ℕ) (x : A) → i < length xs → x ≡ get_or xs i x → slice_get xs i ≡ Some x
there xs i x within e = slice_get-get_or xs i x within ∙ ap Some (sym e)

-- ---- a list with one more

pub get_last : {A : Type 0} (xs : List A) (x : A) (l : ℕ) (y : A) → slice_get (xs ++ x ∷ []) l ≡ Some y → (slice_get xs l ≡ Some y) ⊎ ((l ≡ length xs) × (x ≡ y))
get_last [] x zero y e = inr (refl, cc)
get_last [] x (suc l) y e = absurd (cc)
get_last (z ∷ xs) x zero y e = inl e
get_last (z ∷ xs) x (suc l) y e = up (get_last xs x l y e)
  where
    up : (slice_get xs l ≡ Some y) ⊎ ((l ≡ length xs) × (x ≡ y)) → (slice_get xs l ≡ Some y) ⊎ ((suc l ≡ suc (length xs)) × (x ≡ y))
    up (inl g) = inl g
    up (inr g) = inr (ap suc g.0, g.1)

-- ---- a list with another element

pub get_set : {A : Type 0} (xs : List A) (i : ℕ) (v : A) (j : ℕ) (y : A) → slice_get (slice_set xs i v) j ≡ Some y → ((j ≡ i) × (v ≡ y)) ⊎ ((j ≡ i → ⊥) × (slice_get xs j ≡ Some y))
get_set [] i v j y e = absurd (cc)
get_set (x ∷ xs) zero v zero y e = inl (refl, cc)
get_set (x ∷ xs) zero v (suc j) y e = inr ((λ f. omega (arith, f)), e)
get_set (x ∷ xs) (suc i) v zero y e = inr ((λ f. omega (arith, f)), e)
get_set (x ∷ xs) (suc i) v (suc j) y e = up (get_set xs i v j y e)
  where
    up : ((j ≡ i) × (v ≡ y)) ⊎ ((j ≡ i → ⊥) × (slice_get xs j ≡ Some y)) → ((suc j ≡ suc i) × (v ≡ y)) ⊎ ((suc j ≡ suc i → ⊥) × (slice_get xs j ≡ Some y))
    up (inl g) = inl (ap suc g.0, g.1)
    up (inr g) = inr ((λ f. g.0 (omega (arith, f))), g.1)

-- ---- an attach

or_rest : (a b : Bool) → a ≡ false → (a || b) ≡ b
or_rest true b e = absurd (cc)
or_rest false b e = refl

or_first : (a b : Bool) → a ≡ true → (a || b) ≡ true
or_first true b e = refl
or_first false b e = absurd (cc)

-- it says nothing, and an end that was there now is on no link but the new one
pub record Attaches (wire : Wire) (c : of.Config) (h now : List ByteStep) (link : ℕ) (taken : Bool) : Type 0 where
  pub lent : (l : ℕ) → lent_bytes wire c l now ≡ lent_bytes wire c l h
  pub others : (l : ℕ) → (l ≡ link → ⊥) → was_on l (in_frames wire c now) ≡ was_on l (in_frames wire c h)
  pub here : was_on link (in_frames wire c h) ≡ false → taken ≡ was_on link (in_frames wire c now)

pub attached : (wire : Wire) (c : of.Config) (h : List ByteStep) (link now : ℕ) (taken : Bool) (before after : ℕ) → Tries c (in_frames wire c h) link now taken before after
    → Attaches wire c h (steps_of (attaching c (in_frames wire c h) link now ∷ []) ++ h) link taken
attached wire c h link now true before after tried = subst (λ d. Attaches wire c h (steps_of (d ∷ []) ++ h) link true) (sym tried.0) (record {
  lent = λ l. refl;
  others = λ l apart. or_rest (l == link) (was_on l (in_frames wire c h)) (not_on (l == link) (λ e. apart (eqb-true l link e)));
  here = λ e. sym (or_first (link == link) (was_on link (in_frames wire c h)) (eq-eqb link link refl));
})
attached wire c h link now false before after tried = subst (λ d. Attaches wire c h (steps_of (d ∷ []) ++ h) link false) (sym tried.1.0) (record {
  lent = λ l. refl;
  others = λ l apart. refl;
  here = λ e. sym e;
})
