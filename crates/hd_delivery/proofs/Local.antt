-- What holds of every list of steps.
use Rattle.std.proofs.Common.{◌≡◌, ℕ, Bool, true, false, List, [], ◌∷◌, Option, Some, None, refl, sym, ap, subst}
use Rattle.std.specs.Prelude.{slice_get, ◌==◌, ◌||◌, if◌then◌else◌}
use Rattle.std.proofs.lemmas.Bool.{eqb-true, eq-eqb}
use Rattle.hd_delivery.specs.declared.vocabulary.Got.TheVariants.{Shaken}
use Rattle.hd_delivery.specs.Frames.{LinkFrame}
use Rattle.hd_delivery.specs.Histories.{Config, EndEvent, Attached, Detached, Fed, Took, Failed, Lent, Silenced, is_this, first_of, present_link, stands_on, was_on, first_link, fed_frames, lent_frames, taken_count, is_shaken, is_resumable}

pub is_this-true : (l : ℕ) (o : Option ℕ) → is_this l o ≡ true → o ≡ Some l
is_this-true l None e = absurd (cc)
is_this-true l (Some k) e = ap Some (sym (eqb-true l k e))

pub is_this-same : (l : ℕ) (o : Option ℕ) → o ≡ Some l → is_this l o ≡ true
is_this-same l None e = absurd (cc)
is_this-same l (Some k) e = eq-eqb l k (let e' : k ≡ l = cc in sym e')

-- a test, with what it says
pub both : {A : Type 0} (P : A → Type 0) (b : Bool) (x y : A) → (b ≡ true → P x) → (b ≡ false → P y) → P (if b then x else y)
both P true x y f g = f refl
both P false x y f g = g refl

pub or_parts : (a b : Bool) → (a || b) ≡ false → (a ≡ false) × (b ≡ false)
or_parts true b e = absurd (cc)
or_parts false b e = (refl, e)

pub or_right : (a b : Bool) → b ≡ true → (a || b) ≡ true
or_right true b e = refl
or_right false b e = e

pub or_left : (a b : Bool) → a ≡ true → (a || b) ≡ true
or_left true b e = refl
or_left false b e = absurd (cc)

pub here_was : (l : ℕ) (h : List EndEvent) → present_link h ≡ Some l → was_on l h ≡ true
here_was l [] e = absurd (cc)
here_was l (Attached k now ∷ h) e = or_left (l == k) (was_on l h) (eq-eqb l k (let e' : k ≡ l = cc in sym e'))
here_was l (Detached now ∷ h) e = absurd (cc)
here_was l (Silenced now ∷ h) e = absurd (cc)
here_was l (_ ∷ h) e = here_was l h e

off : (l : ℕ) (h : List EndEvent) → was_on l h ≡ false → stands_on l h ≡ false
off l h e = go (stands_on l h) refl
  where
    go : (b : Bool) → stands_on l h ≡ b → b ≡ false
    go true s = let w : was_on l h ≡ true = here_was l h (is_this-true l (present_link h) s) in absurd (cc)
    go false s = refl

-- on a link where the end never was there is nothing
pub nothing_lent : (l : ℕ) (h : List EndEvent) → was_on l h ≡ false → lent_frames l h ≡ []
nothing_lent l [] e = refl
nothing_lent l (Attached k now ∷ h) e = nothing_lent l h (or_parts (l == k) (was_on l h) e).1
nothing_lent l (Lent t ∷ h) e = rw (off l h e) (nothing_lent l h e)
nothing_lent l (_ ∷ h) e = nothing_lent l h e

pub nothing_fed : (l : ℕ) (h : List EndEvent) → was_on l h ≡ false → fed_frames l h ≡ []
nothing_fed l [] e = refl
nothing_fed l (Attached k now ∷ h) e = nothing_fed l h (or_parts (l == k) (was_on l h) e).1
nothing_fed l (Fed t ∷ h) e = rw (off l h e) (nothing_fed l h e)
nothing_fed l (_ ∷ h) e = nothing_fed l h e

pub nothing_taken : (l : ℕ) (h : List EndEvent) → was_on l h ≡ false → taken_count l h ≡ 0
nothing_taken l [] e = refl
nothing_taken l (Attached k now ∷ h) e = nothing_taken l h (or_parts (l == k) (was_on l h) e).1
nothing_taken l (Took g ∷ h) e = rw (off l h e) (nothing_taken l h e)
nothing_taken l (Failed g ∷ h) e = rw (off l h e) (nothing_taken l h e)
nothing_taken l (_ ∷ h) e = nothing_taken l h e

some_first : (o : Option ℕ) (k : ℕ) → (l : ℕ) × (first_of o (Some k) ≡ Some l)
some_first None k = (k, refl)
some_first (Some l) k = (l, refl)

-- an end that was on a link has a first link
pub has_first : (l : ℕ) (h : List EndEvent) → was_on l h ≡ true → (k : ℕ) × (first_link h ≡ Some k)
has_first l [] e = absurd (cc)
has_first l (Attached k now ∷ h) e = some_first (first_link h) k
has_first l (Lent t ∷ h) e = has_first l h e
has_first l (_ ∷ h) e = has_first l h e

pub none_was : (l : ℕ) (h : List EndEvent) → first_link h ≡ None → was_on l h ≡ false
none_was l h e = go (was_on l h) refl
  where
    go : (b : Bool) → was_on l h ≡ b → b ≡ false
    go true w = let f = has_first l h w in let f' : first_link h ≡ Some f.0 = f.1 in absurd (cc)
    go false w = refl

-- where something was lent the end was
pub lent_was : (l : ℕ) (h : List EndEvent) (k : ℕ) (t : LinkFrame) → slice_get (lent_frames l h) k ≡ Some t → was_on l h ≡ true
lent_was l h k t e = go (was_on l h) refl
  where
    go : (b : Bool) → was_on l h ≡ b → b ≡ true
    go true w = refl
    go false w = let n = nothing_lent l h w in let e' : slice_get {X = LinkFrame} [] k ≡ Some t = subst (λ ts. slice_get ts k ≡ Some t) n e in absurd (cc)

pub kept_shaken : (c : Config) (h : List EndEvent) → is_resumable c h ≡ true → is_shaken h ≡ true
kept_shaken c [] e = absurd (cc)
kept_shaken c (Took (Shaken k v) ∷ h) e = refl
kept_shaken c (_ ∷ h) e = kept_shaken c h e

pub first_was : (h : List EndEvent) (l : ℕ) → first_link h ≡ Some l → was_on l h ≡ true
first_was [] l e = absurd (cc)
first_was (Attached k now ∷ h) l e = go (first_link h) (first_was h l) e
  where
    go : (o : Option ℕ) → (o ≡ Some l → was_on l h ≡ true) → first_of o (Some k) ≡ Some l → ((l == k) || was_on l h) ≡ true
    go None f e = or_left (l == k) (was_on l h) (eq-eqb l k (let e' : k ≡ l = cc in sym e'))
    go (Some j) f e = or_right (l == k) (was_on l h) (f e)
first_was (_ ∷ h) l e = first_was h l e
