-- What holds of every list of steps: of links on which the end stands, stood first, or never stood.
use Rattle.std.proofs.Common.{◌≡◌, ℕ, zero, suc, ◌≤◌, Bool, true, false, List, [], ◌∷◌, ◌++◌, take, Option, Some, None, refl, sym, ap, ◌∙◌, subst, arith}
use Rattle.std.specs.Prelude.{slice_get, ◌==◌, ◌||◌, is_some, option_map}
use Rattle.std.proofs.lemmas.Bool.{eqb-true, eq-eqb, or_parts, or_left, or_right}
use Rattle.std.proofs.lemmas.List.Sums.{fold_push}
use Rattle.hd_delivery.specs.declared.vocabulary.Got.{Got}
use Rattle.hd_delivery.specs.declared.vocabulary.Got.TheVariants.{Shaken}
use Rattle.hd_delivery.specs.Frames.{LinkFrame, count, number}
use Rattle.hd_delivery.specs.Histories.{Config, Fault, EndEvent, Attached, Detached, Took, Failed, Lent, Silenced, is_this, first_of, present_link, stands_on, was_on, first_link, link_count, fed_frames, lent_frames, taken_count, read_frames, is_shaken, codec_of}
use Rattle.he_end.specs.declared.link.Link.{Link}
use Rattle.he_end.specs.Remembers.{OnLink}

pub is_this-true : (l : ℕ) (o : Option ℕ) → is_this l o ≡ true → o ≡ Some l
is_this-true l None e = absurd (cc)
is_this-true l (Some k) e = ap Some (sym (eqb-true l k e))

pub is_this-same : (l : ℕ) (o : Option ℕ) → o ≡ Some l → is_this l o ≡ true
is_this-same l None e = absurd (cc)
is_this-same l (Some k) e = eq-eqb l k (let e' : k ≡ l = cc in sym e')

-- ---- where the end was

here_was : (l : ℕ) (k : List EndEvent) → present_link k ≡ Some l → was_on l k ≡ true
here_was l [] e = absurd (cc)
here_was l (Attached j now ∷ k) e = or_left (l == j) (was_on l k) (eq-eqb l j (let e' : j ≡ l = cc in sym e'))
here_was l (Detached now ∷ k) e = absurd (cc)
here_was l (Silenced now ∷ k) e = absurd (cc)
here_was l (_ ∷ k) e = here_was l k e

off : (l : ℕ) (k : List EndEvent) → was_on l k ≡ false → stands_on l k ≡ false
off l k e = go (stands_on l k) refl
  where
    go : (b : Bool) → stands_on l k ≡ b → b ≡ false
    go true s = let w : was_on l k ≡ true = here_was l k (is_this-true l (present_link k) s) in absurd (cc)
    go false s = refl

-- on a link where the end never was there is nothing
pub nothing_lent : (l : ℕ) (k : List EndEvent) → was_on l k ≡ false → lent_frames l k ≡ []
nothing_lent l [] e = refl
nothing_lent l (Attached j now ∷ k) e = nothing_lent l k (or_parts (l == j) (was_on l k) e).1
nothing_lent l (Lent t ∷ k) e = rw (off l k e) (nothing_lent l k e)
nothing_lent l (_ ∷ k) e = nothing_lent l k e

pub nothing_taken : (l : ℕ) (k : List EndEvent) → was_on l k ≡ false → taken_count l k ≡ 0
nothing_taken l [] e = refl
nothing_taken l (Attached j now ∷ k) e = nothing_taken l k (or_parts (l == j) (was_on l k) e).1
nothing_taken l (Took g ∷ k) e = rw (off l k e) (nothing_taken l k e)
nothing_taken l (Failed g ∷ k) e = rw (off l k e) (nothing_taken l k e)
nothing_taken l (_ ∷ k) e = nothing_taken l k e

-- an end that stands on a link had a first one
pub has_first : (k : List EndEvent) (l : ℕ) → present_link k ≡ Some l → is_some (first_link k) ≡ true
has_first [] l e = absurd (cc)
has_first (Attached j now ∷ k) l e = go (first_link k)
  where
    go : (o : Option ℕ) → is_some (first_of o (Some j)) ≡ true
    go None = refl
    go (Some i) = refl
has_first (Detached now ∷ k) l e = absurd (cc)
has_first (Silenced now ∷ k) l e = absurd (cc)
has_first (_ ∷ k) l e = has_first k l e

first_was : (k : List EndEvent) (l : ℕ) → first_link k ≡ Some l → was_on l k ≡ true
first_was [] l e = absurd (cc)
first_was (Attached j now ∷ k) l e = go (first_link k) (first_was k l) e
  where
    go : (o : Option ℕ) → (o ≡ Some l → was_on l k ≡ true) → first_of o (Some j) ≡ Some l → ((l == j) || was_on l k) ≡ true
    go None f e = or_left (l == j) (was_on l k) (eq-eqb l j (let e' : j ≡ l = cc in sym e'))
    go (Some i) f e = or_right (l == j) (was_on l k) (f e)
first_was (_ ∷ k) l e = first_was k l e

-- a link on which the end never stood isn't its first
pub not_first : (l : ℕ) (k : List EndEvent) → was_on l k ≡ false → is_this l (first_link k) ≡ false
not_first l k e = go (is_this l (first_link k)) refl
  where
    go : (b : Bool) → is_this l (first_link k) ≡ b → b ≡ false
    go true s = let w : was_on l k ≡ true = first_was k l (is_this-true l (first_link k) s) in absurd (cc)
    go false s = refl

-- with no first link there was none
pub none_counted : (k : List EndEvent) → first_link k ≡ None → link_count k ≡ 0
none_counted [] e = refl
none_counted (Attached j now ∷ k) e = absurd (go (first_link k) e)
  where
    go : (o : Option ℕ) → first_of o (Some j) ≡ None → ⊥
    go None e = cc
    go (Some i) e = cc
none_counted (_ ∷ k) e = none_counted k e

-- with a first one there was one
pub some_counted : (k : List EndEvent) → is_some (first_link k) ≡ true → 1 ≤ link_count k
some_counted [] e = absurd (cc)
some_counted (Attached j now ∷ k) e = omega arith
some_counted (_ ∷ k) e = some_counted k e

-- ---- before the handshake

pub first_codec : (c : Config) (k : List EndEvent) → is_shaken k ≡ false → codec_of c k ≡ c.codec
first_codec c [] e = refl
first_codec c (Took (Shaken codec version) ∷ k) e = absurd (cc)
first_codec c (_ ∷ k) e = first_codec c k e

-- ---- frames that are taken

take_next : {A : Type 0} (xs : List A) (k : ℕ) (x : A) → slice_get xs k ≡ Some x → take (suc k) xs ≡ take k xs ++ x ∷ []
take_next [] k x e = absurd (cc)
take_next (y ∷ xs) zero x e = cc
take_next (y ∷ xs) (suc k) x e = ap (λ zs. y ∷ zs) (take_next xs k x e)

pub taken_on : (got : Got) (l : ℕ) (k : List EndEvent) → present_link k ≡ Some l → taken_count l (Took got ∷ k) ≡ suc (taken_count l k)
taken_on got l k at = rw (is_this-same l (present_link k) at) refl

pub taken_too : (fault : Fault) (l : ℕ) (k : List EndEvent) → present_link k ≡ Some l → taken_count l (Failed fault ∷ k) ≡ suc (taken_count l k)
taken_too fault l k at = rw (is_this-same l (present_link k) at) refl

-- the number after one more frame
pub counts_on : (got : Got) (l : ℕ) (k : List EndEvent) (f : LinkFrame) → present_link k ≡ Some l → slice_get (fed_frames l k) (taken_count l k) ≡ Some f
    → number (read_frames l (Took got ∷ k)) ≡ count (number (read_frames l k)) f
counts_on got l k f at next = ap (λ n. number (take n (fed_frames l k))) (taken_on got l k at)
    ∙ (ap number (take_next (fed_frames l k) (taken_count l k) f next) ∙ fold_push count None (read_frames l k) f)

-- ---- the link of a session and of its history

pub on_link_map : (o : Option Link) (p : Option ℕ) {P Q : Link → ℕ → Type 0} → OnLink o p P → ((x : Link) (l : ℕ) → o ≡ Some x → p ≡ Some l → P x l → Q x l) → OnLink o p Q
on_link_map None None h f = tt
on_link_map None (Some l) h f = h
on_link_map (Some x) None h f = h
on_link_map (Some x) (Some l) h f = f x l refl refl h

-- the same where the session's link is changed
pub on_link_mapped : (g : Link → Link) (o : Option Link) (p : Option ℕ) (P Q : Link → ℕ → Type 0) → OnLink o p P → ((x : Link) (l : ℕ) → o ≡ Some x → p ≡ Some l → P x l → Q (g x) l)
    → OnLink (option_map g o) p Q
on_link_mapped g None None P Q h f = tt
on_link_mapped g None (Some l) P Q h f = h
on_link_mapped g (Some x) None P Q h f = h
on_link_mapped g (Some x) (Some l) P Q h f = f x l refl refl h

-- where the history has a link, the session has one
pub the_link : (o : Option Link) (p : Option ℕ) (l : ℕ) (P : Link → ℕ → Type 0) → OnLink o p P → p ≡ Some l → (x : Link) × ((o ≡ Some x) × P x l)
the_link None None l P h e = absurd (cc)
the_link None (Some m) l P h e = absurd (h)
the_link (Some x) None l P h e = absurd (h)
the_link (Some x) (Some m) l P h e = (x, (refl, subst (P x) (let e' : m ≡ l = cc in e') h))

pub no_link : (o : Option Link) (p : Option ℕ) (P : Link → ℕ → Type 0) → OnLink o p P → p ≡ None → o ≡ None
no_link None p P h e = refl
no_link (Some x) None P h e = absurd (h)
no_link (Some x) (Some l) P h e = absurd (cc)
