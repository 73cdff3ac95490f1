-- Where no call comes with uploads, each number that was drawn is a call's that has an id, and only calls are live.
use Rattle.std.proofs.Common.{inl, inr, ⊎_elim, ◌≡◌, ℕ, suc, ◌<◌, ◌≤◌, Bool, true, false, List, [], ◌∷◌, length, Option, Some, None, refl, sym, ap, arith}
use Rattle.std.specs.Prelude.{◌⊎◌, ◌==◌, All, is_some, if◌then◌else◌}
use Rattle.std.proofs.lemmas.Bool.{eqb-true, eqb-false}
use Rattle.std.proofs.lemmas.List.Elements.{All-head, All-tail}
use Rattle.hd_calls.specs.Hubs.{Way, Notify, Call, Stream, Invoked, Hub, id_of}
use Rattle.hd_calls.specs.Peers.{PeerEvent, Calls, Settings, drawn, call_of, has_id, stream_count, live_upload}
use Rattle.hd_calls.specs.Rules.{count_below, own_live, live_uploads, MadeAs, MayCall, Follows}
use Rattle.sr_soak.specs.Counts.{calls_in, live_in}
use Rattle.sr_soak.proofs.Counting.{count_but_first, sum_none}

-- the move is no call of a user that comes with uploads
abbrev pub IsBare : PeerEvent → Type 0
IsBare (Calls None n c) = c.streams ≡ []
IsBare _ = Unit {0}

abbrev pub AreBare : List PeerEvent → Type 0
AreBare h = All IsBare h

-- a test, with what it says
both : {A : Type 0} (P : A → Type 0) (b : Bool) (x y : A) → (b ≡ true → P x) → (b ≡ false → P y) → P (if b then x else y)
both P true x y f g = f refl
both P false x y f g = g refl

module _ (t : Settings) where
  -- what a job asks for comes with none
  call_bare : (a : Option ℕ) (n : ℕ) (c : Invoked) (h : List PeerEvent) → IsBare (Calls a n c) → MayCall t a n c h → c.streams ≡ []
  call_bare None n c h bare may = bare
  call_bare (Some j) n c h bare may = ap (λ d. d.streams) may.asked.is

  -- a Notify has the number 0, and each other call the next one
  numbered_as : (last n : ℕ) (way : Way) (c : Invoked) → c.streams ≡ [] → MadeAs t last n way c
      → ((n ≡ 0) × (is_some (id_of way) ≡ false)) ⊎ ((n ≡ suc last) × (is_some (id_of way) ≡ true))
  numbered_as last n Notify c e made =
      ⊎_elim (λ a. inl (a.0, refl)) (λ b. absurd (let none : length c.streams ≡ 0 = ap length e in omega (arith, b.0, none))) made
  numbered_as last n (Call i) c e made = inr (made.1.0, refl)
  numbered_as last n (Stream i) c e made = inr (made.1.0, refl)

  module _ {Job : Type 0} (hub : Hub Job) where
    zero_has_none : (h : List PeerEvent) → Follows hub t h → AreBare h → has_id (call_of 0 h) ≡ false
    zero_has_none [] follows bare = refl
    zero_has_none (Calls a k c ∷ h) follows bare =
        let numbered = numbered_as (drawn h) k c.way c (call_bare a k c h (All-head IsBare (Calls a k c) h bare) follows.1) follows.1.made in
        both (λ o. has_id o ≡ false) (0 == k) (Some c) (call_of 0 h)
        (λ e. ⊎_elim (λ x. x.1) (λ x. absurd (let same = eqb-true 0 k e in omega (arith, x.0, same))) numbered)
        (λ e. zero_has_none h follows.0 (All-tail IsBare (Calls a k c) h bare))
    zero_has_none (d ∷ h) follows bare = zero_has_none h follows.0 (All-tail IsBare d h bare)

    others_have_one : (h : List PeerEvent) → Follows hub t h → AreBare h → (n : ℕ) → 0 < n → n ≤ drawn h → has_id (call_of n h) ≡ true
    others_have_one [] follows bare n some few = absurd (omega (arith, some, few))
    others_have_one (Calls a k c ∷ h) follows bare n some few =
        let none = call_bare a k c h (All-head IsBare (Calls a k c) h bare) follows.1 in
        let many : length c.streams ≡ 0 = ap length none in
        let numbered = numbered_as (drawn h) k c.way c none follows.1.made in
        both (λ o. has_id o ≡ true) (n == k) (Some c) (call_of n h)
        (λ e. ⊎_elim (λ x. absurd (let same = eqb-true n k e in omega (arith, x.0, same, some))) (λ x. x.1) numbered)
        (λ e. others_have_one h follows.0 (All-tail IsBare (Calls a k c) h bare) n some
        (⊎_elim (λ x. omega (arith, x.0, few, many, some)) (λ x. below n k (drawn h) (eqb-false n k e) x.0 (omega (arith, few, many, x.0))) numbered))
      where
        below : (n k last : ℕ) → (n ≡ k → ⊥) → k ≡ suc last → n ≤ suc last → n ≤ last
        below n k last apart next few = omega (arith, apart, next, few)
    others_have_one (d ∷ h) follows bare n some few = others_have_one h follows.0 (All-tail IsBare d h bare) n some few

    pub drawn_are_calls : (h : List PeerEvent) → Follows hub t h → AreBare h → drawn h ≡ calls_in h
    drawn_are_calls h follows bare =
        sym (count_but_first (drawn h) (λ n. has_id (call_of n h)) (zero_has_none h follows bare) (others_have_one h follows bare))

    without : (n : ℕ) (h : List PeerEvent) → Follows hub t h → AreBare h → stream_count (call_of n h) ≡ 0
    without n [] follows bare = refl
    without n (Calls a k c ∷ h) follows bare = both (λ o. stream_count o ≡ 0) (n == k) (Some c) (call_of n h)
        (λ e. ap length (call_bare a k c h (All-head IsBare (Calls a k c) h bare) follows.1))
        (λ e. without n h follows.0 (All-tail IsBare (Calls a k c) h bare))
    without n (d ∷ h) follows bare = without n h follows.0 (All-tail IsBare d h bare)

    pub live_are_calls : (h : List PeerEvent) → Follows hub t h → AreBare h → own_live h ≡ live_in h
    live_are_calls h follows bare =
        let none = sum_none (suc (drawn h)) (λ n. live_uploads n h)
        (λ n. ap (λ x. count_below x (λ w. live_upload n w h)) (without n h follows bare)) in
        omega (arith, none)
