-- The session of two connections is one over one dialer.
use Rattle.std.proofs.Common.{refl, sym, subst, ◌∙◌, inl, inr, ◌≡◌, ◌≤◌, ℕ, Bool, true, false, List, [], ◌∷◌, Option, Some, None, arith}
use Rattle.std.specs.Prelude.{◌==◌}
use Rattle.std.proofs.lemmas.Bool.{cases_eq, ne_eqb}
use Rattle.hw_door.specs.declared.heard.Event.{Event}
use Rattle.hw_door.specs.declared.heard.Event.TheVariants as event
use Rattle.hd_dialing.specs.Asks.{Setup}
use Rattle.hd_dialing.specs.Events.{is_due, moment, has_asked}
use Rattle.hd_dialing.specs.Plans.{Dial}
use Rattle.hd_dialing.specs.Dialers.{DialerEvent, Hears, Begins, Moves, setup_of, history, IsNewLane, MayHappen, AreDialing}
use Rattle.hd_dialing.specs.Sessions.{body, dials, on, setup, two}

-- the first two, and whoever else there may be
each : (P : ℕ → Type 0) → P 1 → P 2 → ((c : ℕ) → (c == 1) ≡ false → (c == 2) ≡ false → P c) → (c : ℕ) → P c
each P first second others c = elim (cases_eq c 1) [ inl e ↦ subst P (sym e) first | inr n ↦ elim (cases_eq c 2) [ inl e ↦ subst P (sym e) second | inr m ↦ others c (ne_eqb c 1 n) (ne_eqb c 2 m) ] ]

abbrev negotiating : List DialerEvent
negotiating = Moves 2 (dials 2) ∷ Begins 2 setup ∷ Moves 1 (dials 1) ∷ Begins 1 setup ∷ []

abbrev first_told : List DialerEvent
first_told = Hears 10 (event.Response 1 200 body) (on 3) ∷ negotiating

abbrev second_refused : List DialerEvent
second_refused = Hears 20 (event.Response 2 503 []) (on 4) ∷ first_told

abbrev first_up : List DialerEvent
first_up = Hears 30 (event.Upgraded 3) (on 8) ∷ second_refused

-- whoever else there may be hasn't begun
abbrev MayHear : ℕ → ℕ → List DialerEvent → Type 0
MayHear now c h = (s : Setup) → setup_of c h ≡ Some s → (is_due (history c h) ≡ false) × (moment (history c h) ≤ now)

not_begun : (now c : ℕ) (h : List DialerEvent) → setup_of c h ≡ None → MayHear now c h
not_begun now c h e s f = absurd (let z : ◌≡◌ {A = Option Setup} None (Some s) = sym e ∙ f in cc)

first_tells : MayHappen (Hears 10 (event.Response 1 200 body) (on 3)) negotiating
first_tells = (
  each (λ c. has_asked 3 (history c negotiating) ≡ false) refl refl (λ c e f. rw (e, f) refl),
  each (λ c. MayHear 10 c negotiating) (λ s e. (refl, omega arith)) (λ s e. (refl, omega arith)) (λ c e f. not_begun 10 c negotiating (rw (e, f) refl)),
)

second_tells : MayHappen (Hears 20 (event.Response 2 503 []) (on 4)) first_told
second_tells = (
  each (λ c. has_asked 4 (history c first_told) ≡ false) refl refl (λ c e f. rw (e, f) refl),
  each (λ c. MayHear 20 c first_told) (λ s e. (refl, omega arith)) (λ s e. (refl, omega arith)) (λ c e f. not_begun 20 c first_told (rw (e, f) refl)),
)

first_rises : MayHappen (Hears 30 (event.Upgraded 3) (on 8)) second_refused
first_rises = (
  each (λ c. has_asked 8 (history c second_refused) ≡ false) refl refl (λ c e f. rw (e, f) refl),
  each (λ c. MayHear 30 c second_refused) (λ s e. (refl, omega arith)) (λ s e. (refl, omega arith)) (λ c e f. not_begun 30 c second_refused (rw (e, f) refl)),
)

first_falls : MayHappen (Hears 40 (event.Lost 3) (on 9)) first_up
first_falls = (
  each (λ c. has_asked 9 (history c first_up) ≡ false) refl refl (λ c e f. rw (e, f) refl),
  each (λ c. MayHear 40 c first_up) (λ s e. (refl, omega arith)) (λ s e. (refl, omega arith)) (λ c e f. not_begun 40 c first_up (rw (e, f) refl)),
)

begin_two : AreDialing negotiating
begin_two = (
  ((setup, refl), (each (λ c. has_asked 2 (history c (Begins 2 setup ∷ Moves 1 (dials 1) ∷ Begins 1 setup ∷ [])) ≡ false) refl refl (λ c e f. rw (e, f) refl), refl)),
  (
    refl,
    (
      ((setup, refl), (each (λ c. has_asked 1 (history c (Begins 1 setup ∷ [])) ≡ false) refl refl (λ c e f. rw e refl), refl)),
      (refl, tt),
    ),
  ),
)

pub two_are_dialed : AreDialing two
two_are_dialed = (first_falls, (first_rises, (second_tells, (first_tells, begin_two))))
