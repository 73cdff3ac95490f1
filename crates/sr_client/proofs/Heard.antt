-- What news fits after an event, by where the connection was.
use Rattle.std.proofs.Common.{◌≡◌, ℕ, Bool, true, false, List, ◌∷◌, is_some, refl, sym, ap, subst, ◌∙◌, true≢false}
use Rattle.std.specs.Prelude.{◌==◌, if◌then◌else◌}
use Rattle.std.proofs.lemmas.Bool.{eq-eqb, eqb-true}
use Rattle.hw_door.specs.declared.heard.Event.{Event}
use Rattle.hw_door.specs.declared.heard.Event.TheVariants as event
use Rattle.hd_dialing.specs.Events.{Hears, Phase, Away, Negotiates, Upgrades, Stands, Over, is_up, left, phase, risen}
use Rattle.hd_dialing.specs.Plans.{Nothing, Begins, Brings, Drains, Ends, news}
use Rattle.hd_client.specs.Setups.{Setup}
use Rattle.hd_client.specs.Events.{ClientEvent, Dialed, dialing, is_full, moves, phase_of, settings_of}
use Rattle.sr_client.specs.declared.client.Client.{Client}
use Rattle.sr_client.specs.Clients.{IsFullBy, is_linked}
use Rattle.sr_client.specs.Turning.{FitsNews}

-- either way
both : {A : Type 0} (P : A → Type 0) (b : Bool) (x y : A) → P x → P y → P (if b then x else y)
both P true x y p q = p
both P false x y p q = q

-- and the other way around
other : (l lane : ℕ) → (lane == l) ≡ false → (l == lane) ≡ false
other l lane e = by (l == lane) refl
  where
    by : (b : Bool) → (l == lane) ≡ b → b ≡ false
    by true f = absurd (true≢false (sym (eq-eqb lane l (sym (eqb-true l lane f))) ∙ e))
    by false f = refl

module _ (s : Setup) (c : Client) (h k : List ClientEvent) (now : ℕ) (e : Event) where
  -- what is known after an event, of a connection that was so far
  pub record Known (q : Phase) : Type 0 where
    pub was : phase_of h ≡ q
    pub is : phase_of k ≡ phase (Hears now e ∷ dialing h)
    pub full : IsFullBy q c.full h
    pub fills : (l : ℕ) → is_full l k ≡ is_full l (Dialed (Hears now e) ∷ h)
    pub linked : is_linked (settings_of s k) (moves k) ≡ is_up q
    pub told : (l : ℕ) → q ≡ Upgrades l → is_some (settings_of s k) ≡ true

  -- its lane is as full as before
  abbrev SameRoom : Type 0
  SameRoom = (l : ℕ) → is_full l (Dialed (Hears now e) ∷ h) ≡ is_full l h

  full_still : (q : Phase) → Known q → SameRoom → phase_of k ≡ q → IsFullBy (phase_of k) c.full k
  full_still q known same at = subst (λ x. IsFullBy x c.full k) (sym at) (by q known.full)
    where
      by : (q : Phase) → IsFullBy q c.full h → IsFullBy q c.full k
      by (Stands l) full = full ∙ sym (known.fills l ∙ same l)
      by (Upgrades l) full = (known.fills l ∙ same l) ∙ full
      by Away full = tt
      by (Negotiates l) full = tt
      by Over full = tt

  -- nothing is news, and it is as far as it was
  nothing_still : (q : Phase) → Known q → SameRoom → phase_of k ≡ q → FitsNews s c Nothing k
  nothing_still q known same at = (full_still q known same at, λ goes_on. known.linked ∙ sym (ap is_up at))

  -- or its lane, which wasn't up, was lost
  nothing_away : (q : Phase) → Known q → is_up q ≡ false → phase_of k ≡ Away → FitsNews s c Nothing k
  nothing_away q known down at =
      (subst (λ x. IsFullBy x c.full k) (sym at) tt, λ goes_on. known.linked ∙ (down ∙ sym (ap is_up at)))

-- by the event, after which nothing else was done
pub fits_same : (s : Setup) (c : Client) (h k : List ClientEvent) (now : ℕ) (e : Event) (q : Phase) → Known s c h k now e q → FitsNews s c (news e q) k
fits_same s c h k now (event.Request lane r) q x = nothing_still s c h k now (event.Request lane r) q x (λ l. refl) (x.is ∙ x.was)
fits_same s c h k now (event.Refused lane r) q x = nothing_still s c h k now (event.Refused lane r) q x (λ l. refl) (x.is ∙ x.was)
fits_same s c h k now (event.Response lane status body) q x = nothing_still s c h k now (event.Response lane status body) q x (λ l. refl) (x.is ∙ x.was)
fits_same s c h k now event.Quiet q x = nothing_still s c h k now event.Quiet q x (λ l. refl) (x.is ∙ x.was)
-- the socket is up
fits_same s c h k now (event.Upgraded lane) (Upgrades l) x = by (lane == l) refl
  where
    by : (b : Bool) → (lane == l) ≡ b → FitsNews s c (if b then Begins lane else Nothing) k
    by true e =
        let same : lane ≡ l = eqb-true lane l e in (
          x.is ∙ (ap (λ p. risen lane p) x.was ∙ ap (λ b. if b then Stands lane else Upgrades l) e),
          x.fills lane ∙ (ap (λ n. is_full n h) same ∙ x.full),
          x.linked,
          x.told l refl,
        )
    by false e =
        nothing_still s c h k now (event.Upgraded lane) (Upgrades l) x (λ l. refl)
        (x.is ∙ (ap (λ p. risen lane p) x.was ∙ ap (λ b. if b then Stands lane else Upgrades l) e))
fits_same s c h k now (event.Upgraded lane) (Stands l) x =
    nothing_still s c h k now (event.Upgraded lane) (Stands l) x (λ l. refl) (x.is ∙ ap (λ p. risen lane p) x.was)
fits_same s c h k now (event.Upgraded lane) (Negotiates l) x =
    nothing_still s c h k now (event.Upgraded lane) (Negotiates l) x (λ l. refl) (x.is ∙ ap (λ p. risen lane p) x.was)
fits_same s c h k now (event.Upgraded lane) Away x =
    nothing_still s c h k now (event.Upgraded lane) Away x (λ l. refl) (x.is ∙ ap (λ p. risen lane p) x.was)
fits_same s c h k now (event.Upgraded lane) Over x =
    nothing_still s c h k now (event.Upgraded lane) Over x (λ l. refl) (x.is ∙ ap (λ p. risen lane p) x.was)
-- bytes come
fits_same s c h k now (event.Bytes lane bytes) (Stands l) x = by (lane == l)
  where
    by : (b : Bool) → FitsNews s c (if b then Brings bytes else Nothing) k
    by true =
        (full_still s c h k now (event.Bytes lane bytes) (Stands l) x (λ l. refl) (x.is ∙ x.was), x.linked, ap is_up (x.is ∙ x.was))
    by false = nothing_still s c h k now (event.Bytes lane bytes) (Stands l) x (λ l. refl) (x.is ∙ x.was)
fits_same s c h k now (event.Bytes lane bytes) (Upgrades l) x = nothing_still s c h k now (event.Bytes lane bytes) (Upgrades l) x (λ l. refl) (x.is ∙ x.was)
fits_same s c h k now (event.Bytes lane bytes) (Negotiates l) x = nothing_still s c h k now (event.Bytes lane bytes) (Negotiates l) x (λ l. refl) (x.is ∙ x.was)
fits_same s c h k now (event.Bytes lane bytes) Away x = nothing_still s c h k now (event.Bytes lane bytes) Away x (λ l. refl) (x.is ∙ x.was)
fits_same s c h k now (event.Bytes lane bytes) Over x = nothing_still s c h k now (event.Bytes lane bytes) Over x (λ l. refl) (x.is ∙ x.was)
-- the lane is drained
fits_same s c h k now (event.Drained lane) (Stands l) x = by (lane == l) refl
  where
    by : (b : Bool) → (lane == l) ≡ b → FitsNews s c (if b then Drains else Nothing) k
    by true e =
        (l, x.is ∙ x.was, x.fills l ∙ ap (λ b. if b then false else is_full l h) (eq-eqb l lane (sym (eqb-true lane l e))), x.linked)
    by false e = (
      subst (λ p. IsFullBy p c.full k) (sym (x.is ∙ x.was))
          (x.full ∙ sym (x.fills l ∙ ap (λ b. if b then false else is_full l h) (other l lane e))),
      λ goes_on. x.linked ∙ sym (ap is_up (x.is ∙ x.was)),
    )
fits_same s c h k now (event.Drained lane) (Upgrades l) x = (
  subst (λ p. IsFullBy p c.full k) (sym (x.is ∙ x.was)) (x.fills l ∙ both (λ b. b ≡ false) (l == lane) false (is_full l h) refl x.full),
  λ goes_on. x.linked ∙ sym (ap is_up (x.is ∙ x.was)),
)
fits_same s c h k now (event.Drained lane) (Negotiates l) x =
    (subst (λ p. IsFullBy p c.full k) (sym (x.is ∙ x.was)) tt, λ goes_on. x.linked ∙ sym (ap is_up (x.is ∙ x.was)))
fits_same s c h k now (event.Drained lane) Away x =
    (subst (λ p. IsFullBy p c.full k) (sym (x.is ∙ x.was)) tt, λ goes_on. x.linked ∙ sym (ap is_up (x.is ∙ x.was)))
fits_same s c h k now (event.Drained lane) Over x =
    (subst (λ p. IsFullBy p c.full k) (sym (x.is ∙ x.was)) tt, λ goes_on. x.linked ∙ sym (ap is_up (x.is ∙ x.was)))
-- a lane is lost
fits_same s c h k now (event.Lost lane) (Stands l) x = by (lane == l) refl
  where
    by : (b : Bool) → (lane == l) ≡ b → FitsNews s c (if b then Ends else Nothing) k
    by true e = (x.is ∙ (ap (λ p. left lane p) x.was ∙ ap (λ b. if b then Away else Stands l) e), x.linked)
    by false e =
        nothing_still s c h k now (event.Lost lane) (Stands l) x (λ l. refl)
        (x.is ∙ (ap (λ p. left lane p) x.was ∙ ap (λ b. if b then Away else Stands l) e))
fits_same s c h k now (event.Lost lane) (Upgrades l) x = by (lane == l) refl
  where
    by : (b : Bool) → (lane == l) ≡ b → FitsNews s c Nothing k
    by true e = nothing_away s c h k now (event.Lost lane) (Upgrades l) x refl (x.is ∙ (ap (λ p. left lane p) x.was ∙ ap (λ b. if b then Away else Upgrades l) e))
    by false e =
        nothing_still s c h k now (event.Lost lane) (Upgrades l) x (λ l. refl)
        (x.is ∙ (ap (λ p. left lane p) x.was ∙ ap (λ b. if b then Away else Upgrades l) e))
fits_same s c h k now (event.Lost lane) (Negotiates l) x = by (lane == l) refl
  where
    by : (b : Bool) → (lane == l) ≡ b → FitsNews s c Nothing k
    by true e = nothing_away s c h k now (event.Lost lane) (Negotiates l) x refl (x.is ∙ (ap (λ p. left lane p) x.was ∙ ap (λ b. if b then Away else Negotiates l) e))
    by false e =
        nothing_still s c h k now (event.Lost lane) (Negotiates l) x (λ l. refl)
        (x.is ∙ (ap (λ p. left lane p) x.was ∙ ap (λ b. if b then Away else Negotiates l) e))
fits_same s c h k now (event.Lost lane) Away x = nothing_still s c h k now (event.Lost lane) Away x (λ l. refl) (x.is ∙ ap (λ p. left lane p) x.was)
fits_same s c h k now (event.Lost lane) Over x = nothing_still s c h k now (event.Lost lane) Over x (λ l. refl) (x.is ∙ ap (λ p. left lane p) x.was)
