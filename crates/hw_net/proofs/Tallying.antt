-- The tally of lanes of which one changes, one comes, or those that are over go.
use Rattle.std.proofs.Common.{◌≡◌, ◌<◌, ◌≤◌, ◌+◌, ◌^◌, ◌++◌, ◌∷◌, [], ℕ, zero, suc, Bool, true, false, not, cond, ◌&&◌, ◌||◌, List, refl, sym, ap, ◌∙◌, subst, arith, length, set, get_or, ltb, Contains}
use Rattle.std.specs.Int.{from_bool}
use Rattle.std.specs.List.{All, list_any}
use Rattle.std.proofs.lemmas.List.Elements.{All-nil, All-cons, All-contains}
use Rattle.hw_net.specs.declared.protocol.Stage.{Stage}
use Rattle.hw_net.specs.declared.protocol.Stage.TheVariants.{Live, Lost, Closing, Over}
use Rattle.hw_net.specs.declared.tally.Tally.{Tally}
use Rattle.hw_net.specs.Door.{kept}
use Rattle.hw_net.specs.Flushing.{HasWriter}
use Rattle.hw_net.specs.Lane.{Lane, waits, is_live, is_over, is_awake, is_awake_by, has_drained}
use Rattle.hw_net.specs.Tally.{Has, HasRoom, has_unwritten_by, is_closing, is_restless, is_writer, only_waits_by, with_lane, tally_of}
use Rattle.hw_net.specs.Writers.{AreWriters}

at-most-one : (b : Bool) → from_bool b ≤ 1
at-most-one true = omega arith
at-most-one false = omega arith

-- a lane that stands somewhere is counted
pub at-counted : (lanes : List Lane) (index : ℕ) (lane : Lane) → index < length lanes → get_or lanes index lane ≡ lane → Has lane (tally_of lanes)
at-counted [] index lane lt same = absurd (omega (arith, lt))
at-counted (first ∷ lanes) zero lane lt same =
    subst (λ (l : Lane). Has l (with_lane first (tally_of lanes))) same
    (record { over = omega arith; awake = omega arith; writers = omega arith; closing = omega arith; restless = omega arith })
at-counted (first ∷ lanes) (suc index) lane lt same =
    let h = at-counted lanes index lane (omega (arith, lt)) same in
    record { over = omega (arith, h.over); awake = omega (arith, h.awake); writers = omega (arith, h.writers); closing = omega (arith, h.closing); restless = omega (arith, h.restless) }

-- no kind has more than there are lanes
pub record IsWithin (tally : Tally) (count : ℕ) : Type 0 where
  pub over : tally.over ≤ count
  pub awake : tally.awake ≤ count
  pub writers : tally.writers ≤ count
  pub closing : tally.closing ≤ count
  pub restless : tally.restless ≤ count

pub all-within : (lanes : List Lane) → IsWithin (tally_of lanes) (length lanes)
all-within [] = record { over = omega arith; awake = omega arith; writers = omega arith; closing = omega arith; restless = omega arith }
all-within (lane ∷ lanes) =
    let h = all-within lanes in
    record {
      over = omega (arith, h.over, at-most-one (is_over lane.stage));
      awake = omega (arith, h.awake, at-most-one (is_awake lane));
      writers = omega (arith, h.writers, at-most-one (is_writer lane));
      closing = omega (arith, h.closing, at-most-one (is_closing lane.stage));
      restless = omega (arith, h.restless, at-most-one (is_restless lane));
    }

-- there is room for one lane more, as all lanes stand in memory
pub room-for-one : (lanes : List Lane) (tally : Tally) → tally ≡ tally_of lanes → length lanes + 1 < 2 ^ 64 → HasRoom tally
room-for-one lanes tally is lt =
    let h = all-within lanes in
    subst (λ (t : Tally). HasRoom t) (sym is)
    (record { over = omega (arith, h.over, lt); awake = omega (arith, h.awake, lt); writers = omega (arith, h.writers, lt); closing = omega (arith, h.closing, lt); restless = omega (arith, h.restless, lt) })

-- so there is after a lane was taken out
pub room-again : (lanes : List Lane) (lane : Lane) (tally rest : Tally) → tally ≡ tally_of lanes → tally ≡ with_lane lane rest → length lanes + 1 < 2 ^ 64 → HasRoom rest
room-again lanes lane tally rest is out lt =
    let h = all-within lanes in
    let same : tally_of lanes ≡ with_lane lane rest = sym is ∙ out in
    record {
      over = omega (arith, h.over, lt, ap (λ (t : Tally). t.over) same);
      awake = omega (arith, h.awake, lt, ap (λ (t : Tally). t.awake) same);
      writers = omega (arith, h.writers, lt, ap (λ (t : Tally). t.writers) same);
      closing = omega (arith, h.closing, lt, ap (λ (t : Tally). t.closing) same);
      restless = omega (arith, h.restless, lt, ap (λ (t : Tally). t.restless) same);
    }

abbrev make : ℕ → ℕ → ℕ → ℕ → ℕ → Tally
make over awake writers closing restless = record { over = over; awake = awake; writers = writers; closing = closing; restless = restless }

-- two tallies that have as many of each kind are one
tally-same : (a b : Tally) → a.over ≡ b.over → a.awake ≡ b.awake → a.writers ≡ b.writers → a.closing ≡ b.closing → a.restless ≡ b.restless → a ≡ b
tally-same a b o w l c r =
    ap (λ n. make n a.awake a.writers a.closing a.restless) o ∙ ap (λ n. make b.over n a.writers a.closing a.restless) w ∙ ap (λ n. make b.over b.awake n a.closing a.restless) l
    ∙ ap (λ n. make b.over b.awake b.writers n a.restless) c ∙ ap (λ n. make b.over b.awake b.writers b.closing n) r

-- one lane is changed at its place
swapped : (lanes : List Lane) (index : ℕ) (lane next : Lane) → index < length lanes → get_or lanes index lane ≡ lane → with_lane lane (tally_of (set lanes index next)) ≡ with_lane next (tally_of lanes)
swapped [] index lane next lt same = absurd (omega (arith, lt))
swapped (first ∷ lanes) zero lane next lt same =
    subst (λ (l : Lane). with_lane l (with_lane next (tally_of lanes)) ≡ with_lane next (with_lane first (tally_of lanes))) same
    (tally-same _ _ (omega arith) (omega arith) (omega arith) (omega arith) (omega arith))
swapped (first ∷ lanes) (suc index) lane next lt same =
    let h = swapped lanes index lane next (omega (arith, lt)) same in
    tally-same _ _ (omega (arith, ap (λ (t : Tally). t.over) h)) (omega (arith, ap (λ (t : Tally). t.awake) h)) (omega (arith, ap (λ (t : Tally). t.writers) h)) (omega (arith, ap (λ (t : Tally). t.closing) h)) (omega (arith, ap (λ (t : Tally). t.restless) h))

-- a lane is taken out, changed and put in again
pub put-again : (lanes : List Lane) (index : ℕ) (lane next : Lane) (tally rest after : Tally) → index < length lanes → get_or lanes index lane ≡ lane → tally ≡ tally_of lanes → tally ≡ with_lane lane rest →
    after ≡ with_lane next rest → after ≡ tally_of (set lanes index next)
put-again lanes index lane next tally rest after lt same is out put =
    let h = swapped lanes index lane next lt same in
    let e : with_lane lane rest ≡ tally_of lanes = sym out ∙ is in
    put ∙ tally-same (with_lane next rest) (tally_of (set lanes index next))
    (omega (arith, ap (λ (t : Tally). t.over) h, ap (λ (t : Tally). t.over) e))
    (omega (arith, ap (λ (t : Tally). t.awake) h, ap (λ (t : Tally). t.awake) e))
    (omega (arith, ap (λ (t : Tally). t.writers) h, ap (λ (t : Tally). t.writers) e))
    (omega (arith, ap (λ (t : Tally). t.closing) h, ap (λ (t : Tally). t.closing) e))
    (omega (arith, ap (λ (t : Tally). t.restless) h, ap (λ (t : Tally). t.restless) e))

-- a lane comes after the others
pub one-more : (lanes : List Lane) (lane : Lane) → tally_of (lanes ++ lane ∷ []) ≡ with_lane lane (tally_of lanes)
one-more [] lane = refl
one-more (first ∷ lanes) lane =
    let h = one-more lanes lane in
    tally-same _ _ (omega (arith, ap (λ (t : Tally). t.over) h)) (omega (arith, ap (λ (t : Tally). t.awake) h)) (omega (arith, ap (λ (t : Tally). t.writers) h)) (omega (arith, ap (λ (t : Tally). t.closing) h)) (omega (arith, ap (λ (t : Tally). t.restless) h))

-- ---- lanes that are over

unover : (b : Bool) → b ≡ true → from_bool b ≤ 0 → ⊥
unover true e h = omega (arith, h)
unover false e h = cc e

none-over : (lanes : List Lane) → (tally_of lanes).over ≤ 0 → kept lanes ≡ lanes
none-over [] h = refl
none-over (lane ∷ lanes) h = go (is_over lane.stage) (omega (arith, h)) (none-over lanes (omega (arith, h))) where
  go : (b : Bool) → from_bool b ≤ 0 → kept lanes ≡ lanes → cond (not b) (lane ∷ kept lanes) (kept lanes) ≡ lane ∷ lanes
  go true h k = absurd (unover true refl h)
  go false h k = ap (λ (l : List Lane). lane ∷ l) k

-- if none is over, none goes
pub none-goes : (lanes : List Lane) (tally : Tally) → tally ≡ tally_of lanes → ltb 0 tally.over ≡ false → kept lanes ≡ lanes
none-goes lanes tally is e = none-over lanes (subst (λ (t : Tally). t.over ≤ 0) is (grind (arith, e)))

-- a lane that is over is of no other kind
over-only : (lane : Lane) → is_over lane.stage ≡ true → (is_awake lane ≡ false) × (is_writer lane ≡ false) × (is_closing lane.stage ≡ false) × (is_restless lane ≡ false)
over-only lane e = go lane.stage e where
  awake : Stage → Bool
  awake s = is_awake_by s lane.protocol || (is_live s && has_drained lane.full (length (waits lane)))

  writes : Stage → Bool
  writes s = has_unwritten_by s (length (waits lane))

  go : (s : Stage) → is_over s ≡ true → (awake s ≡ false) × ((is_live s && ltb 0 (length (waits lane))) ≡ false) × (is_closing s ≡ false) × ((awake s || (writes s || not (only_waits_by s lane.protocol))) ≡ false)
  go Live e = cc e
  go Lost e = cc e
  go Closing e = cc e
  go Over e = (refl, refl, refl, refl)

-- those that are over go
pub over-go : (lanes : List Lane) → record (tally_of lanes) { over = 0 } ≡ tally_of (kept lanes)
over-go [] = refl
over-go (lane ∷ lanes) = go (is_over lane.stage) refl (over-go lanes) where
  go : (b : Bool) → is_over lane.stage ≡ b → record (tally_of lanes) { over = 0 } ≡ tally_of (kept lanes)
      → record (tally_of (lane ∷ lanes)) { over = 0 } ≡ tally_of (cond (not b) (lane ∷ kept lanes) (kept lanes))
  go true e k =
      let only = over-only lane e in
      tally-same _ _ (ap (λ (t : Tally). t.over) k)
      (omega (arith, ap (λ (t : Tally). t.awake) k, ap from_bool only.0))
      (omega (arith, ap (λ (t : Tally). t.writers) k, ap from_bool only.1))
      (omega (arith, ap (λ (t : Tally). t.closing) k, ap from_bool only.2))
      (omega (arith, ap (λ (t : Tally). t.restless) k, ap from_bool only.3))
  go false e k =
      tally-same _ _ (omega (arith, ap (λ (t : Tally). t.over) k, ap from_bool e))
      (omega (arith, ap (λ (t : Tally). t.awake) k))
      (omega (arith, ap (λ (t : Tally). t.writers) k))
      (omega (arith, ap (λ (t : Tally). t.closing) k))
      (omega (arith, ap (λ (t : Tally). t.restless) k))

-- ---- lanes of which something may be heard at once

-- one is awake exactly if one is counted
pub some-awake : (lanes : List Lane) → ltb 0 (tally_of lanes).awake ≡ list_any is_awake lanes
some-awake [] = refl
some-awake (lane ∷ lanes) = go (is_awake lane) (some-awake lanes) where
  go : (b : Bool) → ltb 0 (tally_of lanes).awake ≡ list_any is_awake lanes → ltb 0 ((tally_of lanes).awake + from_bool b) ≡ (b || list_any is_awake lanes)
  go true k = grind arith
  go false k = grind (arith, k)

-- ---- lanes that rest

uncounted : (b : Bool) → from_bool b ≤ 0 → b ≡ false
uncounted true h = absurd (omega (arith, h))
uncounted false h = refl

at-peace : (lanes : List Lane) → (tally_of lanes).restless ≤ 0 → All (λ (lane : Lane). is_restless lane ≡ false) lanes
at-peace [] h = All-nil (λ (lane : Lane). is_restless lane ≡ false)
at-peace (lane ∷ lanes) h =
    All-cons (λ (l : Lane). is_restless l ≡ false) lane lanes (uncounted (is_restless lane) (omega (arith, h))) (at-peace lanes (omega (arith, h)))

-- if none is counted, none is restless
pub none-restless : (lanes : List Lane) (tally : Tally) → tally ≡ tally_of lanes → ltb 0 tally.restless ≡ false → All (λ (lane : Lane). is_restless lane ≡ false) lanes
none-restless lanes tally is e = at-peace lanes (subst (λ (t : Tally). t.restless ≤ 0) is (grind (arith, e)))

-- ---- lanes that have something to write, and lanes that close

-- if none is counted, none has something to write
no-writer : (lanes : List Lane) → (tally_of lanes).writers ≤ 0 → All (λ (lane : Lane). is_writer lane ≡ false) lanes
no-writer [] h = All-nil (λ (lane : Lane). is_writer lane ≡ false)
no-writer (lane ∷ lanes) h =
    All-cons (λ (l : Lane). is_writer l ≡ false) lane lanes (uncounted (is_writer lane) (omega (arith, h))) (no-writer lanes (omega (arith, h)))

pub no-writers : (lanes : List Lane) (tally : Tally) → tally ≡ tally_of lanes → ltb 0 tally.writers ≡ false → AreWriters [] lanes
no-writers lanes tally is e = λ lane here writes.
    let none = no-writer lanes (subst (λ (t : Tally). t.writers ≤ 0) is (grind (arith, e))) in
    absurd (cc (sym writes ∙ All-contains (λ (l : Lane). is_writer l ≡ false) lanes lane none here))

-- if one is counted, one has
some-writer : (lanes : List Lane) → 0 < (tally_of lanes).writers → HasWriter lanes
some-writer [] h = absurd (omega (arith, h))
some-writer (lane ∷ lanes) h = go (is_writer lane) refl h (some-writer lanes) where
  go : (b : Bool) → is_writer lane ≡ b → 0 < (tally_of lanes).writers + from_bool b → (0 < (tally_of lanes).writers → HasWriter lanes) → HasWriter (lane ∷ lanes)
  go true e h more = (lane, (0, omega arith, refl), e)
  go false e h more =
      let found = more (omega (arith, h)) in
      let within : found.1.0 < length lanes = found.1.1 in
      (found.0, (suc found.1.0, omega (arith, within), found.1.2), found.2)

pub some-writers : (lanes : List Lane) (tally : Tally) → tally ≡ tally_of lanes → ltb 0 tally.writers ≡ true → HasWriter lanes
some-writers lanes tally is e = some-writer lanes (subst (λ (t : Tally). 0 < t.writers) is (grind (arith, e)))

no-closing : (lanes : List Lane) → (tally_of lanes).closing ≤ 0 → All (λ (lane : Lane). is_closing lane.stage ≡ false) lanes
no-closing [] h = All-nil (λ (lane : Lane). is_closing lane.stage ≡ false)
no-closing (lane ∷ lanes) h =
    All-cons (λ (l : Lane). is_closing l.stage ≡ false) lane lanes (uncounted (is_closing lane.stage) (omega (arith, h))) (no-closing lanes (omega (arith, h)))

-- if none that closes is counted, none does
pub none-closes : (lanes : List Lane) (tally : Tally) → tally ≡ tally_of lanes → ltb 0 tally.closing ≡ false → (lane : Lane) → Contains lanes lane → is_closing lane.stage ≡ false
none-closes lanes tally is e lane here =
    All-contains (λ (l : Lane). is_closing l.stage ≡ false) lanes lane (no-closing lanes (subst (λ (t : Tally). t.closing ≤ 0) is (grind (arith, e)))) here
