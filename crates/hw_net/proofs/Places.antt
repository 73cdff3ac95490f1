-- What is done on the first lane of a number is done at its place.
use Rattle.std.proofs.Common.{◌≡◌, ◌<◌, ◌≤◌, ◌==◌, ◌∷◌, [], ℕ, zero, suc, Bool, true, false, not, cond, List, Option, None, Some, refl, sym, arith, length, set, get_or, position, subst, ◌+◌}
use Rattle.std.specs.List.{position_or_len}
use Rattle.hw_door.specs.Traffic.{Answer}
use Rattle.hw_net.specs.Door.{DoesAt}
use Rattle.hw_net.specs.Lane.{Lane}
use Rattle.hw_net.specs.Lanes.{DoesHere}
use Rattle.hw_net.specs.Trace.{Tells, Chooses}
use Rattle.hw_net.specs.Turn.{AtLane}
use Rattle.hw_net.proofs.Telling.{tells-none}

abbrev pub is_of : ℕ → Lane → Bool
is_of wire lane = lane.wire == wire

-- no lane has the number
pub nowhere : (wire : ℕ) (Does : Lane → Lane → List Answer → Type 0) (lanes : List Lane) → length lanes ≤ position_or_len (is_of wire) lanes → AtLane wire Does lanes lanes []
nowhere wire Does [] h = (refl, refl)
nowhere wire Does (lane ∷ lanes) h = go (lane.wire == wire) h (nowhere wire Does lanes) where
  go : (b : Bool) → suc (length lanes) ≤ cond (not b) (1 + position_or_len (is_of wire) lanes) 0
      → (length lanes ≤ position_or_len (is_of wire) lanes → AtLane wire Does lanes lanes [])
      → Chooses b ((next : Lane) × (lane ∷ lanes ≡ next ∷ lanes) × Does lane next []) ((rest : List Lane) × (lane ∷ lanes ≡ lane ∷ rest) × AtLane wire Does lanes rest [])
  go true h k = absurd (omega (arith, h))
  go false h k = (lanes, refl, k (omega (arith, h)))

-- the lane at the first place that has the number
pub at-first : (wire : ℕ) (Does : Lane → Lane → List Answer → Type 0) (lanes : List Lane) (index : ℕ) (at next : Lane) (answers : List Answer) →
    position_or_len (is_of wire) lanes ≡ index → index < length lanes → get_or lanes index at ≡ at → Does at next answers → AtLane wire Does lanes (set lanes index next) answers
at-first wire Does [] index at next answers e lt same does = absurd (omega (arith, lt))
at-first wire Does (lane ∷ lanes) zero at next answers e lt same does = go (lane.wire == wire) e where
  go : (b : Bool) → cond (not b) (1 + position_or_len (is_of wire) lanes) 0 ≡ 0
      → Chooses b ((to : Lane) × (next ∷ lanes ≡ to ∷ lanes) × Does lane to answers) ((rest : List Lane) × (next ∷ lanes ≡ lane ∷ rest) × AtLane wire Does lanes rest answers)
  go true e = (next, refl, subst (λ (l : Lane). Does l next answers) (sym same) does)
  go false e = absurd (omega (arith, e))
at-first wire Does (lane ∷ lanes) (suc index) at next answers e lt same does = go (lane.wire == wire) e (at-first wire Does lanes index at next answers) where
  go : (b : Bool) → cond (not b) (1 + position_or_len (is_of wire) lanes) 0 ≡ suc index
      → (position_or_len (is_of wire) lanes ≡ index → index < length lanes → get_or lanes index at ≡ at → Does at next answers → AtLane wire Does lanes (set lanes index next) answers)
      → Chooses b ((to : Lane) × (lane ∷ set lanes index next ≡ to ∷ lanes) × Does lane to answers)
      ((rest : List Lane) × (lane ∷ set lanes index next ≡ lane ∷ rest) × AtLane wire Does lanes rest answers)
  go true e k = absurd (omega (arith, e))
  go false e k = (set lanes index next, refl, k (omega (arith, e)) (omega (arith, lt)) same does)

-- a search that found nothing, and one that found this place
pub is-nowhere : (wire : ℕ) (lanes : List Lane) → position (is_of wire) lanes ≡ None → length lanes ≤ position_or_len (is_of wire) lanes
is-nowhere wire lanes e = grind (arith, e)

pub is-at : (wire : ℕ) (lanes : List Lane) (index : ℕ) → position (is_of wire) lanes ≡ Some index
    → (position_or_len (is_of wire) lanes ≡ index) × (index < length lanes)
is-at wire lanes index e = (grind (arith, e), grind (arith, e))

-- nothing is done where no lane is found
pub does-nothing : (trace : Option (List Answer)) (wire from from_after named named_after moment moment_after : ℕ) (Does : Lane → Lane → List Answer → Type 0) (lanes : List Lane) →
    position (is_of wire) lanes ≡ None → from_after ≡ from → named_after ≡ named → moment_after ≡ moment →
    (answers : List Answer) × Tells trace trace answers
    × DoesAt wire Does (record { lanes = lanes; from = from; named = named; moment = moment }) (record { lanes = lanes; from = from_after; named = named_after; moment = moment_after }) answers
does-nothing trace wire from from_after named named_after moment moment_after Does lanes e f n m =
    ([], tells-none trace, (nowhere wire Does lanes (is-nowhere wire lanes e), f, n, m))

-- what is done by the lane that is found
pub does-at : (a b : Option (List Answer)) (wire from from_after named named_after moment moment_after : ℕ) (Does : Lane → Lane → List Answer → Type 0) (lanes after : List Lane) (index : ℕ) →
    position (is_of wire) lanes ≡ Some index → ((answers : List Answer) × Tells a b answers × DoesHere index Does lanes after answers) → from_after ≡ from → named_after ≡ named → moment_after ≡ moment →
    (answers : List Answer) × Tells a b answers
    × DoesAt wire Does (record { lanes = lanes; from = from; named = named; moment = moment }) (record { lanes = after; from = from_after; named = named_after; moment = moment_after }) answers
does-at a b wire from from_after named named_after moment moment_after Does lanes after index e h f n m =
    let found = is-at wire lanes index e in
    let d = h.2 in
    let here = at-first wire Does lanes index d.lane d.next h.0 found.0 found.1 d.at d.does in
    (h.0, h.1, (subst (λ (l : List Lane). AtLane wire Does lanes l h.0) (sym d.order) here, f, n, m))
