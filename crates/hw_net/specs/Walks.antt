-- Turns of the lanes of some places, one after the other.
use Rattle.std.specs.Prelude.{◌≡◌, ◌≤◌, ◌-◌, ℕ, List, [], ◌∷◌, ◌++◌, Option, None, Some, take, drop, Contains}
use Rattle.hw_door.specs.declared.heard.Event.{Event}
use Rattle.hw_door.specs.Traffic.{Answer, none_ready}
use Rattle.hw_net.specs.declared.turns.Course.{Course}
use Rattle.hw_net.specs.declared.turns.Course.TheVariants.{Heard, Quiet, Rests}
use Rattle.hw_net.specs.Door.{RestsAt}
use Rattle.hw_net.specs.Lane.{Lane}
use Rattle.hw_net.specs.Trace.{Tells}
use Rattle.hw_net.specs.Turn.{TurnAll}

-- the lanes of these places, from the first on and before the other
abbrev pub between : ℕ → ℕ → List Lane → List Lane
between begin end lanes = take (end - begin) (drop begin lanes)

-- in a call in which this was heard the lanes of these places take their turns, and the others stay as they are
pub record Walks (now : ℕ) (trace : Option Event) (begin end : ℕ) (before after : List Lane) (answers : List Answer) (heard : Option Event) : Type 0 where
  pub front : take begin after ≡ take begin before
  pub back : drop end after ≡ drop end before
  pub turns : TurnAll now trace (between begin end before) (between begin end after) answers heard

-- Those of the lanes of these places that are heard no more write what waits at this moment, and the others stay as they are. So it is in any call in
-- which something was heard.
abbrev pub Speak : ℕ → ℕ → ℕ → List Lane → List Lane → List Answer → Type 0
Speak now begin end before after answers = (trace : Event) → Walks now (Some trace) begin end before after answers (Some trace)

-- some of these lanes, the first first, take their turns, in which nothing is heard. Then the wires told that none of them has anything to give, and
-- each lane rests.
abbrev pub RestsWithin : ℕ → ℕ → ℕ → List Lane → List Lane → List Answer → Type 0
RestsWithin now begin end before after answers =
    (index : ℕ) × (turns : List Answer) × (begin ≤ index) × (index ≤ end) × (answers ≡ turns ++ none_ready ∷ [])
    × Walks now None begin index before after turns None × ((lane : Lane) → Contains after lane → RestsAt now lane)

-- how turns of the lanes of these places ended, with what the wires told in them
abbrev pub Ends : Option (List Answer) → Option (List Answer) → ℕ → ℕ → ℕ → List Lane → List Lane → Course → Type 0
Ends told told_after now begin end before after (Heard heard next) =
    (begin ≤ next) × (next ≤ end) × ((answers : List Answer) × Tells told told_after answers × Walks now None begin next before after answers (Some heard))
Ends told told_after now begin end before after Quiet = (answers : List Answer) × Tells told told_after answers × Walks now None begin end before after answers None
Ends told told_after now begin end before after Rests = (answers : List Answer) × Tells told told_after answers × RestsWithin now begin end before after answers
