-- A lane in a call that isn't heard on it: it says what waits, or stays as it is.
use Rattle.std.proofs.Common.{◌≡◌, ◌⊎◌, [], ℕ, Bool, true, false, List, refl, sym, subst, inl, inr, length}
use Rattle.hw_door.specs.Traffic.{Answer}
use Rattle.hw_net.specs.declared.protocol.Stage.{Stage}
use Rattle.hw_net.specs.declared.protocol.Stage.TheVariants.{Live, Lost, Closing, Over}
use Rattle.hw_net.specs.Lane.{Lane, waits}
use Rattle.hw_net.specs.Saying.{Says, SaysAt, SaysIfEnded, SaysIfEndedAt, SaysMore, WritesIfLive, WritesIfLiveAt, GathersOrSays, is_gathered}
use Rattle.hw_net.specs.Trace.{Chooses}

abbrev pub Stays : Lane → Lane → List Answer → Type 0
Stays x y mine = (y ≡ x) × (mine ≡ [])

abbrev pub SaysOrStays : ℕ → Lane → Lane → List Answer → Type 0
SaysOrStays now x y mine = Says now x y mine ⊎ Stays x y mine

-- so does a lane after the one that is heard
pub ended-says : (now : ℕ) (x y : Lane) (mine : List Answer) → SaysIfEnded now x y mine → SaysOrStays now x y mine
ended-says now x y mine h = go x.stage refl h where
  go : (s : Stage) → x.stage ≡ s → SaysIfEndedAt s now x y mine → SaysOrStays now x y mine
  go Live e h = inr (h.1, h.0)
  go Lost e h = inr (h.1, h.0)
  go Closing e h = inl (subst (λ (s : Stage). SaysAt s now x y mine) (sym e) h)
  go Over e h = inr (h.1, h.0)

-- and one in a flush, at whatever moment
pub live-says : (now : ℕ) (x y : Lane) (mine : List Answer) → WritesIfLive x y mine → SaysOrStays now x y mine
live-says now x y mine h = go x.stage refl h where
  go : (s : Stage) → x.stage ≡ s → WritesIfLiveAt s x y mine → SaysOrStays now x y mine
  go Live e h = inl (subst (λ (s : Stage). SaysAt s now x y mine) (sym e) h)
  go Lost e h = inr (h.1, h.0)
  go Closing e h = inr (h.1, h.0)
  go Over e h = inr (h.1, h.0)

-- after a message a lane says more, or what waits is gathered
pub gathered-says : (x y : Lane) (mine : List Answer) → GathersOrSays x y mine → SaysMore x y mine ⊎ Stays x y mine
gathered-says x y mine h = go (is_gathered (length (waits x))) h where
  go : (b : Bool) → Chooses b ((mine ≡ []) × (y ≡ x)) (SaysMore x y mine) → SaysMore x y mine ⊎ Stays x y mine
  go true h = inr (h.1, h.0)
  go false h = inl h
