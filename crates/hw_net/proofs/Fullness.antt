-- The turn of a live lane by how full it is, and the message it is given: what doesn't read how full a lane is goes over them.
use Rattle.std.proofs.Common.{◌≡◌, [], ℕ, Bool, true, false, List, Option, None, Some, refl, sym, subst}
use Rattle.hw_door.specs.declared.heard.Event.{Event}
use Rattle.hw_door.specs.declared.heard.Event.TheVariants as event
use Rattle.hw_door.specs.Traffic.{Answer}
use Rattle.hw_net.specs.Lane.{Lane, is_drained, is_stalled, after_message, after_turn}
use Rattle.hw_net.specs.Saying.{Says, GathersOrSays}
use Rattle.hw_net.specs.Trace.{Chooses}
use Rattle.hw_net.specs.Turn.{Drains, Falls, TurnsLive, TurnsOn, TurnsByFullness}

-- what holds of the lane after each of the three turns holds after the turn
pub by-fullness : (Is : Lane → Type 0) (now : ℕ) (before after : Lane) (answers : List Answer) (heard : Option Event) →
    (is_drained before ≡ true → heard ≡ Some (event.Drained before.wire) → Says now (record before { full = None }) after answers → Is after) →
    (is_stalled before ≡ true → Falls before after answers heard → Is after) →
    ((mid : Lane) → TurnsLive now before mid answers heard → Is (after_turn now mid)) →
    TurnsByFullness now before after answers heard → Is after
by-fullness Is now before after answers heard drained fell turned h = go (is_drained before) refl (is_stalled before) refl h where
  go : (d : Bool) → is_drained before ≡ d → (s : Bool) → is_stalled before ≡ s →
      Chooses d (Drains now before after answers heard) (Chooses s (Falls before after answers heard) (TurnsOn now before after answers heard)) → Is after
  go true d s t h = drained d h.0 h.1
  go false d true t h = fell t h
  go false d false t h = subst Is (sym h.2) (turned h.0 h.1)

-- what is said once a message was put, or not
abbrev pub SaysPut : ℕ → Bool → Lane → Lane → List Answer → Type 0
SaysPut now is_put mid after answers =
    Chooses is_put ((said : Lane) × GathersOrSays mid said answers × (after ≡ after_message now said)) ((answers ≡ []) × (after ≡ mid))
