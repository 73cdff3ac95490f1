-- What a client's parts come to once the work of a turn is done.
use Rattle.std.proofs.Common.{◌≡◌, true, false, List, refl, sym, subst}
use Rattle.hd_server.specs.Plans.{onto}
use Rattle.hd_client.specs.declared.order.Order.{Order}
use Rattle.hd_client.specs.Setups.{Setup}
use Rattle.hd_client.specs.Events.{ClientEvent, is_over, settings_of}
use Rattle.hd_client.specs.Plans.{closing, losses}
use Rattle.hd_client.specs.Turns.{LinesDone, RoundsWith, Works}
use Rattle.sr_client.specs.declared.client.Client.{Client}
use Rattle.sr_client.specs.declared.client.Words.{Words}
use Rattle.sr_client.specs.Clients.{Before, Working}
use Rattle.sr_client.specs.Turning.{HasDone, SaysIn, WorksOn}

-- its jobs and its script are done with
pub record HasWorkedOn (s : Setup) (script : List Order) (b : Before) (c : Client) (w : Words) (h : List ClientEvent) : Type 0 where
  pub worked : List ClientEvent
  pub works : Works (is_over s h) s script h worked
  pub working : Working s b c w worked

module _ (s : Setup) (script : List Order) (b : Before) where
  -- it was over
  pub worked_none : (c : Client) (w : Words) (h : List ClientEvent) → is_over s h ≡ true → Working s b c w h → HasWorkedOn s script b c w h
  worked_none c w h over x = record { worked = h; works = subst (λ y. Works y s script h h) (sym over) refl; working = x }

  -- a round, the lines that can be done, and the close
  pub worked_all : (rounded obeyed closed : Client) (w told : Words) (h : List ClientEvent) → is_over s h ≡ false
      → WorksOn s b rounded w (RoundsWith (settings_of s h) h)
      → ((k : List ClientEvent) → Working s b rounded w k → (lines : List (List ClientEvent)) × WorksOn s b obeyed told (LinesDone s script lines k))
      → ((k : List ClientEvent) → Working s b obeyed told k → Working s b closed told (onto (closing s script k) k))
      → HasWorkedOn s script b closed told h
  worked_all rounded obeyed closed w told h goes_on round obeys closes =
      let lines = obeys round.after round.working in
      let after = onto (closing s script lines.1.after) lines.1.after in
      record {
        worked = after;
        works = subst (λ y. Works y s script h after) (sym goes_on) (record {
          rounded = round.after;
          rounds = round.holds;
          lines = lines.0;
          obeyed = lines.1.after;
          obeys = lines.1.holds;
          closes = refl;
        });
        working = closes lines.1.after lines.1.working;
      }

  -- the calls of a closed end are gone, and what is due is said
  pub works_all : (c new : Client) (w said : Words) (h : List ClientEvent) → HasWorkedOn s script b c w h
      → ((k : List ClientEvent) → Working s b c w k → SaysIn s b new said (onto (losses s k) k)) → HasDone s script b new said h
  works_all c new w said h has says = record {
    worked = has.worked;
    works = has.works;
    told = onto (losses s has.worked) has.worked;
    loses = refl;
    says = says has.worked has.working;
  }
