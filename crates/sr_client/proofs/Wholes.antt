-- A turn, put together of its parts: it began, it worked, and all of it was given.
use Rattle.std.proofs.Common.{◌≡◌, ℕ, Bool, List, [], ◌∷◌, ◌++◌, length, Option, Some, None, refl, sym, ap, subst, ◌∙◌, if◌then◌else◌}
use Rattle.std.specs.Prelude.{map, ◌&&◌, is_some, IfSome}
use Rattle.std.specs.List.{list_all}
use Rattle.std.proofs.lemmas.Grind.{flat_map-append}
use Rattle.std.proofs.lemmas.List.{append_assoc, append-nil}
use Rattle.std.proofs.lemmas.List.Folds.{list_all-append}
use Rattle.hub_calc.specs.Client.{client_hub}
use Rattle.hw_door.specs.DoorCalls.{DoorCall, given_in, given_of, full_in, full_of, is_giving}
use Rattle.hd_server.specs.Plans.{onto}
use Rattle.hd_server.specs.Serving.{AreGiving}
use Rattle.hd_dialing.specs.Events.{Phase, Away, Negotiates, Upgrades, Stands, Over}
use Rattle.hd_dialing.specs.Events as dial
use Rattle.hd_client.specs.declared.order.Order.{Order}
use Rattle.hd_client.specs.Setups.{Setup}
use Rattle.hd_client.specs.Events.{ClientEvent, Sees, dialing, settings_of, moves, phase_of, passed, is_over, IsClientPeer}
use Rattle.hd_client.specs.Printed.{printed}
use Rattle.hd_client.specs.Turns.{telling, seeing}
use Rattle.hd_client.specs.Telling.{Told, TellsTurn, given, seen, draws, hearing}
use Rattle.sr_client.specs.declared.client.Client.{Client}
use Rattle.sr_client.specs.declared.client.Words.{Words}
use Rattle.sr_client.specs.Clients.{words_given}
use Rattle.sr_client.specs.Turning.{HasDone, HasHeard, before_work, messages_in}
use Rattle.sr_client.proofs.Inner.{Stays, stays_then, work_stays, losses_stay, told_stays}

-- ---- what is seen

-- of no message nothing is seen, wherever it is
pub seen_none : (p : Phase) → seeing p [] ≡ []
seen_none Away = refl
seen_none (Negotiates lane) = refl
seen_none (Upgrades lane) = refl
seen_none (Stands lane) = refl
seen_none Over = refl

-- what was seen changes neither its peer nor its connection, and is told last
pub record OnlySees (s : Setup) (full : List Bool) (h after : List ClientEvent) : Type 0 where
  pub dialing : dialing after ≡ dialing h
  pub moves : moves after ≡ moves h
  pub passed : passed after ≡ passed h
  pub gives : given after ≡ given h
  pub prints : printed s after ≡ printed s h
  pub sees : seen after ≡ seen h ++ full

sees_all : (s : Setup) (lane : ℕ) (full : List Bool) (h : List ClientEvent) → OnlySees s full h (onto (map (λ one. Sees lane one) full) h)
sees_all s lane [] h = record { dialing = refl; moves = refl; passed = refl; gives = refl; prints = refl; sees = sym (append-nil (seen h)) }
sees_all s lane (one ∷ full) h =
    let r = sees_all s lane full (Sees lane one ∷ h) in record {
      dialing = r.dialing;
      moves = r.moves;
      passed = r.passed;
      gives = r.gives;
      prints = r.prints;
      sees = r.sees ∙ append_assoc (seen h) (one ∷ []) full;
    }

sees_none : (s : Setup) (h after : List ClientEvent) → after ≡ h → OnlySees s [] h after
sees_none s h after e = record {
  dialing = ap dialing e;
  moves = ap moves e;
  passed = ap passed e;
  gives = ap given e;
  prints = ap (printed s) e;
  sees = ap seen e ∙ sym (append-nil (seen h));
}

-- so many answers come of so many messages, on the lane that is up
pub only_sees : (s : Setup) (lane : Option ℕ) (p : Phase) (full : List Bool) (h : List ClientEvent) → length full ≡ (if is_some lane then 1 else 0)
    → IfSome lane (λ l. p ≡ Stands l) → OnlySees s full h (onto (seeing p full) h)
only_sees s None p [] h count on = sees_none s h (onto (seeing p []) h) (ap (λ xs. onto xs h) (seen_none p))
only_sees s None p (x ∷ full) h count on = absurd (let z = count in cc)
only_sees s (Some lane) p full h count on =
    subst (λ q. OnlySees s full h (onto (seeing q full) h)) (sym on) (sees_all s lane full h)

-- ---- the whole turn

given_both : (x y : List DoorCall) → given_in (x ++ y) ≡ given_in x ++ given_in y
given_both x y = flat_map-append given_of x y

full_both : (x y : List DoorCall) → full_in (x ++ y) ≡ full_in x ++ full_in y
full_both x y = flat_map-append full_of x y

module _ (s : Setup) (script : List Order) (Went : List DoorCall → Told → Type 0) (h : List ClientEvent) (bound now : ℕ) (c new : Client) (w words : Words)
    (heard : HasHeard s c w Went bound now h) (done : HasDone s script (before_work s heard.opened.begun h) new words heard.ticked)
    (calls : List DoorCall) (are : AreGiving calls) (all : given_in calls ≡ words_given words) (each : length (full_in calls) ≡ messages_in words) where
  abbrev said : List ClientEvent
  said = onto (telling s done.says.pieces done.told) done.told

  abbrev pub ended : List ClientEvent
  ended = onto (seeing (phase_of done.told) (full_in calls)) said

  abbrev pub all_told : Told
  all_told = record { calls = hearing s heard.opened.begin h ++ (heard.opened.giving ++ calls); drawn = heard.opened.drawn; printed = words.printed.items }

  pub ends : OnlySees s (full_in calls) said ended
  ends = only_sees s words.lane (phase_of done.told) (full_in calls) said each done.says.on

  gives_all : given ended ≡ given h ++ given_in (heard.opened.giving ++ calls)
  gives_all =
      ends.gives ∙ (done.says.working.tells.gives ∙ (ap (λ l. l ++ words_given words) heard.opened.gives
      ∙ (append_assoc (given h) (given_in heard.opened.giving) (words_given words)
      ∙ ap (λ l. given h ++ l) (ap (λ l. given_in heard.opened.giving ++ l) (sym all) ∙ sym (given_both heard.opened.giving calls)))))

  sees_both : seen ended ≡ seen h ++ full_in (heard.opened.giving ++ calls)
  sees_both =
      ends.sees ∙ (ap (λ l. l ++ full_in calls) done.says.working.tells.sees
      ∙ ap (λ l. seen h ++ l) (sym (full_both heard.opened.giving calls ∙ ap (λ l. l ++ full_in calls) heard.opened.answers)))

  giving_both : AreGiving (heard.opened.giving ++ calls)
  giving_both = list_all-append is_giving heard.opened.giving calls ∙ (ap (λ b. b && list_all is_giving calls) heard.opened.are_giving ∙ are)

  draws_ended : draws ended ≡ draws h ++ heard.opened.drawn
  draws_ended = ap (λ l. dial.draws l) ends.dialing ∙ (done.says.working.tells.draws ∙ heard.opened.draws_all)

  prints_ended : printed s ended ≡ printed s h ++ words.printed.items
  prints_ended = ends.prints ∙ done.says.working.tells.prints

  pub whole_turn : IsClientPeer client_hub (settings_of s ended) (moves ended) → TellsTurn client_hub s script heard.opened.begin h ended all_told
  whole_turn peer = record {
    may = heard.opened.may;
    turn = record {
      begun = heard.opened.begun;
      begins = heard.opened.begins;
      fed = heard.fed;
      feeds = heard.feeds;
      ticked = heard.ticked;
      has_ticked = heard.has_ticked;
      worked = done.worked;
      works = done.works;
      told = done.told;
      loses = done.loses;
      pieces = done.says.pieces;
      all_due = done.says.due;
      full = full_in calls;
      answers = each ∙ sym done.says.count;
      tells = refl;
      peer = peer;
    };
    giving = heard.opened.giving ++ calls;
    hears = refl;
    are_giving = giving_both;
    gives = gives_all;
    answers = sees_both;
    draws_more = draws_ended;
    prints = prints_ended;
  }

module _ (s : Setup) (script : List Order) (Went : List DoorCall → Told → Type 0) (h : List ClientEvent) (bound now : ℕ) (c new : Client) (w words : Words)
    (heard : HasHeard s c w Went bound now h) (done : HasDone s script (before_work s heard.opened.begun h) new words heard.ticked) where
  -- nothing is heard in its work, and no lane asked for
  pub told_leaves : Stays heard.ticked done.told
  told_leaves =
      stays_then heard.ticked done.worked done.told (work_stays s (is_over s heard.ticked) script heard.ticked done.worked done.works)
      (subst (Stays done.worked) (sym done.loses) (losses_stay s done.worked))

  pub work_leaves : Stays heard.ticked (onto (telling s done.says.pieces done.told) done.told)
  work_leaves =
      stays_then heard.ticked done.told (onto (telling s done.says.pieces done.told) done.told) told_leaves (told_stays s done.says.pieces done.told)
