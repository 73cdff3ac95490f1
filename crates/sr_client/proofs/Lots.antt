-- A turn of a client in which a draw failed.
use Rattle.std.proofs.Common.{inl, inr, ◌≡◌, ℕ, ◌≤◌, true, false, List, [], ◌∷◌, ◌++◌, Option, Some, None, refl, sym, ap, subst, ◌∙◌}
use Rattle.std.proofs.Common.{true≢false}
use Rattle.std.specs.Prelude.{if◌then◌else◌}
use Rattle.std.specs.List.{list_all}
use Rattle.std.proofs.lemmas.Bool.{or_parts}
use Rattle.std.proofs.lemmas.List.{append-nil}
use Rattle.hd_calls.specs.Peers.{Settings}
use Rattle.hw_door.specs.Calls.{AddsSome}
use Rattle.hw_door.specs.DoorCalls.{DoorCall, full_in, given_in, heard, is_giving}
use Rattle.hw_door.specs.declared.heard.Event.{Event}
use Rattle.hd_server.specs.Plans.{onto}
use Rattle.hd_dialing.specs.Asks as asks
use Rattle.hd_dialing.specs.Bodies.{Told}
use Rattle.hd_dialing.specs.Events.{DialEvent, Hears, Draws, Asks, Learns, Shuts, GivesUp, Stops, Phase, Away, Negotiates, Upgrades, Stands, Over}
use Rattle.hd_dialing.specs.Events.{is_away, is_due, is_on, is_up, left, lost_dials, phase, told}
use Rattle.hd_dialing.specs.Events as dial
use Rattle.hd_dialing.specs.Laws.{SuitsAsk}
use Rattle.hd_dialing.specs.Plans as plan
use Rattle.hd_dialing.specs.Plans.{Dial, News, Nothing, Begins, Brings, Drains, Ends, news, socket_asked}
use Rattle.hd_dialing.specs.Telling as told_of
use Rattle.hd_dialing.specs.Telling.{has_failed_draw}
use Rattle.hd_client.specs.Setups.{Setup, settings_with}
use Rattle.hd_client.specs.Events.{ClientEvent, closed_itself, dialing, has_closed, is_over, is_shut_with, moment, moves, phase_of, settings_of}
use Rattle.hd_client.specs.Plans.{linking, ticking}
use Rattle.hd_client.specs.Printed.{printed}
use Rattle.hd_client.specs.Telling.{draws, given, hearing, seen, wait_for}
use Rattle.hd_client.specs.Turns.{Dials, IsFed, dialed, moving}
use Rattle.hd_client.specs.Turns as turn
use Rattle.sr_client.specs.declared.client.Client.{Client}
use Rattle.sr_client.specs.Clients.{Standing}
use Rattle.sr_client.specs.Running.{WentSo}
use Rattle.sr_client.specs.Turning.{HasOpened}
use Rattle.sr_client.proofs.Answered.{Came, IsAnswered, answers}
use Rattle.sr_client.proofs.Dials.{dialing_dialed, moves_dialed, printed_dialed}
use Rattle.sr_client.proofs.Opened.{begun_by, opened_hears}
use Rattle.std.specs.Prelude.{Err, not}
use Rattle.std.proofs.lemmas.Bool.{or_left}
use Rattle.hd_client.specs.declared.order.Order.{Order}
use Rattle.hd_client.specs.Events.{FailsToDraw, GoesOn, IsClientPeer, IsDone, IsRefused, outcome}
use Rattle.hd_client.specs.Plans.{gone, leaving}
use Rattle.hd_client.specs.Telling as telling
use Rattle.hub_calc.specs.Client.{client_hub}
use Rattle.sr_client.specs.declared.client.ClientError.TheVariants as error
use Rattle.sr_client.specs.Running.{TurnsBy}
use Rattle.sr_client.proofs.Answered.{FailsToAsk}
use Rattle.sr_client.proofs.Opened.{opened_dials}
use Rattle.sr_client.proofs.Ready.{unlearned, unshut}

-- ---- nothing follows

ticks_none : (s : Setup) (begin : turn.Begin) (k : List ClientEvent) → is_over s k ≡ true → turn.ticks s begin k ≡ []
ticks_none s Dials k over = refl
ticks_none s (turn.Hears now e) k over = ap (λ b. if b then [] else ticking now (settings_of s k) k) over

outcome_lots : (s : Setup) (k : List ClientEvent) → is_over s k ≡ true → has_failed_draw (dialing k) ≡ true → outcome s k ≡ FailsToDraw
outcome_lots s k over failed =
    ap (λ b. if not b then GoesOn else (if has_failed_draw (dialing k) then FailsToDraw else (if closed_itself (moves k) then IsDone else IsRefused))) over
    ∙ ap (λ b. if b then FailsToDraw else (if closed_itself (moves k) then IsDone else IsRefused)) failed

-- what a turn came to in which a draw failed
pub record HasFailed (s : Setup) (Went : List DoorCall → telling.Told → Type 0) (h : List ClientEvent) : Type 0 where
  pub opened : HasOpened s Went h
  pub no_news : IsFed s (turn.news_of opened.begin h) opened.begun opened.begun
  pub at : phase_of opened.begun ≡ Over
  pub open_yet : has_closed s opened.begun ≡ false
  pub failed : has_failed_draw (dialing opened.begun) ≡ true
  pub prints : printed s opened.begun ≡ printed s h
  pub peer : IsClientPeer client_hub (settings_of s opened.begun) (moves opened.begun)

-- is a whole turn in which nothing follows
pub lots_failed : (s : Setup) (script : List Order) (Goes : List ClientEvent → Type 0) (Went : List DoorCall → telling.Told → Type 0) (h : List ClientEvent)
    → HasFailed s Went h → TurnsBy s script Goes Went h (Err error.Lots)
lots_failed s script Goes Went h has =
    let o = has.opened in
    let k = o.begun in
    let over : is_over s k ≡ true = or_left (dial.is_over (phase_of k)) (has_closed s k) (ap dial.is_over has.at) in
    record {
      begin = o.begin;
      after = k;
      told = record { calls = hearing s o.begin h ++ o.giving; drawn = o.drawn; printed = [] };
      tells = record {
        may = o.may;
        turn = record {
          begun = k;
          begins = o.begins;
          fed = k;
          feeds = has.no_news;
          ticked = k;
          has_ticked = sym (ap (λ es. onto es k) (ticks_none s o.begin k over));
          worked = k;
          works = subst (λ b. turn.Works b s script k k) (sym over) refl;
          told = k;
          loses = sym (ap (λ b. onto (if b then gone (moves k) else []) k) has.open_yet);
          pieces = [];
          all_due = subst (λ q. turn.AreDueOn s q (settings_of s k) [] k) (sym has.at) refl;
          full = [];
          answers = refl;
          tells = sym (ap (λ q. onto (turn.seeing q []) (onto (turn.telling s [] k) k)) has.at
              ∙ (ap (λ q. onto (turn.telling_on q (settings_of s k) [] k ++ (if has_closed s k then leaving (phase_of k) else [])) k) has.at
              ∙ ap (λ b. onto (if b then leaving (phase_of k) else []) k) has.open_yet));
          peer = has.peer;
        };
        giving = o.giving;
        hears = refl;
        are_giving = o.are_giving;
        gives = o.gives;
        answers = o.sees ∙ sym (ap (λ y. seen h ++ y) o.answers ∙ append-nil (seen h));
        draws_more = o.draws_all;
        prints = has.prints ∙ sym (append-nil (printed s h));
      };
      went = o.went;
      at_end = outcome_lots s k over has.failed;
    }

-- ---- it dialed

over_failed : (z : asks.Setup) (dl : Dial) (d : List DialEvent) (o : Option Told) → has_failed_draw d ≡ false → has_failed_draw (plan.dialed z dl o d) ≡ true
    → (phase (plan.dialed z dl o d) ≡ Over) × (told (plan.dialed z dl o d) ≡ told d)
over_failed z dl d None before failed = absurd (true≢false (sym failed ∙ before))
over_failed z dl d (Some t) before failed = by dl.key dl.seed failed
  where
    by : (key seed : Option (List ℕ)) → has_failed_draw (socket_asked z dl.lane t.token key seed d) ≡ true
        → (phase (socket_asked z dl.lane t.token key seed d) ≡ Over) × (told (socket_asked z dl.lane t.token key seed d) ≡ told d)
    by None seed failed = (refl, refl)
    by (Some key) None failed = (refl, refl)
    by (Some key) (Some seed) failed = absurd (true≢false (sym failed ∙ before))

pub failed_dials : (s : Setup) (h : List ClientEvent) (Goes : List DoorCall → Type 0) (since drawn : Option (List (Option (List ℕ)))) (held : Option (List ℕ))
    (goes_on : is_over s h ≡ false) (dl : Dial) (new : List DialEvent) (due : is_due (dialing h) ≡ true)
    (adds : plan.dialed s.dialing dl (told (dialing h)) (dialing h) ≡ new ++ dialing h)
    (calls : List DoorCall) (goes : Goes calls) (giving : list_all is_giving calls ≡ true) (silent : full_in calls ≡ []) (gives : given_in calls ≡ told_of.given new)
    (drew : AddsSome since drawn (dial.draws new)) → has_failed_draw (dialing h) ≡ false
    → has_failed_draw (plan.dialed s.dialing dl (told (dialing h)) (dialing h)) ≡ true → IsClientPeer client_hub (settings_of s h) (moves h)
    → HasFailed s (WentSo Goes since drawn held held) h
failed_dials s h Goes since drawn held goes_on dl new due adds calls goes giving silent gives drew before failed peer =
    let k = dialed new h in
    let is = dialing_dialed new h ∙ sym adds in
    let over = over_failed s.dialing dl (dialing h) (told (dialing h)) before failed in
    let settings_are : settings_of s k ≡ settings_of s h = ap (λ z. settings_with s (told z)) is ∙ ap (λ z. settings_with s z) over.1 in
    record {
      opened = opened_dials s h Goes since drawn held goes_on dl new due adds calls goes giving silent gives drew;
      no_news = refl;
      at = ap phase is ∙ over.0;
      open_yet = ap (λ o. is_shut_with o (moves k)) settings_are
          ∙ (ap (λ g. is_shut_with (settings_of s h) g) (moves_dialed new h) ∙ (or_parts (dial.is_over (phase_of h)) (has_closed s h) goes_on).1);
      failed = ap has_failed_draw is ∙ failed;
      prints = printed_dialed s new h;
      peer = subst (λ o. IsClientPeer client_hub o (moves k)) (sym settings_are)
          (subst (λ g. IsClientPeer client_hub (settings_of s h) g) (sym (moves_dialed new h)) peer);
    }

-- ---- it heard

no_moves : (o : Option Settings) → IsClientPeer client_hub o []
no_moves None = tt
no_moves (Some t) = record { follows = tt; prompt = tt; is_history = tt }

pub failed_hears : (s : Setup) (h : List ClientEvent) (Goes : List DoorCall → Type 0) (since drawn : Option (List (Option (List ℕ)))) (held : Option (List ℕ))
    (goes_on : is_over s h ≡ false) (dl : Dial) (new : List DialEvent) (now : ℕ) (e : Event) (undue : is_due (dialing h) ≡ false) (before : moment h ≤ now)
    (adds : plan.heard s.dialing dl now e (dialing h) ≡ new ++ dialing h)
    (calls : List DoorCall) (goes : Goes (heard (wait_for s h) (record { now = now; event = e }) ∷ calls)) (giving : list_all is_giving calls ≡ true)
    (silent : full_in calls ≡ []) (gives : given_in calls ≡ told_of.given new) (drew : AddsSome since drawn (dial.draws new))
    (c : Client) → Standing s c h → SuitsAsk s.dialing (phase_of h) (dialing h) → has_failed_draw (plan.heard s.dialing dl now e (dialing h)) ≡ true
    → HasFailed s (WentSo Goes since drawn held held) h
failed_hears s h Goes since drawn held goes_on dl new now e undue later adds calls goes giving silent gives drew c x suits failed = by ans.came
  where
    ans : IsAnswered dl e now (phase (dialing h)) (Hears now e ∷ dialing h) (plan.heard s.dialing dl now e (dialing h))
    ans = answers s.dialing dl now (dialing h) e (phase (dialing h)) (lost_dials (dialing h))

    is : dialing (dialed new h) ≡ plan.heard s.dialing dl now e (dialing h)
    is = dialing_dialed new h ∙ sym adds

    never : has_failed_draw (plan.heard s.dialing dl now e (dialing h)) ≡ has_failed_draw (Hears now e ∷ dialing h) → ⊥
    never same = true≢false (sym failed ∙ (same ∙ x.kept.undrawn))

    asked : FailsToAsk e (phase (dialing h)) (plan.heard s.dialing dl now e (dialing h)) → HasFailed s (WentSo Goes since drawn held held) h
    asked f =
        let untold : told (dialing h) ≡ None = (subst (λ q. SuitsAsk s.dialing q (dialing h)) f.was suits).0 in
        let fresh = unlearned (settings_of s h) c.peer (moves h) (moment h) (ap (λ z. settings_with s z) untold) x.plays in
        let unmoved : moves (dialed new h) ≡ [] = moves_dialed new h ∙ fresh.1 in
        let begun_is : begun_by s now e new h ≡ dialed new h = ap (λ n. onto (linking s (moment (dialed new h)) n (dialed new h)) (dialed new h)) f.none in
        record {
          opened = opened_hears s h Goes since drawn held goes_on dl new now e undue later adds calls goes giving silent gives drew;
          no_news = subst (λ n. IsFed s n (begun_by s now e new h) (begun_by s now e new h)) (sym f.none) refl;
          at = ap (λ z. phase_of z) begun_is ∙ (ap phase is ∙ f.at);
          open_yet = ap (λ z. has_closed s z) begun_is ∙ (ap (λ g. is_shut_with (settings_of s (dialed new h)) g) unmoved ∙ unshut (settings_of s (dialed new h)));
          failed = ap (λ z. has_failed_draw (dialing z)) begun_is ∙ (ap has_failed_draw is ∙ failed);
          prints = ap (λ z. printed s z) begun_is ∙ printed_dialed s new h;
          peer = subst (λ z. IsClientPeer client_hub (settings_of s z) (moves z)) (sym begun_is)
              (subst (λ g. IsClientPeer client_hub (settings_of s (dialed new h)) g) (sym unmoved) (no_moves (settings_of s (dialed new h))));
        }

    by : Came dl.lane ans.xs e now (phase (dialing h)) (Hears now e ∷ dialing h) (plan.heard s.dialing dl now e (dialing h))
        → HasFailed s (WentSo Goes since drawn held held) h
    by (inl same) = absurd (never (ap has_failed_draw same))
    by (inr (inl f)) = asked f
    by (inr (inr (none, inl up))) = absurd (never up.unfailed)
    by (inr (inr (none, inr asks))) = absurd (never asks.unfailed)
