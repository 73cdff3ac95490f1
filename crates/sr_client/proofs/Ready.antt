-- What a client is ready for after what it heard, and that its turn has begun once that was followed.
use Rattle.std.proofs.Common.{inl, inr, ◌≡◌, ℕ, ◌≤◌, ◌<◌, Bool, true, false, List, [], ◌∷◌, ◌++◌, Option, Some, None, is_some, refl, sym, ap, subst, ◌∙◌, arith}
use Rattle.std.proofs.Common.{append_assoc, true≢false}
use Rattle.std.specs.Prelude.{if◌then◌else◌}
use Rattle.std.specs.List.{list_all}
use Rattle.std.proofs.lemmas.Bool.{or_parts}
use Rattle.std.proofs.lemmas.List.{append_cancel_right}
use Rattle.hd_delivery.specs.Histories.{EndEvent, Silenced, Ticked, is_silence, present_link}
use Rattle.hd_calls.specs.Peers.{PeerEvent, Settings, steps}
use Rattle.hw_door.specs.Calls.{AddsSome}
use Rattle.hw_door.specs.DoorCalls.{DoorCall, full_in, given_in, heard, is_giving}
use Rattle.hw_door.specs.declared.heard.Event.{Event}
use Rattle.hd_server.specs.Plans.{onto}
use Rattle.hd_dialing.specs.Bodies.{Told}
use Rattle.hd_dialing.specs.Events.{DialEvent, Hears, Draws, Asks, Learns, Shuts, GivesUp, Stops, Phase, Away, Negotiates, Upgrades, Stands, Over}
use Rattle.hd_dialing.specs.Events.{is_away, is_due, is_on, is_up, left, lost_dials, phase, told}
use Rattle.hd_dialing.specs.Events as dial
use Rattle.hd_dialing.specs.Laws.{SuitsAsk}
use Rattle.hd_dialing.specs.Plans as plan
use Rattle.hd_dialing.specs.Plans.{Dial, News, Nothing, Begins, Brings, Drains, Ends, news, socket_asked}
use Rattle.hd_dialing.specs.Telling as told_of
use Rattle.hd_dialing.specs.Telling.{has_failed_draw}
use Rattle.hd_client.specs.Setups.{Setup, settings_with}
use Rattle.hd_client.specs.Events.{ClientEvent, Dialed, dialing, has_closed, is_full, is_over, is_shut_with, moment, moves, phase_of, settings_of}
use Rattle.hd_client.specs.Plans.{does, dropping, linking, ticking}
use Rattle.hd_client.specs.Printed.{printed}
use Rattle.hd_client.specs.Telling.{draws, given, seen, wait_for}
use Rattle.hd_client.specs.Turns.{IsFed, dialed, moving}
use Rattle.hn_dialing.specs.Calls.{AreNewLanes}
use Rattle.hn_dialing.specs.declared.connection.Connection.{Connection}
use Rattle.sr_client.specs.declared.client.Client.{Client}
use Rattle.sr_client.specs.declared.client.Words.{Words}
use Rattle.sr_client.specs.declared.peer.ClientPeer.{ClientPeer}
use Rattle.sr_client.specs.Clients.{Fits, IsFullBy, PlaysBy, Standing, is_linked}
use Rattle.sr_client.specs.Running.{WentSo}
use Rattle.sr_client.specs.Turning.{FitsNews, Follows, HasHeard, MayStart}
use Rattle.sr_client.proofs.Answered.{AsksOn, Came, IsAnswered, IsGivenUp, answers, on_heard}
use Rattle.sr_client.proofs.Dials.{dialing_dialed, fills_done, moves_dialed, room_dialed}
use Rattle.sr_client.proofs.Dropped.{with_connection}
use Rattle.sr_client.proofs.Heard.{fits_same}
use Rattle.sr_client.proofs.Opened.{IsMade, begun_by, bound_rises, made_down, made_full, made_on, moment_done, opened_hears, plays_later}
use Rattle.sr_client.proofs.Parts.{full_moving}
use Rattle.sr_client.proofs.Printed.{dialing_moving}

-- ---- its peer

-- its peer may begin or go on, its end is open, and this news fits
pub record Receives (s : Setup) (c : Client) (n : News) (k : List ClientEvent) : Type 0 where
  pub may : MayStart (settings_of s k) c.peer (moves k) (moment k)
  pub opened : has_closed s k ≡ false
  pub fits : FitsNews s c n k

pub unlearned : (o : Option Settings) (p : Option ClientPeer) (g : List PeerEvent) (m : ℕ) → o ≡ None → PlaysBy o p g m → (p ≡ None) × (g ≡ [])
unlearned None None g m e plays = (refl, plays)
unlearned None (Some p) g m e plays = absurd plays
unlearned (Some t) p g m e plays = absurd (true≢false (ap is_some e))

unlinked : (o : Option Settings) → is_linked o [] ≡ false
unlinked None = refl
unlinked (Some t) = refl

pub unshut : (o : Option Settings) → is_shut_with o [] ≡ false
unshut None = refl
unshut (Some t) = refl

begun_told : (s : Setup) (o : Option Told) (t : Told) → o ≡ Some t → is_some (settings_with s o) ≡ true
begun_told s None t e = absurd (true≢false (sym (ap is_some e)))
begun_told s (Some u) t e = refl

module _ (s : Setup) (c : Client) (y : Connection) (h : List ClientEvent) (x : Standing s c h) (goes_on : is_over s h ≡ false) (bound later at : ℕ) (fits : Fits bound at h)
    (dl : Dial) (new : List DialEvent) (now : ℕ) (e : Event) (before : moment h ≤ now) (fresh : bound ≤ dl.lane)
    (adds : plan.heard s.dialing dl now e (dialing h) ≡ new ++ dialing h) (undrawn : has_failed_draw (plan.heard s.dialing dl now e (dialing h)) ≡ false)
    (suits : SuitsAsk s.dialing (phase_of h) (dialing h)) (lanes : AreNewLanes (told_of.given new) bound later) where
  abbrev d : List DialEvent
  d = dialing h

  abbrev k : List ClientEvent
  k = dialed new h

  abbrev c2 : Client
  c2 = with_connection c y

  ans : IsAnswered dl e now (phase d) (Hears now e ∷ d) (plan.heard s.dialing dl now e d)
  ans = answers s.dialing dl now d e (phase d) (lost_dials d)

  is : dialing k ≡ plan.heard s.dialing dl now e d
  is = dialing_dialed new h ∙ sym adds

  new_is : new ≡ ans.xs ++ Hears now e ∷ []
  new_is = append_cancel_right new (ans.xs ++ Hears now e ∷ []) d (sym adds ∙ (ans.is ∙ sym (append_assoc ans.xs (Hears now e ∷ []) d)))

  fills : (l : ℕ) → is_full l k ≡ is_full l (Dialed (Hears now e) ∷ h)
  fills l = ap (λ z. is_full l (dialed z h)) new_is ∙ fills_done l ans.xs (Hears now e ∷ []) h ans.done

  pub moment_is : moment k ≡ now
  moment_is = ap dial.moment (is ∙ ans.is) ∙ moment_done ans.xs (Hears now e ∷ d) ans.done

  opened_yet : has_closed s h ≡ false
  opened_yet = (or_parts (dial.is_over (phase_of h)) (has_closed s h) goes_on).1

  module _ (tells : told (plan.heard s.dialing dl now e d) ≡ told d) where
    settings_are : settings_of s k ≡ settings_of s h
    settings_are = ap (λ z. settings_with s (told z)) is ∙ ap (λ z. settings_with s z) tells

    plays_on : PlaysBy (settings_of s k) c.peer (moves k) (moment k)
    plays_on =
        subst (λ o. PlaysBy o c.peer (moves k) (moment k)) (sym settings_are)
        (subst (λ g. PlaysBy (settings_of s h) c.peer g (moment k)) (sym (moves_dialed new h))
        (subst (λ m. PlaysBy (settings_of s h) c.peer (moves h) m) (sym moment_is) (plays_later (settings_of s h) c.peer (moves h) (moment h) now x.plays before)))

    open_yet : has_closed s k ≡ false
    open_yet = ap (λ o. is_shut_with o (moves k)) settings_are ∙ (ap (λ g. is_shut_with (settings_of s h) g) (moves_dialed new h) ∙ opened_yet)

    linked_as_up : is_linked (settings_of s k) (moves k) ≡ is_up (phase d)
    linked_as_up =
        ap (λ o. is_linked o (moves k)) settings_are ∙ (ap (λ g. is_linked (settings_of s h) g) (moves_dialed new h) ∙ x.linked goes_on)

  learned : (q : Phase) (l : ℕ) → SuitsAsk s.dialing q d → q ≡ Upgrades l → is_some (settings_with s (told d)) ≡ true
  learned (Upgrades m) l suits e = begun_told s (told d) suits.0 suits.2
  learned Away l suits e = absurd (let f : Away ≡ Upgrades l = e in cc)
  learned (Negotiates m) l suits e = absurd (let f : Negotiates m ≡ Upgrades l = e in cc)
  learned (Stands m) l suits e = absurd (let f : Stands m ≡ Upgrades l = e in cc)
  learned Over l suits e = absurd (let f : Over ≡ Upgrades l = e in cc)

  same_comes : plan.heard s.dialing dl now e d ≡ Hears now e ∷ d → Receives s c2 (news e (phase d)) k
  same_comes same =
      let tells = ap told same in
      record {
        may = inl (plays_on tells);
        opened = open_yet tells;
        fits = fits_same s c2 h k now e (phase d) (record {
          was = refl;
          is = ap phase (is ∙ same);
          full = x.full;
          fills = fills;
          linked = linked_as_up tells;
          told = λ l up. ap is_some (settings_are tells) ∙ learned (phase d) l suits up;
        });
      }

  over_comes : news e (phase d) ≡ Nothing → IsGivenUp (phase d) (Hears now e ∷ d) (plan.heard s.dialing dl now e d) → Receives s c2 (news e (phase d)) k
  over_comes none up = record {
    may = inl (plays_on up.tells);
    opened = open_yet up.tells;
    fits = subst (λ n. FitsNews s c2 n k) (sym none) (
      subst (λ q. IsFullBy q c.full k) (sym (ap phase is ∙ up.at)) tt,
      λ on. linked_as_up up.tells ∙ (up.down ∙ sym (ap is_up (ap phase is ∙ up.at))),
    );
  }

  asks_comes : news e (phase d) ≡ Nothing → AsksOn dl.lane ans.xs e now (phase d) (Hears now e ∷ d) (plan.heard s.dialing dl now e d) → Receives s c2 (news e (phase d)) k
  asks_comes none asks =
      let untold : told d ≡ None = (subst (λ q. SuitsAsk s.dialing q d) asks.was suits).0 in
      let before = unlearned (settings_of s h) c.peer (moves h) (moment h) (ap (λ z. settings_with s z) untold) x.plays in
      let unmoved : moves k ≡ [] = moves_dialed new h ∙ before.1 in
      let made : IsMade (phase_of k) dl.lane = inr (ap phase is ∙ asks.at) in
      record {
        may = inr (before.0, unmoved);
        opened = ap (λ g. is_shut_with (settings_of s k) g) unmoved ∙ unshut (settings_of s k);
        fits = subst (λ n. FitsNews s c2 n k) (sym none) (
          made_full (phase_of k) dl.lane c.full k made (room_dialed dl.lane new h (fits.unused dl.lane fresh)),
          λ on. ap (λ g. is_linked (settings_of s k) g) unmoved ∙ (unlinked (settings_of s k) ∙ sym (made_down (phase_of k) dl.lane made)),
        );
      }

  pub receives : Receives s c2 (news e (phase d)) k
  receives = by ans.came
    where
      by : Came dl.lane ans.xs e now (phase d) (Hears now e ∷ d) (plan.heard s.dialing dl now e d) → Receives s c2 (news e (phase d)) k
      by (inl same) = same_comes same
      by (inr (inl failed)) = absurd (true≢false (sym failed.failed ∙ undrawn))
      by (inr (inr (none, inl up))) = over_comes none up
      by (inr (inr (none, inr asks))) = asks_comes none asks

  -- ---- its lanes

  rises : bound ≤ later
  rises = bound_rises (told_of.given new) bound later lanes

  below_later : (l : ℕ) → is_on l (phase_of k) ≡ true → l < later
  below_later l on = by ans.came
    where
      by : Came dl.lane ans.xs e now (phase d) (Hears now e ∷ d) (plan.heard s.dialing dl now e d) → l < later
      by (inl same) =
          let few = fits.below l (on_heard l now e d (sym (ap (λ z. is_on l (phase z)) (is ∙ same)) ∙ on)) in
          let r = rises in
          omega (arith, few, r)
      by (inr (inl failed)) = absurd (true≢false (sym failed.failed ∙ undrawn))
      by (inr (inr (none, inl up))) = absurd (true≢false (sym on ∙ ap (λ q. is_on l q) (ap phase is ∙ up.at)))
      by (inr (inr (none, inr asks))) =
          subst (λ n. n < later) (sym (made_on (phase_of k) dl.lane l (inr (ap phase is ∙ asks.at)) on))
          (asks.within bound later (subst (λ z. AreNewLanes (told_of.given z) bound later) new_is lanes))

  pub fits_heard : Fits later now k
  fits_heard = record {
    below = below_later;
    unused = λ l from. room_dialed l new h (fits.unused l (let r = rises in omega (arith, r, from)));
    timely = (let m = moment_is in omega (arith, m));
  }

-- ---- once it was followed

-- neither its dialing nor its lanes changed
record SameLanes (k f : List ClientEvent) : Type 0 where
  dials : dialing f ≡ dialing k
  fills : (l : ℕ) → is_full l f ≡ is_full l k

same_by : (k f g : List ClientEvent) → f ≡ g → SameLanes k g → SameLanes k f
same_by k f g e same = subst (λ z. SameLanes k z) (sym e) same

same_fed : (s : Setup) (m : ℕ) (n : News) (k fed : List ClientEvent) → IsFed s n (onto (linking s m n k) k) fed → SameLanes k fed
same_fed s m Nothing k fed feeds = same_by k fed k feeds (record { dials = refl; fills = λ l. refl })
same_fed s m (Begins lane) k fed feeds = same_by k fed (onto (linking s m (Begins lane) k) k) feeds (record { dials = refl; fills = λ l. refl })
same_fed s m Drains k fed feeds = same_by k fed k feeds (record { dials = refl; fills = λ l. refl })
same_fed s m Ends k fed feeds = same_by k fed (onto (linking s m Ends k) k) feeds (record { dials = refl; fills = λ l. refl })
same_fed s m (Brings bytes) k fed feeds =
    same_by k fed (moving feeds.made k) feeds.are (record { dials = dialing_moving feeds.made k; fills = λ l. full_moving l feeds.made k })

fits_same_lanes : (b n : ℕ) (k f : List ClientEvent) → Fits b n k → SameLanes k f → Fits b n f
fits_same_lanes b n k f fits same = record {
  below = λ l on. fits.below l (sym (ap (λ z. is_on l (phase z)) same.dials) ∙ on);
  unused = λ l from. same.fills l ∙ fits.unused l from;
  timely = subst (λ m. m ≤ n) (sym (ap dial.moment same.dials)) fits.timely;
}

on_left : (l lane : ℕ) (q : Phase) → is_on l (left lane q) ≡ true → is_on l q ≡ true
on_left l lane q = by (is_on lane q)
  where
    by : (b : Bool) → is_on l (if b then Away else q) ≡ true → is_on l q ≡ true
    by true on = absurd (true≢false (sym on))
    by false on = on

fits_dropped : (b n : ℕ) (f : List ClientEvent) (q : Phase) → Fits b n f → Fits b n (onto (dropping q) f)
fits_dropped b n f (Stands lane) fits = record {
  below = λ l on. fits.below l (on_left l lane (phase_of f) on);
  unused = fits.unused;
  timely = fits.timely;
}
fits_dropped b n f Away fits = fits
fits_dropped b n f (Negotiates lane) fits = fits
fits_dropped b n f (Upgrades lane) fits = fits
fits_dropped b n f Over fits = fits

fits_does : (b n : ℕ) (f : List ClientEvent) (z : EndEvent) → Fits b n f → Fits b n (does z ∷ f)
fits_does b n f z fits = record { below = fits.below; unused = fits.unused; timely = fits.timely }

fits_ticked : (b n m : ℕ) (o : Option Settings) (f : List ClientEvent) (over : Bool) → Fits b n f → Fits b n (onto (if over then [] else ticking m o f) f)
fits_ticked b n m o f true fits = fits
fits_ticked b n m None f false fits = fits
fits_ticked b n m (Some t) f false fits = by (is_some (present_link (steps t (moves f)))) (is_silence t.config m (steps t (moves f)))
  where
    by : (on silent : Bool) → Fits b n (onto (if on then (if silent then does (Silenced m) ∷ dropping (phase_of f) else does (Ticked m) ∷ []) else []) f)
    by true true = fits_dropped b n (does (Silenced m) ∷ f) (phase_of f) (fits_does b n f (Silenced m) fits)
    by true false = fits_does b n f (Ticked m) fits
    by false silent = fits

-- what was heard is followed, so the turn has begun
pub heard_hears : (s : Setup) (h : List ClientEvent) (Goes : List DoorCall → Type 0) (since drawn : Option (List (Option (List ℕ)))) (held : Option (List ℕ))
    (goes_on : is_over s h ≡ false) (dl : Dial) (new : List DialEvent) (now : ℕ) (e : Event) (undue : is_due (dialing h) ≡ false) (before : moment h ≤ now)
    (adds : plan.heard s.dialing dl now e (dialing h) ≡ new ++ dialing h)
    (calls : List DoorCall) (goes : Goes (heard (wait_for s h) (record { now = now; event = e }) ∷ calls)) (giving : list_all is_giving calls ≡ true)
    (silent : full_in calls ≡ []) (gives : given_in calls ≡ told_of.given new) (drew : AddsSome since drawn (dial.draws new))
    (c : Client) (w : Words) (bound : ℕ) → moment (dialed new h) ≡ now → Fits bound now (dialed new h)
    → Follows s (record { given = given (begun_by s now e new h); drawn = draws (begun_by s now e new h); seen = seen h; printed = printed s h }) c w
    (news e (phase_of h)) (dialed new h)
    → HasHeard s c w (WentSo Goes since drawn held held) bound now h
heard_hears s h Goes since drawn held goes_on dl new now e undue before adds calls goes giving silent gives drew c w bound is fits follows =
    let k = dialed new h in
    let fed = follows.fed in
    let ticks_at : onto (if is_over s fed then [] else ticking (moment k) (settings_of s fed) fed) fed
    ≡ onto (if is_over s fed then [] else ticking now (settings_of s fed) fed) fed =
    ap (λ m. onto (if is_over s fed then [] else ticking m (settings_of s fed) fed) fed) is in
    record {
      opened = opened_hears s h Goes since drawn held goes_on dl new now e undue before adds calls goes giving silent gives drew;
      fed = fed;
      feeds = follows.feeds;
      ticked = onto (if is_over s fed then [] else ticking (moment k) (settings_of s fed) fed) fed;
      has_ticked = ticks_at;
      working = follows.working;
      fits = fits_ticked bound now (moment k) (settings_of s fed) fed (is_over s fed)
          (fits_same_lanes bound now k fed fits (same_fed s (moment k) (news e (phase_of h)) k fed follows.feeds));
    }
