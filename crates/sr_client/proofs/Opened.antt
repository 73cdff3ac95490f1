-- How a client's turn begins where nothing fails: what it is told, and what then fits.
use Rattle.std.proofs.Common.{inl, inr, ◌≡◌, ◌⊎◌, ℕ, ◌≤◌, ◌<◌, Bool, true, false, List, [], ◌∷◌, ◌++◌, Option, Some, None, refl, sym, ap, subst, ◌∙◌, arith}
use Rattle.std.proofs.Common.{true≢false}
use Rattle.std.specs.List.{list_all}
use Rattle.std.specs.Io.KnownBytes.{Appends}
use Rattle.std.proofs.lemmas.Bool.{and_parts, eqb-true}
use Rattle.std.proofs.lemmas.List.{append-nil, append_cancel_right}
use Rattle.hd_calls.specs.Peers.{PeerEvent, Settings}
use Rattle.hw_door.specs.Calls.{AddsSome}
use Rattle.hw_door.specs.DoorCalls.{DoorCall, full_in, given_in, heard, is_giving}
use Rattle.hw_door.specs.declared.heard.Event.{Event}
use Rattle.hw_door.specs.declared.heard.Given.{Given}
use Rattle.hw_door.specs.declared.heard.Given.TheVariants as give
use Rattle.hd_server.specs.Plans.{onto}
use Rattle.hd_dialing.specs.Asks as asks
use Rattle.hd_dialing.specs.Bodies.{Told}
use Rattle.hd_dialing.specs.Events.{DialEvent, Hears, Draws, Asks, Learns, Shuts, GivesUp, Stops, Phase, Away, Negotiates, Upgrades, Stands, Over}
use Rattle.hd_dialing.specs.Events.{is_away, is_due, is_on, is_up, left, lost_dials, phase, told}
use Rattle.hd_dialing.specs.Events as dial
use Rattle.hd_dialing.specs.Plans as plan
use Rattle.hd_dialing.specs.Plans.{Dial, News, Nothing, Begins, Brings, Drains, Ends, news, socket_asked}
use Rattle.hd_dialing.specs.Telling as told_of
use Rattle.hd_dialing.specs.Telling.{has_failed_draw}
use Rattle.hd_client.specs.Setups.{Setup, settings_with}
use Rattle.hd_client.specs.Events.{ClientEvent, closed_itself, dialing, is_full, is_over, moment, moves, phase_of, settings_of}
use Rattle.hd_client.specs.Plans.{linking}
use Rattle.hd_client.specs.Printed.{printed}
use Rattle.hd_client.specs.Telling.{draws, given, seen, wait_for}
use Rattle.hd_client.specs.Turns.{Dials, IsFed, dialed, moving}
use Rattle.hd_client.specs.Turns as turn
use Rattle.hn_dialing.specs.Calls.{AreNewLanes}
use Rattle.hn_dialing.specs.Stands as of_connection
use Rattle.hn_dialing.specs.declared.connection.Connection.{Connection}
use Rattle.sr_client.specs.declared.client.Client.{Client}
use Rattle.sr_client.specs.declared.client.Words.{Words}
use Rattle.sr_client.specs.declared.peer.ClientPeer.{ClientPeer}
use Rattle.sr_client.specs.Clients.{Fits, IsFullBy, Kept, PlaysBy, Standing, Tells, is_linked, message_given, shut_given, words_given}
use Rattle.sr_client.specs.Obeying.{UploadsHaveCalls}
use Rattle.sr_client.specs.Running.{WentSo}
use Rattle.sr_client.specs.Turning.{AreNone, HasHeard, HasOpened}
use Rattle.sr_client.proofs.Dials.{dialing_dialed, draws_dialed, given_dialed, is_done, moves_dialed, passed_dialed, printed_dialed, room_dialed, seen_dialed}
use Rattle.sr_client.proofs.Dropped.{with_connection}

-- ---- what stays

pub appends_none : (held : Option (List ℕ)) → Appends held held []
appends_none None = tt
appends_none (Some xs) = sym (append-nil xs)

pub kept_dialed : (s : Setup) (c : Client) (x : Connection) (new : List DialEvent) (h : List ClientEvent) → Kept s c h
    → of_connection.Stands s.dialing x (dialing (dialed new h)) → has_failed_draw (dialing (dialed new h)) ≡ false → Kept s (with_connection c x) (dialed new h)
kept_dialed s c x new h kept stands undrawn = record {
  codec = kept.codec;
  limits = kept.limits;
  wire = kept.wire;
  words = kept.words;
  dialed = stands;
  undrawn = undrawn;
  passed = kept.passed ∙ sym (passed_dialed new h);
  closed = kept.closed ∙ sym (ap closed_itself (moves_dialed new h));
  uploads = subst UploadsHaveCalls (sym (moves_dialed new h)) kept.uploads;
}

none_given : (w : Words) → AreNone w → words_given w ≡ []
none_given w none =
    ap (λ o. message_given o w.message.items w.text ++ shut_given w.shut) none.lane ∙ ap shut_given none.shut

pub tells_dialed : (s : Setup) (w : Words) (new : List DialEvent) (h : List ClientEvent) (g : List Given) (d : List (Option (List ℕ))) → AreNone w
    → g ≡ given (dialed new h) → d ≡ draws (dialed new h)
    → Tells s (record { given = g; drawn = d; seen = seen h; printed = printed s h }) w (dialed new h)
tells_dialed s w new h g d none is_given is_drawn = record {
  gives = sym (ap (λ y. g ++ y) (none_given w none) ∙ (append-nil g ∙ is_given));
  draws = sym is_drawn;
  sees = seen_dialed new h;
  prints = printed_dialed s new h ∙ sym (ap (λ y. printed s h ++ y) none.printed ∙ append-nil (printed s h));
}

pub plays_later : (o : Option Settings) (p : Option ClientPeer) (g : List PeerEvent) (m n : ℕ) → PlaysBy o p g m → m ≤ n → PlaysBy o p g n
plays_later None None g m n plays later = plays
plays_later None (Some p) g m n plays later = plays
plays_later (Some t) None g m n plays later = plays
plays_later (Some t) (Some p) g m n plays later = (plays.0, (let few = plays.1 in omega (arith, few, later)))

pub moment_done : (xs d : List DialEvent) → list_all is_done xs ≡ true → dial.moment (xs ++ d) ≡ dial.moment d
moment_done [] d done = refl
moment_done (Hears now e ∷ xs) d done = absurd (true≢false (sym done))
moment_done (Draws drawn ∷ xs) d done = moment_done xs d done
moment_done (Asks lane ask ∷ xs) d done = moment_done xs d done
moment_done (Learns t ∷ xs) d done = moment_done xs d done
moment_done (Shuts lane ∷ xs) d done = moment_done xs d done
moment_done (GivesUp ∷ xs) d done = moment_done xs d done
moment_done (Stops ∷ xs) d done = moment_done xs d done

-- the bound of lanes never falls
pub bound_rises : (gs : List Given) (before now : ℕ) → AreNewLanes gs before now → before ≤ now
bound_rises [] before now new = new
bound_rises (give.Ask lane place method target upgrade ∷ gs) before now new = bound_rises gs before now new.2
bound_rises (give.Reply lane reply ∷ gs) before now new = bound_rises gs before now new
bound_rises (give.Bytes lane bytes text ∷ gs) before now new = bound_rises gs before now new
bound_rises (give.Shut lane ∷ gs) before now new = bound_rises gs before now new

-- ---- it dials

-- what a dial comes to in which no draw failed
record DialsTo (z : asks.Setup) (dl : Dial) (d now : List DialEvent) : Type 0 where
  xs : List DialEvent
  done : list_all is_done xs ≡ true
  is : now ≡ xs ++ d
  tells : told now ≡ told d
  at : (phase now ≡ Negotiates dl.lane) ⊎ (phase now ≡ Upgrades dl.lane)
  within : (before bound : ℕ) → AreNewLanes (told_of.given xs) before bound → dl.lane < bound

dials_to : (z : asks.Setup) (dl : Dial) (d : List DialEvent) (o : Option Told) → has_failed_draw (plan.dialed z dl o d) ≡ false → DialsTo z dl d (plan.dialed z dl o d)
dials_to z dl d None undrawn = record {
  xs = Asks dl.lane (asks.negotiate_ask z) ∷ [];
  done = refl;
  is = refl;
  tells = refl;
  at = inl refl;
  within = λ before bound new. new.1;
}
dials_to z dl d (Some t) undrawn = by dl.key dl.seed undrawn
  where
    by : (key seed : Option (List ℕ)) → has_failed_draw (socket_asked z dl.lane t.token key seed d) ≡ false
        → DialsTo z dl d (socket_asked z dl.lane t.token key seed d)
    by None seed undrawn = absurd (true≢false undrawn)
    by (Some key) None undrawn = absurd (true≢false undrawn)
    by (Some key) (Some seed) undrawn = record {
      xs = Asks dl.lane (asks.socket_ask z t.token (record { key = key; seed = seed })) ∷ Draws (Some seed) ∷ Draws (Some key) ∷ [];
      done = refl;
      is = refl;
      tells = refl;
      at = inr refl;
      within = λ before bound new. new.1;
    }

down_away : (q : Phase) → is_away q ≡ true → is_up q ≡ false
down_away Away e = refl
down_away (Negotiates l) e = absurd (true≢false (sym e))
down_away (Upgrades l) e = absurd (true≢false (sym e))
down_away (Stands l) e = absurd (true≢false (sym e))
down_away Over e = absurd (true≢false (sym e))

-- it is being made on this lane
abbrev pub IsMade : Phase → ℕ → Type 0
IsMade q lane = (q ≡ Negotiates lane) ⊎ (q ≡ Upgrades lane)

pub made_full : (q : Phase) (lane : ℕ) (full : Bool) (k : List ClientEvent) → IsMade q lane → is_full lane k ≡ false → IsFullBy q full k
made_full q lane full k (inl e) room = subst (λ y. IsFullBy y full k) (sym e) tt
made_full q lane full k (inr e) room = subst (λ y. IsFullBy y full k) (sym e) room

pub made_down : (q : Phase) (lane : ℕ) → IsMade q lane → is_up q ≡ false
made_down q lane (inl e) = ap is_up e
made_down q lane (inr e) = ap is_up e

pub made_on : (q : Phase) (lane l : ℕ) → IsMade q lane → is_on l q ≡ true → l ≡ lane
made_on q lane l (inl e) on = eqb-true l lane (sym (ap (λ y. is_on l y) e) ∙ on)
made_on q lane l (inr e) on = eqb-true l lane (sym (ap (λ y. is_on l y) e) ∙ on)

-- what is told of it
abbrev pub opened_dials : (s : Setup) (h : List ClientEvent) (Goes : List DoorCall → Type 0) (since drawn : Option (List (Option (List ℕ)))) (held : Option (List ℕ))
    → is_over s h ≡ false → (dl : Dial) (new : List DialEvent) → is_due (dialing h) ≡ true → plan.dialed s.dialing dl (told (dialing h)) (dialing h) ≡ new ++ dialing h
    → (calls : List DoorCall) → Goes calls → list_all is_giving calls ≡ true → full_in calls ≡ [] → given_in calls ≡ told_of.given new
    → AddsSome since drawn (dial.draws new) → HasOpened s (WentSo Goes since drawn held held) h
opened_dials s h Goes since drawn held goes_on dl new due adds calls goes giving silent gives drew = record {
  begin = Dials;
  may = (goes_on, λ z. due);
  begun = dialed new h;
  begins = record { dial = dl; new = new; dials = adds; is = refl };
  giving = calls;
  are_giving = giving;
  gives = given_dialed new h ∙ ap (λ g. given h ++ g) (sym gives);
  answers = silent;
  sees = seen_dialed new h;
  drawn = dial.draws new;
  draws_all = draws_dialed new h;
  went = record { goes = subst Goes (sym (append-nil calls)) goes; draws = drew; puts = appends_none held };
}

module _ (s : Setup) (c : Client) (y : Connection) (w : Words) (h : List ClientEvent) (Goes : List DoorCall → Type 0) (since drawn : Option (List (Option (List ℕ))))
    (held : Option (List ℕ)) (x : Standing s c h) (goes_on : is_over s h ≡ false) (none : AreNone w) (bound later at : ℕ) (fits : Fits bound at h) where
  abbrev d : List DialEvent
  d = dialing h

  module _ (dl : Dial) (new : List DialEvent) (due : is_due d ≡ true) (fresh : bound ≤ dl.lane)
      (adds : plan.dialed s.dialing dl (told d) d ≡ new ++ d) (stands : of_connection.Stands s.dialing y (plan.dialed s.dialing dl (told d) d))
      (undrawn : has_failed_draw (plan.dialed s.dialing dl (told d) d) ≡ false)
      (calls : List DoorCall) (goes : Goes calls) (giving : list_all is_giving calls ≡ true) (silent : full_in calls ≡ [])
      (gives : given_in calls ≡ told_of.given new) (drew : AddsSome since drawn (dial.draws new)) (lanes : AreNewLanes (given_in calls) bound later) where
    abbrev k : List ClientEvent
    k = dialed new h

    to : DialsTo s.dialing dl d (plan.dialed s.dialing dl (told d) d)
    to = dials_to s.dialing dl d (told d) undrawn

    is : dialing k ≡ plan.dialed s.dialing dl (told d) d
    is = dialing_dialed new h ∙ sym adds

    new_is : new ≡ to.xs
    new_is = append_cancel_right new to.xs d (sym adds ∙ to.is)

    settings_are : settings_of s k ≡ settings_of s h
    settings_are = ap (λ z. settings_with s (told z)) is ∙ ap (λ z. settings_with s z) to.tells

    moment_is : moment k ≡ moment h
    moment_is = ap dial.moment (is ∙ to.is) ∙ moment_done to.xs d to.done

    made : IsMade (phase_of k) dl.lane
    made = by to.at
      where
        by : IsMade (phase (plan.dialed s.dialing dl (told d) d)) dl.lane → IsMade (phase_of k) dl.lane
        by (inl e) = inl (ap phase is ∙ e)
        by (inr e) = inr (ap phase is ∙ e)

    room : is_full dl.lane k ≡ false
    room = room_dialed dl.lane new h (fits.unused dl.lane fresh)

    -- it was dialed
    pub heard_dials : HasHeard s (with_connection c y) w (WentSo Goes since drawn held held) later at h
    heard_dials = record {
      opened = opened_dials s h Goes since drawn held goes_on dl new due adds calls goes giving silent gives drew;
      fed = k;
      feeds = refl;
      ticked = k;
      has_ticked = refl;
      working = record {
        standing = record {
          kept = kept_dialed s c y new h x.kept (subst (λ z. of_connection.Stands s.dialing y z) (sym is) stands) (ap has_failed_draw is ∙ undrawn);
          plays = subst (λ o. PlaysBy o c.peer (moves k) (moment k)) (sym settings_are)
              (subst (λ g. PlaysBy (settings_of s h) c.peer g (moment k)) (sym (moves_dialed new h))
              (subst (λ m. PlaysBy (settings_of s h) c.peer (moves h) m) (sym moment_is) x.plays));
          full = made_full (phase_of k) dl.lane c.full k made room;
          linked = λ on.
              ap (λ o. is_linked o (moves k)) settings_are
              ∙ (ap (λ g. is_linked (settings_of s h) g) (moves_dialed new h)
              ∙ (x.linked goes_on ∙ (down_away (phase_of h) (and_parts (is_away (phase d)) _ due).0 ∙ sym (made_down (phase_of k) dl.lane made))));
        };
        tells = tells_dialed s w new h (given k) (draws k) none refl refl;
        dropped = λ l on. none.shut;
      };
      fits = record {
        below = λ l on.
            subst (λ n. n < later) (sym (made_on (phase_of k) dl.lane l made on))
            (to.within bound later (subst (λ z. AreNewLanes (told_of.given z) bound later) new_is (subst (λ g. AreNewLanes g bound later) gives lanes)));
        unused = λ l from. room_dialed l new h (fits.unused l (let rises = bound_rises (given_in calls) bound later lanes in omega (arith, rises, from)));
        timely = subst (λ m. m ≤ at) (sym moment_is) fits.timely;
      };
    }

-- ---- it hears

pub given_linked : (s : Setup) (m : ℕ) (n : News) (k : List ClientEvent) → given (onto (linking s m n k) k) ≡ given k
given_linked s m Nothing k = refl
given_linked s m (Begins lane) k = refl
given_linked s m (Brings bytes) k = refl
given_linked s m Drains k = refl
given_linked s m Ends k = refl

pub seen_linked : (s : Setup) (m : ℕ) (n : News) (k : List ClientEvent) → seen (onto (linking s m n k) k) ≡ seen k
seen_linked s m Nothing k = refl
seen_linked s m (Begins lane) k = refl
seen_linked s m (Brings bytes) k = refl
seen_linked s m Drains k = refl
seen_linked s m Ends k = refl

pub draws_linked : (s : Setup) (m : ℕ) (n : News) (k : List ClientEvent) → draws (onto (linking s m n k) k) ≡ draws k
draws_linked s m Nothing k = refl
draws_linked s m (Begins lane) k = refl
draws_linked s m (Brings bytes) k = refl
draws_linked s m Drains k = refl
draws_linked s m Ends k = refl

-- after what was heard, and what is news of the link
abbrev pub begun_by : Setup → ℕ → Event → List DialEvent → List ClientEvent → List ClientEvent
begun_by s now e new h = onto (linking s (moment (dialed new h)) (news e (phase_of h)) (dialed new h)) (dialed new h)

-- what is told of it
abbrev pub opened_hears : (s : Setup) (h : List ClientEvent) (Goes : List DoorCall → Type 0) (since drawn : Option (List (Option (List ℕ)))) (held : Option (List ℕ))
    → is_over s h ≡ false → (dl : Dial) (new : List DialEvent) (now : ℕ) (e : Event) → is_due (dialing h) ≡ false → moment h ≤ now
    → plan.heard s.dialing dl now e (dialing h) ≡ new ++ dialing h
    → (calls : List DoorCall) → Goes (heard (wait_for s h) (record { now = now; event = e }) ∷ calls) → list_all is_giving calls ≡ true → full_in calls ≡ []
    → given_in calls ≡ told_of.given new → AddsSome since drawn (dial.draws new) → HasOpened s (WentSo Goes since drawn held held) h
opened_hears s h Goes since drawn held goes_on dl new now e undue before adds calls goes giving silent gives drew = record {
  begin = turn.Hears now e;
  may = (goes_on, λ z. (undue, before));
  begun = begun_by s now e new h;
  begins = record { dial = dl; new = new; dials = adds; is = refl };
  giving = calls;
  are_giving = giving;
  gives = given_linked s (moment (dialed new h)) (news e (phase_of h)) (dialed new h) ∙ (given_dialed new h ∙ ap (λ g. given h ++ g) (sym gives));
  answers = silent;
  sees = seen_linked s (moment (dialed new h)) (news e (phase_of h)) (dialed new h) ∙ seen_dialed new h;
  drawn = dial.draws new;
  draws_all = draws_linked s (moment (dialed new h)) (news e (phase_of h)) (dialed new h) ∙ draws_dialed new h;
  went = record {
    goes = subst Goes (sym (append-nil (heard (wait_for s h) (record { now = now; event = e }) ∷ calls))) goes;
    draws = drew;
    puts = appends_none held;
  };
}
