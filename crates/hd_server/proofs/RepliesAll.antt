-- A server answers each request once, and leaves none without a reply but the polls that it holds.
use Rattle.std.proofs.Common.{refl, ap, subst, sym, ◌∙◌, ◌≡◌, ℕ, suc, ◌≤◌, Bool, true, false, List, [], ◌∷◌, ◌++◌, Option, Some, None, arith, if◌then◌else◌}
use Rattle.std.specs.Prelude.{map, is_some, not, unwrap_or, option_map, ◌&&◌}
use Rattle.std.proofs.lemmas.Bool.{or_left}
use Rattle.hd_delivery.specs.Histories.{is_this}
use Rattle.hd_calls.specs.Hubs.{Hub}
use Rattle.hw_door.specs.declared.heard.Event.{Event}
use Rattle.hw_door.specs.declared.heard.Event.TheVariants as event
use Rattle.hw_door.specs.declared.heard.Heard.{Heard}
use Rattle.hd_server.specs.declared.vocabulary.Life.TheVariants.{Unknown, Fresh, Ending}
use Rattle.hd_server.specs.Lives.{Opened, is_known, is_polling, life_of, life_of_some, made, past, poll_ended, poll_of, socket_of, standing}
use Rattle.hd_server.specs.Table.{outcome}
use Rattle.hd_server.specs.Machine.{Rounds, connections, has_gone, settings_of}
use Rattle.hd_server.specs.Doings.{ServerEvent, Hears, Works, Sees, notes, work, moment, has_peer}
use Rattle.hd_server.specs.Plans.{Setup, onto, expiries, questions, conn_on, poller_on, losing_lane, named_conn, facts, plan, giving_way}
use Rattle.hd_server.specs.Serves.{IsFed, IsFree, IsTurn, Serves, ticks, all_flushing}
use Rattle.hd_server.specs.Parts.{Each}
use Rattle.hd_server.specs.Laws.{EachRequestIsAnswered}
use Rattle.hd_server.proofs.Flushing.{is_in}
use Rattle.hd_server.proofs.Seeing.{Stays, one_stays}
use Rattle.hd_server.proofs.OrderlyNotes.{Known, known_of_life, once_opened, within}
use Rattle.hd_server.proofs.OrderlyDoings.{Settled, IsQuiet}
use Rattle.hd_server.proofs.OrderlyExpiries.{expired_settled}
use Rattle.hd_server.proofs.OrderlyPlans.{asks, asked_settled, named_known, plan_settled, gave_way}
use Rattle.hd_server.proofs.Orderly.{nothing_done, orderly_stays, round_quiet}
use Rattle.hd_server.proofs.RepliesSent.{outcome_sent}
use Rattle.hd_server.proofs.RepliesLanes.{Holds, calm_holds, calm_onto}
use Rattle.hd_server.proofs.RepliesPlans.{Named}
use Rattle.hd_server.proofs.RepliesTurns.{finds, there_of, expiries_calm, questions_calm}
use Rattle.hd_server.proofs.RepliesOwn.{Alike, alike_same, own_alike, Own, quiet_onto}
use Rattle.hd_server.proofs.RepliesPhases.{fresh_of, ending_of}
use Rattle.hd_server.proofs.RepliesOwnPlans.{all_fed, loses_own, poll_loses_own, request_own}
use Rattle.hd_server.proofs.RepliesOwnFlushed.{Both, done_alike}
use Rattle.hd_server.proofs.RepliesExpired.{expired_both}
use Rattle.hd_server.proofs.RepliesHandled.{Hearing, Needs, hearing_calm, heard_lanes, handled_lanes}
use Rattle.hd_server.proofs.RepliesServed.{Sound, all_among, sound_after}
use Rattle.hd_server.proofs.RepliesSeats.{Seats, less_seats, less_onto, less_after, expiries_less, questions_less, works_less, ticks_less, all_less}
use Rattle.hd_server.proofs.RepliesSeated.{IsOff, Seating, seating_less, heard_seats, handled_seats}

none_of : {A : Type 0} (o : Option A) → (is_some o ≡ true → ⊥) → o ≡ None
none_of None f = refl
none_of (Some x) f = absurd (f refl)

clashes : (b : Bool) → b ≡ false → b ≡ true → ⊥
clashes b e f = absurd (let z : false ≡ true = sym e ∙ f in cc)

-- ---- what is known where no moment has come unnoted

module _ {most : ℕ} (now : ℕ) (h : List ServerEvent) (ok : Settled most now h) (both : (k : ℕ) → Both k h) where
  life_is : (c : ℕ) → life_of c now (notes h) ≡ standing c (notes h)
  life_is c = ap (λ b. if b then past (standing c (notes h)) else standing c (notes h)) (ok.young c)

  not_polling : (c : ℕ) → is_polling c (notes h) ≡ false → poll_of c (notes h) ≡ None
  not_polling c e =
      none_of (poll_of c (notes h)) (λ f. clashes (is_polling c (notes h)) e (or_left (is_some (poll_of c (notes h))) (is_some (poll_ended c (notes h))) f))

  -- one that has no peer stands nowhere and holds no poll
  absent : (c : ℕ) → Known c (notes h) → is_some (settings_of c (work h)) ≡ false → IsOff c h
  absent c u none =
      let own = (both c).0 in
      let away : has_peer c h ≡ false = ap (λ b. b && not (has_gone c (work h))) none in (
        none_of (socket_of c (notes h)) (λ e. clashes (has_peer c h) away (own.sits u e)),
        none_of (poll_of c (notes h))
            (λ e. clashes (has_peer c h) away (own.there u (or_left (is_some (poll_of c (notes h))) (is_some (poll_ended c (notes h))) e))),
      )

  named_off : (c : ℕ) (o : Option ℕ) → unwrap_or o 0 ≡ c → is_known (life_of_some o now (notes h)) ≡ true → is_some (settings_of c (work h)) ≡ false
      → IsOff c h
  named_off c o same known none = absent c (subst (λ x. Known x (notes h)) same (named_known o now h known)) none

  -- the next connection
  next_off : IsOff (suc (made (notes h))) h
  next_off =
      let k : ℕ = suc (made (notes h)) in
      let blank = (both k).0.unmade (omega arith) in
      (none_of (socket_of k (notes h)) (λ e. clashes (is_some (socket_of k (notes h))) blank.stands_not e), not_polling k blank.no_poll)

  named_is : (o : Option ℕ) → Named (unwrap_or o 0) (life_of_some o now (notes h)) h
  named_is None = record {
    never_begun = λ k e. absurd (let z : false ≡ true = k in cc);
    polls_there = λ k e. absurd (let z : false ≡ true = k in cc);
    fresh = λ f. absurd (let z : Unknown ≡ Fresh = f in cc);
    done = λ f. absurd (let z : Unknown ≡ Ending = f in cc);
    next = next_off.1;
  }
  named_is (Some c) = record {
    never_begun = λ k e. (absent c (known_of_life c now (notes h) k) e).1;
    polls_there = λ k e.
        (both c).0.there (known_of_life c now (notes h) k) (or_left (is_some (poll_of c (notes h))) (is_some (poll_ended c (notes h))) e);
    fresh = λ f. not_polling c (fresh_of c (notes h) (sym (life_is c) ∙ f)).0;
    done = λ f.
        let ends : standing c (notes h) ≡ Ending = sym (life_is c) ∙ f in
        (both c).1 (ap is_known ends) (ending_of c (notes h) ends);
    next = next_off.1;
  }

  needs : (e : Event) → Seating e h → Needs now e h
  needs (event.Request lane r) seats = named_is (named_conn r h)
  needs (event.Lost lane) seats = record { among = all_among now h ok; clash = seats.clash }
  needs (event.Refused lane refusal) seats = tt
  needs (event.Bytes lane bytes) seats = tt
  needs (event.Response lane status body) seats = tt
  needs (event.Upgraded lane) seats = tt
  needs (event.Drained lane) seats = tt
  needs event.Quiet seats = tt

  -- ---- what holds of each connection by itself, after what is done about an event

  lived : (o : Option ℕ) → is_known (life_of_some o now (notes h)) ≡ true
      → (standing (unwrap_or o 0) (notes h) ≡ life_of_some o now (notes h)) × (unwrap_or o 0 ≤ made (notes h))
  lived None k = absurd (let z : false ≡ true = k in cc)
  lived (Some c) k = (sym (life_is c), (within most (notes h) ok.in_order c (known_of_life c now (notes h) k)).1)

  known_on : (c : ℕ) → is_in c (connections (work h)) ≡ true → Known c (notes h) × (c ≤ made (notes h))
  known_on c i = let u = ok.peers c (there_of h c i) in (u, (within most (notes h) ok.in_order c u).1)

  losing_own : (lane : ℕ) (a b : Option ℕ) → conn_on lane h ≡ a → poller_on lane h ≡ b → (k : ℕ) → Own k (onto (losing_lane a b lane now h) h)
  losing_own lane (Some c) b e f k =
      let known = known_on c (finds (λ j. is_this lane (socket_of j (notes h))) (connections (work h)) c e).1 in
      loses_own c lane now h known.0 known.1 (λ j. (both j).0) k
  losing_own lane None (Some c) e f k =
      let known = known_on c (finds (λ j. is_this lane (option_map (λ poll. poll.0) (poll_of j (notes h)))) (connections (work h)) c f).1 in
      poll_loses_own c lane now h known.0 known.1 (λ j. (both j).0) k
  losing_own lane None None e f k = (both k).0

  -- the next connection is known once it is opened, also after one gave way
  new_known : (s : Setup) → s.live ≡ most → let g = onto (giving_way s now h) h in Known (suc (made (notes g))) (Opened (suc (made (notes g))) now ∷ notes g)
  new_known s same =
      let g : List ServerEvent = onto (giving_way s now h) h in
      let ok_g = gave_way s now h (subst (λ m. Settled m now h) (sym same) ok) in
      once_opened (suc (made (notes g))) (notes g) now (ok_g.made_first (suc (made (notes g))) (omega arith))

  handled_own : (s : Setup) → s.live ≡ most → (e : Event) (name : Option (Option (List ℕ))) (drawn : Option (List ℕ)) (fed : List ServerEvent)
      → IsFed now (plan s now e name drawn h).food (onto (plan s now e name drawn h).first h) fed
      → (k : ℕ) → Own k (onto (plan s now e name drawn h).last fed)
  handled_own s same (event.Request lane r) name drawn fed e k =
      let f = facts s now r name (not (is_some drawn)) h in
      request_own s now lane r drawn (unwrap_or (named_conn r h) 0) h (λ j. (both j).0) (new_known s same) f.life (lived (named_conn r h))
      (outcome s.base r f) (outcome_sent s.base r f) fed e k
  handled_own s same (event.Lost lane) name drawn fed e k = subst (Own k) (sym e) (losing_own lane (conn_on lane h) (poller_on lane h) refl refl k)
  handled_own s same (event.Bytes lane bytes) name drawn fed e k = all_fed now _ h fed e (λ j. (both j).0) k
  handled_own s same (event.Refused lane refusal) name drawn fed e k = subst (Own k) (sym e) (both k).0
  handled_own s same (event.Response lane status body) name drawn fed e k = subst (Own k) (sym e) (both k).0
  handled_own s same (event.Upgraded lane) name drawn fed e k = subst (Own k) (sym e) (both k).0
  handled_own s same (event.Drained lane) name drawn fed e k = subst (Own k) (sym e) (both k).0
  handled_own s same event.Quiet name drawn fed e k = subst (Own k) (sym e) (both k).0

-- ---- a turn

-- what holds between events
record Whole (most : ℕ) (h : List ServerEvent) : Type 0 where
  sound : Sound most h
  seats : Seats None None h

hears_alike : (k now : ℕ) (e : Event) (h : List ServerEvent) → Alike k h (Hears now e ∷ h)
hears_alike k now e h =
    record { same_notes = (alike_same k h).same_notes; more = omega arith; same_settings = refl; same_gone = refl; closed_still = λ f. f }

module _ {Job : Type 0} (hub : Hub Job) (s : Setup) (now : ℕ) (e : Event) (h after : List ServerEvent) (turn : IsTurn hub s now e h after)
    (later : moment h ≤ now) (free : IsFree e h) (was : Whole s.live h) where
  abbrev heard : List ServerEvent
  heard = Hears now e ∷ h

  expired_ok : Settled s.live now turn.expired
  expired_ok =
      let o = was.sound.ordered in
      subst (Settled s.live now) (sym turn.expires)
      (expired_settled now heard o.in_order (let last = o.not_later in omega (arith, later, last)) refl o.peers o.made_first)

  asked_ok : Settled s.live now turn.asked
  asked_ok = subst (Settled s.live now) (sym turn.asks) (asked_settled s now e turn.name turn.drawn turn.expired expired_ok)

  fed_as : IsFed now (plan s now e turn.name turn.drawn turn.asked).food (onto (plan s now e turn.name turn.drawn turn.asked).first turn.asked) turn.fed
  fed_as = subst (λ begun. IsFed now (plan s now e turn.name turn.drawn turn.asked).food begun turn.fed) turn.begins turn.feeds

  handled_ok : Settled s.live now turn.handled
  handled_ok = subst (Settled s.live now) (sym turn.handles) (plan_settled s now e turn.name turn.drawn turn.asked turn.fed asked_ok fed_as)

  asked_both : (k : ℕ) → Both k turn.asked
  asked_both k =
      let at_heard : (j : ℕ) → Both j heard
      = λ j. (own_alike j h heard (hears_alike j now e h) (was.sound.own j), done_alike j h heard (hears_alike j now e h) (was.sound.done j)) in
      let expired : Both k turn.expired = subst (Both k) (sym turn.expires) (expired_both now heard at_heard k) in
      let more : List ServerEvent = questions s now e turn.name turn.drawn turn.expired in
      let a = quiet_onto k more turn.expired (asks s now e turn.name turn.drawn turn.expired) in
      subst (Both k) (sym turn.asks)
      (own_alike k turn.expired (onto more turn.expired) a expired.0, done_alike k turn.expired (onto more turn.expired) a expired.1)

  heard_hearing : Hearing e heard
  heard_hearing = heard_lanes now e h free was.sound.lanes

  asked_hearing : Hearing e turn.asked
  asked_hearing =
      let expired : Hearing e turn.expired
      = subst (Hearing e) (sym turn.expires)
      (hearing_calm e heard (onto (expiries now heard) heard) (calm_onto (expiries now heard) heard (expiries_calm now heard)) heard_hearing) in
      let more : List ServerEvent = questions s now e turn.name turn.drawn turn.expired in
      subst (Hearing e) (sym turn.asks)
      (hearing_calm e turn.expired (onto more turn.expired)
      (calm_onto more turn.expired (questions_calm s now e turn.name turn.drawn turn.expired)) expired)

  asked_seating : Seating e turn.asked
  asked_seating =
      let expired : Seating e turn.expired
      = subst (Seating e) (sym turn.expires)
      (seating_less e heard (onto (expiries now heard) heard) (less_onto (expiries now heard) heard (expiries_less now heard))
      (heard_seats now e h free heard_hearing was.seats)) in
      let more : List ServerEvent = questions s now e turn.name turn.drawn turn.expired in
      subst (Seating e) (sym turn.asks)
      (seating_less e turn.expired (onto more turn.expired)
      (less_onto more turn.expired (questions_less s now e turn.name turn.drawn turn.expired)) expired)

  lanes_handled : Holds None None turn.handled
  lanes_handled =
      subst (Holds None None) (sym turn.handles)
      (handled_lanes s now e turn.name turn.drawn turn.asked turn.fed asked_hearing (needs now turn.asked asked_ok asked_both e asked_seating) fed_as)

  own_handled : (k : ℕ) → Own k turn.handled
  own_handled k = subst (Own k) (sym turn.handles) (handled_own now turn.asked asked_ok asked_both s refl e turn.name turn.drawn turn.fed fed_as k)

  seats_after : Seats None None after
  seats_after =
      let handled : Seats None None turn.handled
      = subst (Seats None None) (sym turn.handles)
      (handled_seats s now e turn.name turn.drawn turn.asked turn.fed asked_seating (named_off now turn.asked asked_ok asked_both)
      (next_off now turn.asked asked_ok asked_both) (all_among now turn.asked asked_ok) fed_as) in
      let ticking : List ServerEvent = ticks now turn.handled in
      let ticked : Seats None None turn.ticked
      = subst (Seats None None) (sym turn.has_ticked)
      (less_seats None None turn.handled (onto ticking turn.handled) (less_onto ticking turn.handled (ticks_less now turn.handled)) handled) in
      let begun : List ServerEvent = Works (Rounds now) ∷ turn.ticked in
      let words : Each IsQuiet (map Works turn.round) = round_quiet now turn.round (Rounds now ∷ work turn.ticked) turn.rounds.each in
      let stepped : Seats None None turn.stepped
      = subst (Seats None None) (sym turn.has_stepped)
      (less_seats None None begun (map Works turn.round ++ begun) (less_after (map Works turn.round) begun (works_less turn.round words))
      (less_seats None None turn.ticked begun (less_onto (Works (Rounds now) ∷ []) turn.ticked (tt, tt)) ticked)) in
      let told : List ServerEvent = all_flushing s now (connections (work turn.stepped)) turn.pieces turn.stepped in
      subst (Seats None None) (sym turn.tells)
      (less_seats None None turn.stepped (onto told turn.stepped)
      (less_onto told turn.stepped (all_less s now (connections (work turn.stepped)) turn.pieces turn.stepped)) stepped)

  whole_after : Whole s.live after
  whole_after = record { sound = sound_after hub s now e h after turn handled_ok lanes_handled own_handled; seats = seats_after }

-- what is seen after it
whole_stays : {most : ℕ} → Stays (Whole most)
whole_stays lane full h was =
    let sight : List ServerEvent = Sees lane full ∷ [] in
    let a : (k : ℕ) → Alike k h (Sees lane full ∷ h) = λ k. quiet_onto k sight h (tt, tt) in
    record {
      sound = record {
        lanes = calm_holds None None h (Sees lane full ∷ h) (calm_onto sight h (tt, tt)) was.sound.lanes;
        own = λ k. own_alike k h (Sees lane full ∷ h) (a k) (was.sound.own k);
        done = λ k. done_alike k h (Sees lane full ∷ h) (a k) (was.sound.done k);
        ordered = orderly_stays lane full h was.sound.ordered;
      };
      seats = less_seats None None h (Sees lane full ∷ h) (less_onto sight h (tt, tt)) was.seats;
    }

-- ---- the whole of it

nothing_whole : {most : ℕ} → Whole most []
nothing_whole = record {
  sound = record {
    lanes = record {
      told = tt;
      waits = λ l e f. absurd (let z : false ≡ true = e in cc);
      asked = λ l e. absurd (let z : false ≡ true = e in cc);
      held = λ c l t p e f. absurd (let z : false ≡ true = p in cc);
      free = λ c l t p e. refl;
      apart = λ c k l t u p q e f. absurd (let z : false ≡ true = p in cc);
    };
    own = λ k. record {
      there = λ u e. absurd (let z : false ≡ true = u in cc);
      sits = λ u e. absurd (let z : false ≡ true = u in cc);
      not_gone = λ u. refl;
      no_socket = λ u e. absurd (let z : false ≡ true = u in cc);
      ended_polls = λ u e. absurd (let z : false ≡ true = u in cc);
      ended_closed = λ u e. absurd (let z : false ≡ true = u in cc);
      unmade = λ over. record { no_poll = refl; stands_not = refl; ends_not = refl; goes_not = refl };
    };
    done = λ k u e. refl;
    ordered = nothing_done;
  };
  seats = record {
    raised = λ c l p e f. absurd (let z : false ≡ true = p in cc);
    plain = λ l e. absurd (let z : false ≡ true = e in cc);
    free = λ c l t p e. refl;
    alone = λ c k l p q e f. absurd (let z : false ≡ true = p in cc);
    clash = λ c k l t p q e f. absurd (let z : false ≡ true = p in cc);
  };
}

whole : {Job : Type 0} → (hub : Hub Job) (s : Setup) (es : List Heard) (h : List ServerEvent) → Serves hub s es h → Whole s.live h
whole hub s [] h e = subst (Whole s.live) (sym e) nothing_whole
whole hub s (e ∷ es) h (before, serves, may, one) =
    one_stays (Whole s.live) whole_stays hub s e before h one
    (whole_after hub s e.now e.event before one.turned one.turn may.0 may.1 (whole hub s es before serves))

pub each_request_is_answered : {Job : Type 0} → EachRequestIsAnswered Job
each_request_is_answered hub s es h serves =
    let lanes = (whole hub s es h serves).sound.lanes in
    (lanes.told, λ lane e. lanes.waits lane e refl)
