-- How a turn is cut short in its beginning, and what is told of it then.
use Rattle.std.proofs.Common.{◌≡◌, inl, inr, ℕ, ◌≤◌, true, false, List, [], ◌∷◌, ◌++◌, map, Option, Some, None, arith}
use Rattle.std.proofs.Common.{refl, sym, ap, subst, ◌∙◌, append_assoc}
use Rattle.std.proofs.Common.{Err}
use Rattle.std.specs.Prelude.{◌&&◌}
use Rattle.std.specs.List.{list_all}
use Rattle.std.specs.Io.KnownBytes.{Appends}
use Rattle.std.proofs.lemmas.Grind.{flat_map-append}
use Rattle.std.proofs.lemmas.List.{append-nil}
use Rattle.std.proofs.lemmas.List.Folds.{list_all-append}
use Rattle.hd_facts.specs.Prefixes.{IsPrefix}
use Rattle.hw_door.specs.Calls.{AddsSome}
use Rattle.hw_door.specs.declared.error.DoorError.{DoorError}
use Rattle.hw_door.specs.declared.error.DoorError.TheVariants as door
use Rattle.hw_door.specs.declared.heard.Event.{Event}
use Rattle.hw_door.specs.declared.heard.Event.TheVariants.{Quiet}
use Rattle.hw_door.specs.declared.heard.Given.{Given}
use Rattle.hw_door.specs.declared.heard.Given.TheVariants as give
use Rattle.hw_door.specs.DoorCalls.{DoorAsk, DoorCall, failed, heard, to_hear, to_say, given_in, given_of, is_giving}
use Rattle.hw_door.specs.DoorCalls as call
use Rattle.hd_server.specs.Plans.{onto}
use Rattle.hd_server.specs.Serving.{AreGiving}
use Rattle.hd_dialing.specs.Events.{DialEvent, Asks, Draws, GivesUp, Learns, Shuts, Stops, is_due}
use Rattle.hd_dialing.specs.Events as dial
use Rattle.hd_dialing.specs.Dialing.{MayMove, moved}
use Rattle.hd_dialing.specs.Dialing as move
use Rattle.hd_dialing.specs.Plans.{Begins, Brings, Dial, Drains, Ends, News, Nothing}
use Rattle.hd_dialing.specs.Plans as plan
use Rattle.hd_dialing.specs.Telling as telling
use Rattle.hd_client.specs.declared.order.Order.{Order}
use Rattle.hd_client.specs.Setups.{Setup}
use Rattle.hd_client.specs.Events.{ClientEvent, dialing, is_over, moment}
use Rattle.hd_client.specs.Plans.{linking}
use Rattle.hd_client.specs.Telling.{AreCutBegun, Cut, TellsBegun, Told, at_dialer, draws, given, hearing, in_work, nothing_told, wait_for}
use Rattle.hd_client.specs.Turns.{Begin, Dials, Hears, MayBegin, dialed, move_of, news_of}
use Rattle.hn_dialing.specs.Calls.{BreaksOff, Stop, TellsPart, at_memory, failed_call, fault_of}
use Rattle.hn_dialing.specs.Calls as of_connection
use Rattle.hn_dialing.specs.Stands as standing
use Rattle.hn_dialing.specs.declared.connection.Connection.{Connection}
use Rattle.hn_dialing.specs.declared.errors.DialFault.{DialFault}
use Rattle.sr_client.specs.declared.client.ClientError.TheVariants as error
use Rattle.sr_client.specs.Running.{IsCut, TurnsBy, WentSo, error_of_dial, error_of_dialer}
use Rattle.sr_client.specs.Turning.{HasOpened}

-- ---- what a beginning gives and draws

pub given_dialed : (new : List DialEvent) (h : List ClientEvent) → given (dialed new h) ≡ given h ++ telling.given new
given_dialed [] h = sym (append-nil (given h))
given_dialed (Asks lane ask ∷ new) h =
    let one = give.Ask lane ask.place ask.method ask.target ask.upgrade ∷ [] in
    ap (λ l. l ++ one) (given_dialed new h) ∙ append_assoc (given h) (telling.given new) one
given_dialed (Shuts lane ∷ new) h = ap (λ l. l ++ give.Shut lane ∷ []) (given_dialed new h) ∙ append_assoc (given h) (telling.given new) (give.Shut lane ∷ [])
given_dialed (dial.Hears now event ∷ new) h = given_dialed new h
given_dialed (Draws drawn ∷ new) h = given_dialed new h
given_dialed (Learns told ∷ new) h = given_dialed new h
given_dialed (GivesUp ∷ new) h = given_dialed new h
given_dialed (Stops ∷ new) h = given_dialed new h

pub draws_dialed : (new : List DialEvent) (h : List ClientEvent) → draws (dialed new h) ≡ draws h ++ dial.draws new
draws_dialed [] h = sym (append-nil (draws h))
draws_dialed (Draws drawn ∷ new) h = ap (λ l. l ++ drawn ∷ []) (draws_dialed new h) ∙ append_assoc (draws h) (dial.draws new) (drawn ∷ [])
draws_dialed (Asks lane ask ∷ new) h = draws_dialed new h
draws_dialed (Shuts lane ∷ new) h = draws_dialed new h
draws_dialed (dial.Hears now event ∷ new) h = draws_dialed new h
draws_dialed (Learns told ∷ new) h = draws_dialed new h
draws_dialed (GivesUp ∷ new) h = draws_dialed new h
draws_dialed (Stops ∷ new) h = draws_dialed new h

-- what is news of the link gives and draws nothing
pub given_linking : (s : Setup) (now : ℕ) (news : News) (k h : List ClientEvent) → given (onto (linking s now news k) h) ≡ given h
given_linking s now Nothing k h = refl
given_linking s now (Begins lane) k h = refl
given_linking s now (Brings bytes) k h = refl
given_linking s now Drains k h = refl
given_linking s now Ends k h = refl

pub draws_linking : (s : Setup) (now : ℕ) (news : News) (k h : List ClientEvent) → draws (onto (linking s now news k) h) ≡ draws h
draws_linking s now Nothing k h = refl
draws_linking s now (Begins lane) k h = refl
draws_linking s now (Brings bytes) k h = refl
draws_linking s now Drains k h = refl
draws_linking s now Ends k h = refl

-- ---- the calls of a whole beginning

-- calls that give these, all of which is said
abbrev giving_all : List Given → List DoorCall
giving_all gs = map (λ g. call.given g true) gs

giving_are : (gs : List Given) → AreGiving (giving_all gs)
giving_are [] = refl
giving_are (g ∷ gs) = giving_are gs

giving_given : (gs : List Given) → given_in (giving_all gs) ≡ gs
giving_given [] = refl
giving_given (g ∷ gs) = ap (λ l. g ∷ l) (giving_given gs)

both_giving : (xs ys : List DoorCall) → AreGiving xs → AreGiving ys → AreGiving (xs ++ ys)
both_giving xs ys a b = list_all-append is_giving xs ys ∙ (ap (λ x. x && list_all is_giving ys) a ∙ b)

-- ---- what cuts it short

puts_none : (held : Option (List ℕ)) → Appends held held []
puts_none None = tt
puts_none (Some xs) = sym (append-nil xs)

module _ (s : Setup) (script : List Order) (Goes : List ClientEvent → Type 0) (Went : List DoorCall → Told → Type 0) (h : List ClientEvent) where
  -- by the answer of the dialer
  at_call : (ask : DoorAsk) (why : DoorError) → IsCut s script (at_dialer ask) why Went h → TurnsBy s script Goes Went h (Err (error_of_dialer why))
  at_call ask door.Failed cut = (ask, cut)
  at_call ask door.NoMemory cut = inr (ask, cut)

  -- of a beginning these calls were told, and of its draws these
  begun_part : (b : Begin) (d : Dial) (new : List DialEvent) → MayBegin s b h → moved s.dialing (move_of b d) (dialing h) ≡ new ++ dialing h
      → (cut : Cut) (calls giving : List DoorCall) (drawn : List (Option (List ℕ))) → AreGiving giving → given_in giving ≡ telling.given new
      → AreCutBegun cut calls (hearing s b h ++ giving) → IsPrefix drawn (dial.draws new)
      → TellsBegun s cut h (record { calls = calls; drawn = drawn; printed = [] })
  begun_part b d new may moves cut calls giving drawn are all within first = record {
    begin = b;
    may = may;
    begun = onto (linking s (moment (dialed new h)) (news_of b h) (dialed new h)) (dialed new h);
    begins = record { dial = d; new = new; dials = moves; is = refl };
    giving = giving;
    are_giving = are;
    gives =
        given_linking s (moment (dialed new h)) (news_of b h) (dialed new h) (dialed new h)
        ∙ (given_dialed new h ∙ ap (λ l. given h ++ l) (sym all));
    calls = within;
    drawn = dial.draws new;
    draws_all = draws_linking s (moment (dialed new h)) (news_of b h) (dialed new h) (dialed new h) ∙ draws_dialed new h;
    draws_more = first;
    prints = refl;
  }

  -- a call on the connection broke off
  pub broken : (b : Begin) (d : Dial) (new : List DialEvent) → MayBegin s b h → moved s.dialing (move_of b d) (dialing h) ≡ new ++ dialing h
      → (Own : List DoorCall → Type 0) (Drew : List (Option (List ℕ)) → Type 0) (stop : Stop) (t : TellsPart new Own Drew stop)
      → Went (failed_call stop) (record { calls = hearing s b h ++ t.calls; drawn = t.drawn; printed = [] })
      → TurnsBy s script Goes Went h (Err (error_of_dial (fault_of stop)))
  broken b d new may moves Own Drew at_memory t went = inl (record {
    told = record { calls = hearing s b h ++ t.calls; drawn = t.drawn; printed = [] };
    tells = inl (begun_part b d new may moves in_work (hearing s b h ++ t.calls) (t.calls ++ giving_all t.gives.0) t.drawn
        (both_giving t.calls (giving_all t.gives.0) t.giving (giving_are t.gives.0))
        (flat_map-append given_of t.calls (giving_all t.gives.0) ∙ (ap (λ l. given_in t.calls ++ l) (giving_given t.gives.0)
        ∙ (sym (ap (λ l. l ++ t.gives.0) (append-nil (given_in t.calls))) ∙ t.gives.1)))
        (giving_all t.gives.0, append_assoc (hearing s b h) t.calls (giving_all t.gives.0)) t.draws_first);
    went = went;
  })
  broken b d new may moves Own Drew (of_connection.at_dialer next why) t went = by_why why went
    where
      part : TellsBegun s (at_dialer (to_say next)) h (record { calls = hearing s b h ++ t.calls; drawn = t.drawn; printed = [] })
      part =
          begun_part b d new may moves (at_dialer (to_say next)) (hearing s b h ++ t.calls) (t.calls ++ call.given next true ∷ giving_all t.gives.0) t.drawn
          (both_giving t.calls (call.given next true ∷ giving_all t.gives.0) t.giving (giving_are t.gives.0))
          (flat_map-append given_of t.calls (call.given next true ∷ giving_all t.gives.0) ∙ (ap (λ l. given_in t.calls ++ next ∷ l) (giving_given t.gives.0)
          ∙ (sym (append_assoc (given_in t.calls) (next ∷ []) t.gives.0) ∙ t.gives.1))) (
            call.given next true,
            refl,
            (
              giving_all t.gives.0,
              append_assoc (hearing s b h ++ t.calls) (call.given next true ∷ []) (giving_all t.gives.0)
                  ∙ append_assoc (hearing s b h) t.calls (call.given next true ∷ giving_all t.gives.0),
            ),
          ) t.draws_first

      by_why : (why : DoorError) → Went (failed (to_say next) why ∷ []) (record { calls = hearing s b h ++ t.calls; drawn = t.drawn; printed = [] })
          → TurnsBy s script Goes Went h (Err (error_of_dial (of_connection.fault_by why)))
      by_why door.Failed w = (to_say next, record { told = record { calls = hearing s b h ++ t.calls; drawn = t.drawn; printed = [] }; tells = inl part; went = w })
      by_why door.NoMemory w = inr (to_say next, record { told = record { calls = hearing s b h ++ t.calls; drawn = t.drawn; printed = [] }; tells = inl part; went = w })

  -- memory ran out once it had begun
  pub no_memory : HasOpened s Went h → TurnsBy s script Goes Went h (Err error.NoMemory)
  no_memory o = inl (record {
    told = record { calls = hearing s o.begin h ++ o.giving; drawn = o.drawn; printed = [] };
    tells = inl (record {
      begin = o.begin;
      may = o.may;
      begun = o.begun;
      begins = o.begins;
      giving = o.giving;
      are_giving = o.are_giving;
      gives = o.gives;
      calls = ([], append-nil (hearing s o.begin h ++ o.giving));
      drawn = o.drawn;
      draws_all = o.draws_all;
      draws_more = ([], append-nil o.drawn);
      prints = refl;
    });
    went = o.went;
  })

module _ (s : Setup) (script : List Order) (Goes : List ClientEvent → Type 0) (h : List ClientEvent) (drawn since : Option (List (Option (List ℕ)))) (held : Option (List ℕ))
    (over : is_over s h ≡ false) where
  -- the dialer failed when it was to hear
  pub next_failed : (Calls : List DoorCall → Type 0) (wait : ℕ) (why : DoorError) → is_due (dialing h) ≡ false → wait ≡ wait_for s h → Calls (failed (to_hear wait) why ∷ [])
      → AddsSome drawn since [] → TurnsBy s script Goes (WentSo Calls drawn since held held) h (Err (error_of_dialer why))
  next_failed Calls wait why due waited goes none =
      at_call s script Goes (WentSo Calls drawn since held held) h (to_hear wait) why (record {
        told = nothing_told;
        tells = inl (begun_part s script Goes (WentSo Calls drawn since held held) h (Hears (moment h) Quiet) (record { lane = 0; key = None; seed = None })
            (dial.Hears (moment h) Quiet ∷ []) (over, λ d. (due, omega arith)) refl (at_dialer (to_hear wait)) [] [] [] refl refl
            (heard (wait_for s h) (record { now = moment h; event = Quiet }), ap (λ n. Some (to_hear n)) (sym waited), ([], refl)) ([], refl));
        went = record { goes = goes; draws = none; puts = puts_none held };
      })

  module _ (c : Connection) (stands : standing.Stands s.dialing c (dialing h)) (New : List DoorCall → Type 0) (Count : List (Option (List ℕ)) → Type 0) (d : Dial)
      (why : DialFault) where
    -- it was dialed, and that broke off
    pub dial_broke : (Calls : List DoorCall → Type 0) → is_due (dialing h) ≡ true
        → BreaksOff (MayMove (move.Dials d)) (λ z. moved z (move.Dials d)) c (λ calls. Calls calls × New calls) (λ some. AddsSome drawn since some × Count some) why
        → TurnsBy s script Goes (WentSo Calls drawn since held held) h (Err (error_of_dial why))
    dial_broke Calls due b =
        subst (λ w. TurnsBy s script Goes (WentSo Calls drawn since held held) h (Err (error_of_dial w))) (sym b.cause)
        (broken s script Goes (WentSo Calls drawn since held held) h Dials d b.new (over, λ e. due) (b.adds s.dialing (dialing h) stands due)
        (λ calls. Calls calls × New calls) (λ some. AddsSome drawn since some × Count some) b.stop b.tells
        (record { goes = b.tells.goes.0; draws = b.tells.drew.0; puts = puts_none held }))

    -- it heard, and what it did about that broke off
    pub hear_broke : (First Then Both : List DoorCall → Type 0) → ((x y : List DoorCall) → First x → Then y → Both (x ++ y)) → (wait now : ℕ) (event : Event)
        → is_due (dialing h) ≡ false → wait ≡ wait_for s h → moment h ≤ now → First (heard wait (record { now = now; event = event }) ∷ [])
        → BreaksOff (λ k. dial.moment k ≤ now) (λ z k. plan.heard z d now event k) c (λ calls. Then calls × New calls)
        (λ some. AddsSome drawn since some × Count some) why
        → TurnsBy s script Goes (WentSo Both drawn since held held) h (Err (error_of_dial why))
    hear_broke First Then Both join wait now event due waited later goes b =
        subst (λ w. TurnsBy s script Goes (WentSo Both drawn since held held) h (Err (error_of_dial w))) (sym b.cause)
        (broken s script Goes (WentSo Both drawn since held held) h (Hears now event) d b.new (over, λ e. (due, later)) (b.adds s.dialing (dialing h) stands later)
        (λ calls. Then calls × New calls) (λ some. AddsSome drawn since some × Count some) b.stop b.tells
        (record {
          goes = join (heard (wait_for s h) (record { now = now; event = event }) ∷ []) (b.tells.calls ++ failed_call b.stop)
              (subst (λ n. First (heard n (record { now = now; event = event }) ∷ [])) waited goes) b.tells.goes.0;
          draws = b.tells.drew.0;
          puts = puts_none held;
        }))
