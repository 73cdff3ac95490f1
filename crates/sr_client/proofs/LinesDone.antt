-- What the lines of its script make of a client.
use Rattle.std.proofs.Common.{◌≡◌, ◌≤◌, ℕ, zero, suc, Bool, true, false, not, ◌&&◌, ◌||◌, List, [], ◌∷◌, ◌++◌, length, Option, Some, None, is_some, refl, sym, ◌∙◌, ap, subst, arith, true≢false, append_assoc, nat_eq}
use Rattle.std.specs.Prelude.{slice_get, if◌then◌else◌}
use Rattle.std.proofs.lemmas.List.{append-nil}
use Rattle.hd_delivery.specs.Histories as of
use Rattle.hd_delivery.specs.declared.vocabulary.Reason.TheVariants as reason
use Rattle.hd_delivery.specs.Histories.{Closed, Detached, is_shaken, present_link}
use Rattle.hd_delivery.specs.Bytes.{Does as Step_of}
use Rattle.hd_calls.specs.Peers.{PeerEvent, Plain, Settings, is_shut, steps}
use Rattle.hd_server.specs.Plans.{onto}
use Rattle.hd_dialing.specs.Events as dial
use Rattle.hd_dialing.specs.Plans.{shut}
use Rattle.hd_dialing.specs.Asks as asks
use Rattle.hd_dialing.specs.Dialing.{Drops, moved}
use Rattle.hw_door.specs.declared.heard.Given.TheVariants as give
use Rattle.hn_dialing.specs.Calls.{shut_of}
use Rattle.hn_dialing.specs.Stands as of_connection
use Rattle.hd_dialing.specs.Events.{DialEvent, Shuts, Phase, Away, Negotiates, Upgrades, Stands, Over, is_on, is_up}
use Rattle.hd_client.specs.declared.order.Order.{Order}
use Rattle.hd_client.specs.Setups.{Setup}
use Rattle.hd_client.specs.Events.{ClientEvent, Dialed, Makes, Passes, has_closed, has_shaken, is_full, is_over, is_shaken_with, is_shut_with, moment, moves, passed, phase_of, settings_of, dialing}
use Rattle.hd_client.specs.Plans.{closing, does, doing, doing_some, dropping, has_live, losing, next_line, obeys}
use Rattle.hd_client.specs.Printed.{line_with, move_line, printed}
use Rattle.hd_client.specs.Turns.{LinesDone}
use Rattle.hd_client.specs.Telling.{given}
use Rattle.sr_client.specs.declared.client.Client.{Client}
use Rattle.sr_client.specs.declared.client.Words.{Words}
use Rattle.sr_client.specs.declared.peer.ClientPeer.{ClientPeer}
use Rattle.sr_client.specs.Lines.{json_words}
use Rattle.sr_client.specs.Peers.{Goes, OfEach, Plays, leaving}
use Rattle.sr_client.specs.Obeying.{IsKept, IsPassed, LineDone, Moved, Refused, Waited, events_of, told_by}
use Rattle.sr_client.specs.Clients.{Before, IsFullBy, PlaysBy, Working, is_linked, message_given, shut_given, words_given}

-- ---- its peer

-- its peer was begun, and stands for its moves
pub record HasPeer (s : Setup) (p : ClientPeer) (h : List ClientEvent) : Type 0 where
  pub settings : Settings
  pub begun : settings_of s h ≡ Some settings
  pub plays : Plays settings p (moves h)
  pub timely : of.moment (steps settings (moves h)) ≤ moment h

pub has_peer : (s : Setup) (h : List ClientEvent) (o : Option ClientPeer) (p : ClientPeer) → o ≡ Some p → PlaysBy (settings_of s h) o (moves h) (moment h) → HasPeer s p h
has_peer s h o p is plays = by (settings_of s h) refl (subst (λ x. PlaysBy (settings_of s h) x (moves h) (moment h)) is plays) where
  by : (t : Option Settings) → settings_of s h ≡ t → PlaysBy t (Some p) (moves h) (moment h) → HasPeer s p h
  by None e plays = absurd plays
  by (Some t) e plays = record { settings = t; begun = e; plays = plays.0; timely = plays.1 }

pub no_peer : (s : Setup) (h : List ClientEvent) (o : Option ClientPeer) → o ≡ None → PlaysBy (settings_of s h) o (moves h) (moment h) → settings_of s h ≡ None
no_peer s h o is plays = by (settings_of s h) refl (subst (λ x. PlaysBy (settings_of s h) x (moves h) (moment h)) is plays) where
  by : (t : Option Settings) → settings_of s h ≡ t → PlaysBy t None (moves h) (moment h) → settings_of s h ≡ None
  by None e plays = e
  by (Some t) e plays = absurd plays

-- ---- whether lines are done

false_with : (a : Bool) → (a && false) ≡ false
false_with true = refl
false_with false = refl

pub not_obeyed_over : (s : Setup) (h : List ClientEvent) → dial.is_over (phase_of h) ≡ true → obeys s h ≡ false
not_obeyed_over s h over = ap (λ b. has_shaken s h && not (b || has_closed s h)) over ∙ false_with (has_shaken s h)

pub not_obeyed_unbegun : (s : Setup) (h : List ClientEvent) → settings_of s h ≡ None → obeys s h ≡ false
not_obeyed_unbegun s h none = ap (λ (o : Option Settings). is_shaken_with o (moves h) && not (is_over s h)) none

pub obeyed_ready : (s : Setup) (h : List ClientEvent) (t : Settings) → settings_of s h ≡ Some t → dial.is_over (phase_of h) ≡ false
    → obeys s h ≡ (is_shaken (steps t (moves h)) && not (is_shut t (moves h)))
obeyed_ready s h t begun going =
    ap (λ b. has_shaken s h && not (b || has_closed s h)) going
    ∙ ap (λ (o : Option Settings). is_shaken_with o (moves h) && not (is_shut_with o (moves h))) begun

-- while lines are done the client isn't over
pub obeyed_open : (s : Setup) (h : List ClientEvent) → obeys s h ≡ true → is_over s h ≡ false
obeyed_open s h e = by (has_shaken s h) (is_over s h) e where
  by : (a b : Bool) → (a && not b) ≡ true → b ≡ false
  by true true e = absurd (true≢false (sym e))
  by true false e = refl
  by false b e = absurd (true≢false (sym e))

-- ---- the next line

pub line_is : (s : Setup) (script : List Order) (h : List ClientEvent) (t : Settings) (order : Order) (r : Option (List ClientEvent)) → obeys s h ≡ true → settings_of s h ≡ Some t
    → slice_get script (passed h) ≡ Some order → doing t order h ≡ r → next_line s script h ≡ r
line_is s script h t order r e begun at does =
    ap (λ (b : Bool). if b then doing_some (settings_of s h) (slice_get script (passed h)) h else None) e
    ∙ ap (λ (o : Option Settings). doing_some o (slice_get script (passed h)) h) begun
    ∙ ap (λ (o : Option Order). doing_some (Some t) o h) at ∙ does

pub none_obeyed : (s : Setup) (script : List Order) (h : List ClientEvent) → obeys s h ≡ false → next_line s script h ≡ None
none_obeyed s script h e = ap (λ (b : Bool). if b then doing_some (settings_of s h) (slice_get script (passed h)) h else None) e

pub none_left : (s : Setup) (script : List Order) (h : List ClientEvent) → slice_get script (passed h) ≡ None → next_line s script h ≡ None
none_left s script h e =
    ap (λ (o : Option Order). if obeys s h then doing_some (settings_of s h) o h else None) e ∙ by (obeys s h) (settings_of s h) where
      by : (b : Bool) (o : Option Settings) → (if b then doing_some o None h else None) ≡ None
      by true (Some t) = refl
      by true None = refl
      by false o = refl

-- ---- one line

-- whether the lane that is up is full, as before
full_as : (ph : Phase) (full : Bool) (h after : List ClientEvent) → ((lane : ℕ) → is_full lane after ≡ is_full lane h) → IsFullBy ph full h → IsFullBy ph full after
full_as (Stands lane) full h after same is = is ∙ sym (same lane)
full_as (Upgrades lane) full h after same is = same lane ∙ is
full_as (Negotiates lane) full h after same is = tt
full_as Away full h after same is = tt
full_as Over full h after same is = tt

module _ (s : Setup) (b : Before) (c new : Client) (w words : Words) (h : List ClientEvent) (p : ClientPeer) (t : Settings) (begun : settings_of s h ≡ Some t)
    (timely : of.moment (steps t (moves h)) ≤ moment h) (working : Working s b c w h) where
  -- the line of a move, as the definitions print it
  line_of : (m : PeerEvent) → line_with s.words (settings_of s h) (moves h) m ≡ move_line json_words t (moves h) m
  line_of m = ap (λ (o : Option Settings). line_with s.words o (moves h) m) begun ∙ ap (λ x. move_line x t (moves h) m) working.standing.kept.words

  told_more : (text : List ℕ) → words.printed.items ≡ w.printed.items ++ text → printed s h ++ text ≡ b.printed ++ words.printed.items
  told_more text told = ap (λ (xs : List ℕ). xs ++ text) working.tells.prints ∙ append_assoc b.printed w.printed.items text ∙ ap (λ (xs : List ℕ). b.printed ++ xs) (sym told)

  -- a line that is passed
  pub line_passed : (done : LineDone) → is_over s h ≡ false → IsPassed t (moves h) p w.printed.items words.printed.items done
      → new ≡ record c { peer = Some p; passed = suc c.passed } → words ≡ record w { printed = words.printed } → Working s b new words (onto (events_of done) h)
  line_passed (Moved m) unended is same same_words = subst (λ x. Working s b x words (onto (events_of (Moved m)) h)) (sym same) (record {
    standing = record {
      kept = record { codec = working.standing.kept.codec; limits = working.standing.kept.limits; wire = working.standing.kept.wire; words = working.standing.kept.words; dialed = working.standing.kept.dialed; undrawn = working.standing.kept.undrawn; passed = ap suc working.standing.kept.passed; closed = working.standing.kept.closed ∙ sym is.unclosed; uploads = is.uploads };
      plays = subst (λ (o : Option Settings). PlaysBy o (Some p) (m ∷ moves h) (moment h)) (sym begun) (is.plays, subst (λ k. k ≤ moment h) (sym is.stays.moment) timely);
      full = full_as (phase_of h) c.full h (onto (events_of (Moved m)) h) (λ lane. refl) working.standing.full;
      linked = λ still. subst (λ (o : Option Settings). is_linked o (m ∷ moves h) ≡ is_up (phase_of h)) (sym begun)
          (ap is_some is.stays.link ∙ subst (λ (o : Option Settings). is_linked o (moves h) ≡ is_up (phase_of h)) begun (working.standing.linked unended));
    };
    tells = record { gives = working.tells.gives ∙ ap (λ x. b.given ++ words_given x) (sym same_words); draws = working.tells.draws; sees = working.tells.sees; prints = ap (λ (xs : List ℕ). printed s h ++ xs) (line_of m) ∙ told_more (told_by t (Moved m) (moves h)) is.told };
    dropped = λ lane on. ap (λ (x : Words). x.shut) same_words ∙ working.dropped lane on;
  })
  line_passed (Refused why) unended is same same_words = subst (λ x. Working s b x words (onto (events_of (Refused why)) h)) (sym same) (record {
    standing = record {
      kept = record { codec = working.standing.kept.codec; limits = working.standing.kept.limits; wire = working.standing.kept.wire; words = working.standing.kept.words; dialed = working.standing.kept.dialed; undrawn = working.standing.kept.undrawn; passed = ap suc working.standing.kept.passed; closed = working.standing.kept.closed; uploads = working.standing.kept.uploads };
      plays = subst (λ (o : Option Settings). PlaysBy o (Some p) (moves h) (moment h)) (sym begun) (is.plays, timely);
      full = full_as (phase_of h) c.full h (onto (events_of (Refused why)) h) (λ lane. refl) working.standing.full;
      linked = working.standing.linked;
    };
    tells = record { gives = working.tells.gives ∙ ap (λ x. b.given ++ words_given x) (sym same_words); draws = working.tells.draws; sees = working.tells.sees; prints = told_more (told_by t (Refused why) (moves h)) is.told };
    dropped = λ lane on. ap (λ (x : Words). x.shut) same_words ∙ working.dropped lane on;
  })
  line_passed Waited unended is same same_words = subst (λ x. Working s b x words (onto (events_of Waited) h)) (sym same) (record {
    standing = record {
      kept = record { codec = working.standing.kept.codec; limits = working.standing.kept.limits; wire = working.standing.kept.wire; words = working.standing.kept.words; dialed = working.standing.kept.dialed; undrawn = working.standing.kept.undrawn; passed = ap suc working.standing.kept.passed; closed = working.standing.kept.closed; uploads = working.standing.kept.uploads };
      plays = subst (λ (o : Option Settings). PlaysBy o (Some p) (moves h) (moment h)) (sym begun) (is.plays, timely);
      full = full_as (phase_of h) c.full h (onto (events_of Waited) h) (λ lane. refl) working.standing.full;
      linked = working.standing.linked;
    };
    tells = record { gives = working.tells.gives ∙ ap (λ x. b.given ++ words_given x) (sym same_words); draws = working.tells.draws; sees = working.tells.sees; prints = sym (append-nil (printed s h)) ∙ told_more [] is.told };
    dropped = λ lane on. ap (λ (x : Words). x.shut) same_words ∙ working.dropped lane on;
  })

  -- a line that waits
  pub line_kept : IsKept t (moves h) p w.printed.items words.printed.items → new ≡ record c { peer = Some p } → words ≡ record w { printed = words.printed }
      → Working s b new words h
  line_kept is same same_words = subst (λ x. Working s b x words h) (sym same) (record {
    standing = record {
      kept = record { codec = working.standing.kept.codec; limits = working.standing.kept.limits; wire = working.standing.kept.wire; words = working.standing.kept.words; dialed = working.standing.kept.dialed; undrawn = working.standing.kept.undrawn; passed = working.standing.kept.passed; closed = working.standing.kept.closed; uploads = working.standing.kept.uploads };
      plays = subst (λ (o : Option Settings). PlaysBy o (Some p) (moves h) (moment h)) (sym begun) (is.plays, timely);
      full = working.standing.full;
      linked = working.standing.linked;
    };
    tells = record { gives = working.tells.gives ∙ ap (λ x. b.given ++ words_given x) (sym same_words); draws = working.tells.draws; sees = working.tells.sees; prints = working.tells.prints ∙ ap (λ (xs : List ℕ). b.printed ++ xs) (sym is.told) };
    dropped = λ lane on. ap (λ (x : Words). x.shut) same_words ∙ working.dropped lane on;
  })

-- once what a line does was done, it is passed
pub passes : (s : Setup) (b : Before) (c : Client) (w : Words) (h : List ClientEvent) → Working s b c w h → Working s b (record c { passed = suc c.passed }) w (Passes ∷ h)
passes s b c w h working = record {
  standing = record {
    kept = record { codec = working.standing.kept.codec; limits = working.standing.kept.limits; wire = working.standing.kept.wire; words = working.standing.kept.words; dialed = working.standing.kept.dialed; undrawn = working.standing.kept.undrawn; passed = ap suc working.standing.kept.passed; closed = working.standing.kept.closed; uploads = working.standing.kept.uploads };
    plays = working.standing.plays;
    full = full_as (phase_of h) c.full h (Passes ∷ h) (λ lane. refl) working.standing.full;
    linked = working.standing.linked;
  };
  tells = record { gives = working.tells.gives; draws = working.tells.draws; sees = working.tells.sees; prints = working.tells.prints };
  dropped = working.dropped;
}

pub onto_more : (xs : List ClientEvent) (x : ClientEvent) (h : List ClientEvent) → onto (xs ++ x ∷ []) h ≡ x ∷ onto xs h
onto_more [] x h = refl
onto_more (y ∷ xs) x h = onto_more xs x (y ∷ h)

-- ---- lines

-- these lines were done, one after the other
abbrev pub AreDone : Setup → List Order → List (List ClientEvent) → List ClientEvent → List ClientEvent → Type 0
AreDone s script [] h after = after ≡ h
AreDone s script (xs ∷ more) h after = (next_line s script h ≡ Some xs) × AreDone s script more (onto xs h) after

pub one_more : (s : Setup) (script : List Order) (lines : List (List ClientEvent)) (h mid : List ClientEvent) (xs : List ClientEvent) → AreDone s script lines h mid
    → next_line s script mid ≡ Some xs → AreDone s script (lines ++ xs ∷ []) h (onto xs mid)
one_more s script [] h mid xs are next = (subst (λ k. next_line s script k ≡ Some xs) are next, ap (λ k. onto xs k) are)
one_more s script (ys ∷ lines) h mid xs are next = (are.0, one_more s script lines (onto ys h) mid xs are.1 next)

pub all_done : (s : Setup) (script : List Order) (lines : List (List ClientEvent)) (h after : List ClientEvent) → AreDone s script lines h after
    → next_line s script after ≡ None → LinesDone s script lines h after
all_done s script [] h after are none = (subst (λ k. next_line s script k ≡ None) are none, are)
all_done s script (xs ∷ lines) h after are none = (are.0, all_done s script lines (onto xs h) after are.1 none)

-- ---- a link that is given up

same_lane : (n : ℕ) → nat_eq n n ≡ true
same_lane n = grind (arith)

module _ (s : Setup) (b : Before) (c new : Client) (w words : Words) (h : List ClientEvent) (t : Settings) (p q : ClientPeer) (now : ℕ) (was : Bool)
    (working : Working s b c w h) (unended : is_over s h ≡ false) (begun : settings_of s h ≡ Some t) (peer_is : c.peer ≡ Some p) (now_is : now ≡ c.connection.moment)
    (detaches : OfEach p (λ u k. of.moment (steps u k) ≤ now → (was ≡ is_some (present_link (steps u k))) × Goes u k q w.printed.items words.printed.items (leaving u k now)))
    (lost : was ≡ true) (drops : (d : asks.Setup) (k : List DialEvent) → of_connection.Stands d c.connection k
    → (moved d Drops k ≡ shut_of words.shut ++ k) × of_connection.Stands d new.connection (moved d Drops k))
    (lane_is : words.shut ≡ of_connection.lane_in (of_connection.phase_of c.connection.phase))
    (same : new ≡ record c { connection = new.connection; peer = Some q }) (same_words : words ≡ record w { shut = words.shut; printed = words.printed }) where
  plays_here : Plays t p (moves h) × (of.moment (steps t (moves h)) ≤ moment h)
  plays_here = subst (λ (o : Option Settings). PlaysBy o (Some p) (moves h) (moment h)) begun
      (subst (λ (o : Option ClientPeer). PlaysBy (settings_of s h) o (moves h) (moment h)) peer_is working.standing.plays)

  at_moment : now ≡ moment h
  at_moment = now_is ∙ working.standing.kept.dialed.heard

  left : (was ≡ is_some (present_link (steps t (moves h)))) × Goes t (moves h) q w.printed.items words.printed.items (leaving t (moves h) now)
  left = detaches t (moves h) plays_here.0 (subst (λ n. of.moment (steps t (moves h)) ≤ n) (sym at_moment) plays_here.1)

  attached : is_some (present_link (steps t (moves h))) ≡ true
  attached = sym left.0 ∙ lost

  up : is_up (phase_of h) ≡ true
  up = sym (working.standing.linked unended) ∙ ap (λ (o : Option Settings). is_linked o (moves h)) begun ∙ attached

  abbrev detached : PeerEvent
  detached = Plain (Step_of (Detached (moment h)))

  goes : Goes t (moves h) q w.printed.items words.printed.items (detached ∷ [])
  goes = subst (λ ms. Goes t (moves h) q w.printed.items words.printed.items ms)
      (ap (λ (x : Bool). if x then Plain (Step_of (Detached now)) ∷ [] else []) attached ∙ ap (λ n. Plain (Step_of (Detached n)) ∷ []) at_moment) left.1

  told : printed s h ++ line_with s.words (settings_of s h) (moves h) detached ≡ b.printed ++ words.printed.items
  told =
      ap (λ (xs : List ℕ). printed s h ++ xs)
      (ap (λ (o : Option Settings). line_with s.words o (moves h) detached) begun ∙ ap (λ x. move_line x t (moves h) detached) working.standing.kept.words)
      ∙ ap (λ (xs : List ℕ). xs ++ move_line json_words t (moves h) detached) working.tells.prints
      ∙ append_assoc b.printed w.printed.items (move_line json_words t (moves h) detached)
      ∙ ap (λ (xs : List ℕ). b.printed ++ xs) (sym goes.appended)

  on_lane : (lane : ℕ) → phase_of h ≡ Stands lane → Working s b new words (onto (losing t h) h)
  on_lane lane e = subst (λ xs. Working s b new words (onto xs h)) (sym losing_is) (subst (λ x. Working s b x words after) (sym same) working_on) where
    after : List ClientEvent
    after = Dialed (Shuts lane) ∷ Makes detached ∷ h

    losing_is : losing t h ≡ Makes detached ∷ Dialed (Shuts lane) ∷ []
    losing_is = ap (λ (x : Bool). if x then Makes detached ∷ dropping (phase_of h) else []) attached ∙ ap (λ x. Makes detached ∷ dropping x) e

    shut_is : shut (phase_of h) (dialing h) ≡ Shuts lane ∷ dialing h
    shut_is = ap (λ x. shut x (dialing h)) e

    away : phase_of after ≡ Away
    away = ap (λ x. dial.left lane x) e ∙ ap (λ (x : Bool). if x then Away else Stands lane) (same_lane lane)

    shut_told : give.Shut lane ∷ [] ≡ shut_given words.shut
    shut_told = sym (ap (λ o. shut_given o) (lane_is ∙ ap (λ x. of_connection.lane_in x) (working.standing.kept.dialed.is_at ∙ e)))

    none_before : w.shut ≡ None
    none_before = working.dropped lane (ap (λ x. is_on lane x) e ∙ same_lane lane)

    given_on : given h ++ give.Shut lane ∷ [] ≡ b.given ++ words_given words
    given_on =
        ap (λ xs. xs ++ give.Shut lane ∷ []) working.tells.gives
        ∙ ap (λ o. (b.given ++ (message_given w.lane w.message.items w.text ++ shut_given o)) ++ give.Shut lane ∷ []) none_before
        ∙ ap (λ xs. (b.given ++ xs) ++ give.Shut lane ∷ []) (append-nil (message_given w.lane w.message.items w.text))
        ∙ append_assoc b.given (message_given w.lane w.message.items w.text) (give.Shut lane ∷ [])
        ∙ ap (λ xs. b.given ++ (message_given w.lane w.message.items w.text ++ xs)) shut_told
        ∙ ap (λ x. b.given ++ words_given x) (sym same_words)

    working_on : Working s b (record c { connection = new.connection; peer = Some q }) words after
    working_on = record {
      standing = record {
        kept = record {
          codec = working.standing.kept.codec;
          limits = working.standing.kept.limits;
          wire = working.standing.kept.wire;
          words = working.standing.kept.words;
          dialed = subst (λ k. of_connection.Stands s.dialing new.connection k) shut_is (drops s.dialing (dialing h) working.standing.kept.dialed).1;
          undrawn = working.standing.kept.undrawn;
          passed = working.standing.kept.passed;
          closed = working.standing.kept.closed;
          uploads = working.standing.kept.uploads;
        };
        plays = subst (λ (o : Option Settings). PlaysBy o (Some q) (detached ∷ moves h) (moment h)) (sym begun) (goes.plays, omega (arith, plays_here.1));
        full = subst (λ ph. IsFullBy ph c.full after) (sym away) tt;
        linked = λ still. ap (λ (o : Option Settings). is_linked o (detached ∷ moves h)) begun ∙ sym (ap is_up away);
      };
      tells = record { gives = given_on; draws = working.tells.draws; sees = working.tells.sees; prints = told };
      dropped = λ k risen. absurd (true≢false (sym risen ∙ ap (λ x. is_on k x) away));
    }

  pub link_lost : Working s b new words (onto (losing t h) h)
  link_lost = by (phase_of h) refl up where
    by : (ph : Phase) → phase_of h ≡ ph → is_up ph ≡ true → Working s b new words (onto (losing t h) h)
    by (Stands lane) e is = on_lane lane e
    by Away e is = absurd (true≢false (sym is))
    by (Negotiates lane) e is = absurd (true≢false (sym is))
    by (Upgrades lane) e is = absurd (true≢false (sym is))
    by Over e is = absurd (true≢false (sym is))

-- ---- the end of the script

pub get_past : (xs : List Order) (n : ℕ) → length xs ≤ n → slice_get xs n ≡ None
get_past [] n past = refl
get_past (x ∷ xs) zero past = absurd (omega arith)
get_past (x ∷ xs) (suc n) past = get_past xs n (omega arith)

-- while a call is live the end isn't closed
pub waits_for_calls : (s : Setup) (script : List Order) (h : List ClientEvent) → has_live (moves h) ≡ true → closing s script h ≡ []
waits_for_calls s script h live = by (obeys s h) (is_some (slice_get script (passed h))) (has_live (moves h)) live where
  by : (x y z : Bool) → z ≡ true → (if x && (not y && not z) then does (Closed reason.Done false) ∷ [] else []) ≡ []
  by true true true e = refl
  by true false true e = refl
  by false y true e = refl
  by x y false e = absurd (true≢false (sym e))

pub closes : (s : Setup) (script : List Order) (h : List ClientEvent) → obeys s h ≡ true → slice_get script (passed h) ≡ None → has_live (moves h) ≡ false
    → closing s script h ≡ does (Closed reason.Done false) ∷ []
closes s script h obeyed past none =
    ap (λ (x : Bool). if x && (not (is_some (slice_get script (passed h))) && not (has_live (moves h))) then does (Closed reason.Done false) ∷ [] else []) obeyed
    ∙ ap (λ (o : Option Order). if not (is_some o) && not (has_live (moves h)) then does (Closed reason.Done false) ∷ [] else []) past
    ∙ ap (λ (x : Bool). if not x then does (Closed reason.Done false) ∷ [] else []) none

-- a client of which only its peer is named anew
pub same_peer : (s : Setup) (b : Before) (c new : Client) (w : Words) (h : List ClientEvent) (p : ClientPeer) → c.peer ≡ Some p → new ≡ record c { peer = Some p }
    → Working s b c w h → Working s b new w h
same_peer s b c new w h p is same working = subst (λ x. Working s b x w h) (sym (same ∙ ap (λ (o : Option ClientPeer). record c { peer = o }) (sym is))) working

-- its end is closed
pub closed_end : (s : Setup) (b : Before) (c new : Client) (w : Words) (h : List ClientEvent) (p q : ClientPeer) (t : Settings) → Working s b c w h → settings_of s h ≡ Some t
    → of.moment (steps t (moves h)) ≤ moment h → is_over s h ≡ false → Plays t q (Plain (Step_of (Closed reason.Done false)) ∷ moves h)
    → new ≡ record c { peer = Some q; has_closed = true } → Working s b new w (does (Closed reason.Done false) ∷ h)
closed_end s b c new w h p q t working begun timely unended plays same = subst (λ x. Working s b x w (Makes close ∷ h)) (sym same) (record {
  standing = record {
    kept = record {
      codec = working.standing.kept.codec;
      limits = working.standing.kept.limits;
      wire = working.standing.kept.wire;
      words = working.standing.kept.words;
      dialed = working.standing.kept.dialed;
      undrawn = working.standing.kept.undrawn;
      passed = working.standing.kept.passed;
      closed = refl;
      uploads = working.standing.kept.uploads;
    };
    plays = subst (λ (o : Option Settings). PlaysBy o (Some q) (close ∷ moves h) (moment h)) (sym begun) (plays, timely);
    full = full_as (phase_of h) c.full h (Makes close ∷ h) (λ lane. refl) working.standing.full;
    linked = λ still. subst (λ (o : Option Settings). is_linked o (close ∷ moves h) ≡ is_up (phase_of h)) (sym begun)
        (subst (λ (o : Option Settings). is_linked o (moves h) ≡ is_up (phase_of h)) begun (working.standing.linked unended));
  };
  tells = record {
    gives = working.tells.gives;
    draws = working.tells.draws;
    sees = working.tells.sees;
    prints = ap (λ (o : Option Settings). printed s h ++ line_with s.words o (moves h) close) begun ∙ append-nil (printed s h) ∙ working.tells.prints;
  };
  dropped = working.dropped;
}) where
  close : PeerEvent
  close = Plain (Step_of (Closed reason.Done false))

-- an end that isn't over is open
pub unshut : (s : Setup) (h : List ClientEvent) (t : Settings) → settings_of s h ≡ Some t → is_over s h ≡ false → is_shut t (moves h) ≡ false
unshut s h t begun unended = by (dial.is_over (phase_of h)) (has_closed s h) refl unended where
  by : (x y : Bool) → has_closed s h ≡ y → (x || y) ≡ false → is_shut t (moves h) ≡ false
  by true y e over = absurd (true≢false over)
  by false y e over = sym (ap (λ (o : Option Settings). is_shut_with o (moves h)) begun) ∙ e ∙ over
