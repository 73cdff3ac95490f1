-- What a client's parts come to once all that is due is said on its lane, or nothing is.
use Rattle.std.proofs.Common.{◌≡◌, ℕ, ◌<◌, Bool, true, false, not, ◌&&◌, List, [], ◌∷◌, ◌++◌, length, Option, Some, None, is_some}
use Rattle.std.proofs.Common.{refl, sym, ap, subst, ◌∙◌, arith, true≢false}
use Rattle.std.specs.Prelude.{IfSome, if◌then◌else◌}
use Rattle.std.proofs.lemmas.Bool.{eq-eqb}
use Rattle.std.proofs.lemmas.List.{append-nil}
use Rattle.hd_delivery.specs.Frames.{LinkFrame}
use Rattle.hd_delivery.specs.Histories.{Lent}
use Rattle.hd_delivery.specs.Bytes.{Does as Step_of}
use Rattle.hd_calls.specs.Peers.{PeerEvent, Plain, Settings, steps}
use Rattle.hw_door.specs.declared.heard.Given.{Given}
use Rattle.hw_door.specs.declared.heard.Given.TheVariants as give
use Rattle.hd_server.specs.Plans.{onto}
use Rattle.hd_server.specs.Serves.{LendsAll, all_of, is_text}
use Rattle.hd_dialing.specs.Events.{Phase, Away, Negotiates, Upgrades, Stands, Over, is_on, is_up, phase}
use Rattle.hd_client.specs.Setups.{Setup}
use Rattle.hd_client.specs.Events.{ClientEvent, Says, dialing, has_closed, is_full, moment, moves, phase_of, settings_of}
use Rattle.hd_client.specs.Plans.{leaving}
use Rattle.hd_client.specs.Telling.{given}
use Rattle.hd_client.specs.Turns.{AreDueBy, AreDueOn, bytes_of, is_withheld, lending, moving, telling, telling_on, writing}
use Rattle.hn_dialing.specs.Stands.{phase_of as phase_by}
use Rattle.hn_dialing.specs.declared.phase.Phase as code
use Rattle.hn_dialing.specs.declared.phase.Phase.TheVariants as codes_of
use Rattle.sr_client.specs.declared.client.Client.{Client}
use Rattle.sr_client.specs.declared.client.Words.{Words}
use Rattle.sr_client.specs.declared.peer.ClientPeer.{ClientPeer}
use Rattle.sr_client.specs.Clients.{Before, IsFullBy, Working, message_given, shut_given, words_given}
use Rattle.sr_client.specs.Peers.{Plays, SaysAll, is_any, lends}
use Rattle.sr_client.specs.Turning.{AreAllDue, SaysDue, SaysIn}
use Rattle.sr_client.proofs.Keeping.{closed_moving, keeps_lends, working_kept}
use Rattle.sr_client.proofs.Parts.{Played, full_as, onto_both, onto_moves, with_peer}
use Rattle.sr_client.proofs.Printed.{dialing_moving}

-- ---- nothing

telling_none : (q : Phase) (o : Option Settings) (h : List ClientEvent) → telling_on q o [] h ≡ []
telling_none (Stands lane) (Some t) h = refl
telling_none (Stands lane) None h = refl
telling_none Away o h = refl
telling_none (Negotiates lane) o h = refl
telling_none (Upgrades lane) o h = refl
telling_none Over o h = refl

none_due : (q : Phase) (o : Option Settings) (h : List ClientEvent) → ((lane : ℕ) → q ≡ Stands lane → o ≡ None) → AreAllDue q o [] h
none_due (Stands lane) (Some t) h not = absurd (true≢false (ap is_some (not lane refl)))
none_due (Stands lane) None h not = refl
none_due Away o h not = refl
none_due (Negotiates lane) o h not = refl
none_due (Upgrades lane) o h not = refl
none_due Over o h not = refl

-- no lane is up
pub not_up : (q : code.Phase) → ((lane : ℕ) → q ≡ codes_of.Stands lane → ⊥) → (lane : ℕ) → phase_by q ≡ Stands lane → ⊥
not_up (codes_of.Stands l) not lane e = not l refl
not_up codes_of.Away not lane e = true≢false (sym (ap is_up e))
not_up (codes_of.Negotiates l) not lane e = true≢false (sym (ap is_up e))
not_up (codes_of.Upgrades l) not lane e = true≢false (sym (ap is_up e))
not_up codes_of.Over not lane e = true≢false (sym (ap is_up e))

-- without a lane that is up, or without a peer, nothing is said
pub says_none : (s : Setup) (b : Before) (c : Client) (w : Words) (h : List ClientEvent) → Working s b c w h → w.lane ≡ None
    → ((lane : ℕ) → phase_of h ≡ Stands lane → settings_of s h ≡ None) → SaysDue s b c w h
says_none s b c w h x none not = record {
  pieces = [];
  due = none_due (phase_of h) (settings_of s h) h not;
  count = sym (ap (λ y. if is_some y then 1 else 0) none);
  on = subst (λ y. IfSome y (λ lane. phase_of h ≡ Stands lane)) (sym none) tt;
  working = subst (λ es. Working s b c w (onto es h)) (sym (telling_none (phase_of h) (settings_of s h) h)) x;
}

-- ---- a message

-- what is said is the message, where nothing was
gives_message : (b : Before) (w now : Words) (lane : ℕ) (bytes : List ℕ) (text : Bool) (g : List Given) → w.lane ≡ None → w.shut ≡ None → now.lane ≡ Some lane
    → now.message.items ≡ bytes → now.text ≡ text → now.shut ≡ w.shut → g ≡ b.given ++ words_given w
    → g ++ give.Bytes lane bytes text ∷ [] ≡ b.given ++ words_given now
gives_message b w now lane bytes text g none kept on is_bytes is_text same is =
    ap (λ x. x ++ give.Bytes lane bytes text ∷ [])
    (is
    ∙ (ap (λ o. b.given ++ (message_given o w.message.items w.text ++ shut_given w.shut)) none
    ∙ (ap (λ o. b.given ++ shut_given o) kept ∙ append-nil b.given)))
    ∙ sym (ap (λ o. b.given ++ (message_given o now.message.items now.text ++ shut_given now.shut)) on
    ∙ (ap (λ m. b.given ++ (message_given (Some lane) m now.text ++ shut_given now.shut)) is_bytes
    ∙ (ap (λ x. b.given ++ (message_given (Some lane) bytes x ++ shut_given now.shut)) is_text
    ∙ ap (λ o. b.given ++ (message_given (Some lane) bytes text ++ shut_given o)) (same ∙ kept))))

working_says : (s : Setup) (b : Before) (c : Client) (w now : Words) (k : List ClientEvent) (lane : ℕ) (bytes : List ℕ) (text : Bool) → Working s b c w k
    → phase_of k ≡ Stands lane → w.lane ≡ None → now.lane ≡ Some lane → now.message.items ≡ bytes → now.text ≡ text → now.shut ≡ w.shut
    → now.printed.items ≡ w.printed.items → Working s b c now (Says lane bytes text ∷ k)
working_says s b c w now k lane bytes text x up none on is_bytes is_text same printed =
    let kept = x.standing.kept in
    record {
      standing = record {
        kept = record {
          codec = kept.codec;
          limits = kept.limits;
          wire = kept.wire;
          words = kept.words;
          dialed = kept.dialed;
          undrawn = kept.undrawn;
          passed = kept.passed;
          closed = kept.closed;
          uploads = kept.uploads;
        };
        plays = x.standing.plays;
        full = full_as (phase_of k) (phase_of k) c.full k (Says lane bytes text ∷ k) refl (λ l. refl) x.standing.full;
        linked = x.standing.linked;
      };
      tells = record {
        gives = gives_message b w now lane bytes text (given k) none (x.dropped lane (ap (λ q. is_on lane q) up ∙ eq-eqb lane lane refl)) on is_bytes
            is_text same x.tells.gives;
        draws = x.tells.draws;
        sees = x.tells.sees;
        prints = x.tells.prints ∙ ap (λ y. b.printed ++ y) (sym printed);
      };
      dropped = λ l at. same ∙ x.dropped l at;
    }

-- ---- all that is due

some_frame : (fs : List LinkFrame) → is_any fs ≡ true → 0 < length fs
some_frame [] e = absurd (true≢false (sym e))
some_frame (f ∷ fs) e = omega arith

no_frame : (fs : List LinkFrame) → is_any fs ≡ false → fs ≡ []
no_frame [] e = refl
no_frame (f ∷ fs) e = absurd (true≢false e)

-- in one message
one_message : (t : Settings) (lane : ℕ) (fs : List LinkFrame) (h : List ClientEvent)
    → onto (telling_on (Stands lane) (Some t) (fs ∷ []) h) h ≡ Says lane (bytes_of t fs h) (is_text t.config (steps t (moves h))) ∷ moving (lends fs) h
one_message t lane fs h =
    let said = Says lane (bytes_of t fs h) (is_text t.config (steps t (moves h))) in
    onto_both (lending (fs ++ [])) (said ∷ []) h
    ∙ (ap (λ gs. said ∷ onto (lending gs) h) (append-nil fs)
    ∙ ap (λ k. said ∷ k) (onto_moves (λ f. Plain (Step_of (Lent f))) fs h))

module _ (s : Setup) (b : Before) (c : Client) (p old : ClientPeer) (w now : Words) (h : List ClientEvent) (lane : ℕ) (x : Working s b c w h)
    (up : phase_of h ≡ Stands lane) (played : Played (settings_of s h) old (moves h) (moment h)) (none : w.lane ≡ None) (empty : w.message.items ≡ [])
    (any : Bool) (says : (t : Settings) (g : List PeerEvent) → Plays t old g → SaysAll t g p any w.message.items now.message.items)
    (shut : now.shut ≡ w.shut) (printed : now.printed.items ≡ w.printed.items) where
  abbrev t : Settings
  t = played.settings

  all : SaysAll t (moves h) p any w.message.items now.message.items
  all = says t (moves h) played.plays

  there : (pieces : List (List LinkFrame)) → telling_on (phase_of h) (settings_of s h) pieces h ≡ telling_on (Stands lane) (Some t) pieces h
  there pieces =
      ap (λ q. telling_on q (settings_of s h) pieces h) up ∙ ap (λ o. telling_on (Stands lane) o pieces h) played.begun

  due_there : (pieces : List (List LinkFrame)) → AreDueBy false t pieces h → AreAllDue (phase_of h) (settings_of s h) pieces h
  due_there pieces due =
      subst (λ q. AreAllDue q (settings_of s h) pieces h) (sym up) (subst (λ o. AreAllDue (Stands lane) o pieces h) (sym played.begun) due)

  lent : (z : Words) → words_given z ≡ words_given w → z.shut ≡ w.shut → z.printed.items ≡ w.printed.items
      → Working s b (with_peer c p) z (moving (lends all.frames) h)
  lent z same shut printed =
      working_kept s b t c p w z (lends all.frames) h x played.begun (keeps_lends t all.frames (moves h))
      (record {
        plays = all.plays;
        appended = printed ∙ sym (ap (λ y. w.printed.items ++ y) all.silent ∙ append-nil w.printed.items);
      }) played.timely same shut

  -- something was due, and is said
  pub says_message : any ≡ true → now.lane ≡ Some lane → ((t : Settings) (g : List PeerEvent) → Plays t old g → now.text ≡ is_text t.config (steps t g))
      → SaysDue s b (with_peer c p) now h
  says_message is on text =
      let pieces : List (List LinkFrame) = all.frames ∷ [] in
      record {
        pieces = pieces;
        due = due_there pieces (
          (some_frame all.frames (sym all.some ∙ is), tt),
          subst (λ fs. LendsAll t.config (steps t (moves h)) fs) (sym (append-nil all.frames)) all.due,
        );
        count = sym (ap (λ y. if is_some y then 1 else 0) on);
        on = subst (λ y. IfSome y (λ l. phase_of h ≡ Stands l)) (sym on) up;
        working = subst (λ k. Working s b (with_peer c p) now k) (sym (ap (λ es. onto es h) (there pieces) ∙ one_message t lane all.frames h))
            (working_says s b (with_peer c p) w now (moving (lends all.frames) h) lane (bytes_of t all.frames h) (is_text t.config (steps t (moves h)))
            (lent w refl refl refl) (ap phase (dialing_moving (lends all.frames) h) ∙ up) none on
            (all.bytes ∙ ap (λ y. y ++ bytes_of t all.frames h) empty) (text t (moves h) played.plays) shut printed);
      }

  -- nothing was
  pub says_nothing : any ≡ false → now.lane ≡ None → SaysDue s b (with_peer c p) now h
  says_nothing is off =
      let gone : all.frames ≡ [] = no_frame all.frames (sym all.some ∙ is) in
      let same : words_given now ≡ words_given w =
      ap (λ o. message_given o now.message.items now.text ++ shut_given now.shut) off
      ∙ (ap shut_given shut ∙ sym (ap (λ o. message_given o w.message.items w.text ++ shut_given w.shut) none)) in
      record {
        pieces = [];
        due = due_there [] (tt, subst (λ fs. LendsAll t.config (steps t (moves h)) fs) gone all.due);
        count = sym (ap (λ y. if is_some y then 1 else 0) off);
        on = subst (λ y. IfSome y (λ l. phase_of h ≡ Stands l)) (sym off) tt;
        working = subst (λ es. Working s b (with_peer c p) now (onto es h)) (sym (there []))
            (subst (λ fs. Working s b (with_peer c p) now (moving (lends fs) h)) gone (lent now same shut printed));
      }

-- ---- and then its connection is left

-- events that neither dial nor close its end
record Stays (s : Setup) (h k : List ClientEvent) : Type 0 where
  dialed : dialing k ≡ dialing h
  closed : has_closed s k ≡ has_closed s h

says_stay : (s : Setup) (t : Settings) (lane : ℕ) (ps : List (List LinkFrame)) (h k : List ClientEvent) → Stays s k (onto (writing t lane ps h) k)
says_stay s t lane [] h k = record { dialed = refl; closed = refl }
says_stay s t lane (p ∷ ps) h k =
    let more = says_stay s t lane ps h (Says lane (bytes_of t p h) (is_text t.config (steps t (moves h))) ∷ k) in
    record { dialed = more.dialed; closed = more.closed }

telling_stays : (s : Setup) (q : Phase) (o : Option Settings) (ps : List (List LinkFrame)) (h : List ClientEvent) → settings_of s h ≡ o
    → Stays s h (onto (telling_on q o ps h) h)
telling_stays s (Stands lane) (Some t) ps h begun =
    let k = onto (lending (all_of ps)) h in
    let later = says_stay s t lane ps h k in
    let lent = onto_moves (λ f. Plain (Step_of (Lent f))) (all_of ps) h in
    let both = onto_both (lending (all_of ps)) (writing t lane ps h) h in
    record {
      dialed = ap dialing both ∙ (later.dialed ∙ (ap dialing lent ∙ dialing_moving (lends (all_of ps)) h));
      closed = ap (λ y. has_closed s y) both
          ∙ (later.closed ∙ (ap (λ y. has_closed s y) lent
          ∙ closed_moving s t (lends (all_of ps)) h begun (keeps_lends t (all_of ps) (moves h)).shut));
    }
telling_stays s (Stands lane) None ps h begun = record { dialed = refl; closed = refl }
telling_stays s Away o ps h begun = record { dialed = refl; closed = refl }
telling_stays s (Negotiates lane) o ps h begun = record { dialed = refl; closed = refl }
telling_stays s (Upgrades lane) o ps h begun = record { dialed = refl; closed = refl }
telling_stays s Over o ps h begun = record { dialed = refl; closed = refl }

due_on : (s : Setup) (q : Phase) (o : Option Settings) (ps : List (List LinkFrame)) (h : List ClientEvent)
    → ((lane : ℕ) → q ≡ Stands lane → is_withheld s lane h ≡ false) → AreAllDue q o ps h → AreDueOn s q o ps h
due_on s (Stands lane) (Some t) ps h not due = subst (λ held. AreDueBy held t ps h) (sym (not lane refl)) due
due_on s (Stands lane) None ps h not due = due
due_on s Away o ps h not due = due
due_on s (Negotiates lane) o ps h not due = due
due_on s (Upgrades lane) o ps h not due = due
due_on s Over o ps h not due = due

none_on : (s : Setup) (q : Phase) (o : Option Settings) (h : List ClientEvent) → ((lane : ℕ) → q ≡ Stands lane → is_withheld s lane h ≡ true)
    → AreDueOn s q o [] h
none_on s (Stands lane) (Some t) h held = subst (λ held. AreDueBy held t [] h) (sym (held lane refl)) refl
none_on s (Stands lane) None h held = refl
none_on s Away o h held = refl
none_on s (Negotiates lane) o h held = refl
none_on s (Upgrades lane) o h held = refl
none_on s Over o h held = refl

-- a closed end says all, and its connection is left
pub says_closed : (s : Setup) (b : Before) (c new : Client) (w now : Words) (h : List ClientEvent) → SaysDue s b c w h → has_closed s h ≡ true
    → ((k : List ClientEvent) → Working s b c w k → has_closed s k ≡ true → Working s b new now (onto (leaving (phase_of k)) k)) → now.lane ≡ w.lane
    → SaysIn s b new now h
says_closed s b c new w now h said closed leaves same =
    let k = onto (telling_on (phase_of h) (settings_of s h) said.pieces h) h in
    let stays = telling_stays s (phase_of h) (settings_of s h) said.pieces h refl in
    record {
      pieces = said.pieces;
      due = due_on s (phase_of h) (settings_of s h) said.pieces h (λ lane up. both_false (is_full lane h) (has_closed s h) closed) said.due;
      count = said.count ∙ sym (ap (λ y. if is_some y then 1 else 0) same);
      on = subst (λ y. IfSome y (λ l. phase_of h ≡ Stands l)) (sym same) said.on;
      working = subst (λ z. Working s b new now z)
          (sym (onto_both (telling_on (phase_of h) (settings_of s h) said.pieces h) (if has_closed s h then leaving (phase_of h) else []) h
          ∙ (ap (λ y. onto (if y then leaving (phase_of h) else []) k) closed ∙ ap (λ d. onto (leaving (phase d)) k) (sym stays.dialed))))
          (leaves k said.working (stays.closed ∙ closed));
    }
  where
    both_false : (a z : Bool) → z ≡ true → (a && not z) ≡ false
    both_false true z e = ap not e
    both_false false z e = refl

module _ (s : Setup) (b : Before) (c : Client) (w : Words) (h : List ClientEvent) (opened : has_closed s h ≡ false) where
  -- nothing follows what an open end says
  alone : (new : Client) (now : Words) (ps : List (List LinkFrame)) → Working s b new now (onto (telling_on (phase_of h) (settings_of s h) ps h) h)
      → Working s b new now (onto (telling s ps h) h)
  alone new now ps =
      subst (λ es. Working s b new now (onto es h))
      (sym (ap (λ y. telling_on (phase_of h) (settings_of s h) ps h ++ (if y then leaving (phase_of h) else [])) opened
      ∙ append-nil (telling_on (phase_of h) (settings_of s h) ps h)))

  full_is : (lane : ℕ) → Working s b c w h → phase_of h ≡ Stands lane → is_withheld s lane h ≡ c.full
  full_is lane x up =
      ap (λ y. is_full lane h && not y) opened ∙ (all_of_it (is_full lane h) ∙ sym (subst (λ q. IsFullBy q c.full h) up x.standing.full))
    where
      all_of_it : (a : Bool) → (a && true) ≡ a
      all_of_it true = refl
      all_of_it false = refl

  -- an open end says all on a lane that isn't full
  pub says_open : (new : Client) (now : Words) → Working s b c w h → c.full ≡ false → SaysDue s b new now h → SaysIn s b new now h
  says_open new now x room said = record {
    pieces = said.pieces;
    due = due_on s (phase_of h) (settings_of s h) said.pieces h (λ lane up. full_is lane x up ∙ room) said.due;
    count = said.count;
    on = said.on;
    working = alone new now said.pieces said.working;
  }

  -- and nothing on one that is
  pub says_later : Working s b c w h → c.full ≡ true → w.lane ≡ None → SaysIn s b c w h
  says_later x full none = record {
    pieces = [];
    due = none_on s (phase_of h) (settings_of s h) h (λ lane up. full_is lane x up ∙ full);
    count = sym (ap (λ y. if is_some y then 1 else 0) none);
    on = subst (λ y. IfSome y (λ lane. phase_of h ≡ Stands lane)) (sym none) tt;
    working = alone c w [] (subst (λ es. Working s b c w (onto es h)) (sym (telling_none (phase_of h) (settings_of s h) h)) x);
  }
