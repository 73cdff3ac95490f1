-- A connection of a server is fed: what it remembers of that connection, and of all others.
use Rattle.std.proofs.Common.{◌≡◌, ◌≤◌, ◌<◌, ℕ, ◌==◌, Bool, true, false, not, ◌&&◌, ◌||◌, List, [], ◌∷◌, ◌++◌, Option, Some, None, is_some, refl, sym}
use Rattle.std.proofs.Common.{ap, ◌∙◌, subst, arith, true≢false}
use Rattle.std.specs.Prelude.{if◌then◌else◌}
use Rattle.std.specs.Ordering.{nat_cmp}
use Rattle.std.specs.BTreeMap.{get}
use Rattle.std.specs.List.{list_all}
use Rattle.std.proofs.lemmas.Bool.{eqb-true}
use Rattle.hd_delivery.specs.declared.vocabulary.Reason.{Reason}
use Rattle.hd_delivery.specs.Histories as of
use Rattle.hd_delivery.specs.Histories.{EndEvent, Took, Failed, is_resumable, is_this, link_count, present_link, was_on}
use Rattle.hd_delivery.specs.Processes.{processes}
use Rattle.hd_delivery.specs.Bytes.{Wire, ByteStep, Bytes, Does as Step_of, in_frames}
use Rattle.hd_calls.specs.Hubs.{Hub}
use Rattle.hd_calls.specs.Peers.{PeerEvent, Plain, Reads, Handles, Settings, add, byte_steps, is_shut, reason_of, shuts, steps, waiting}
use Rattle.hd_server.specs.declared.vocabulary.Said.{Said}
use Rattle.hd_server.specs.Lives.{ended_at, is_removed, is_made, is_polling, lost_at, socket_of}
use Rattle.hd_server.specs.Machine.{Does, has_gone, moves, settings_of}
use Rattle.hd_server.specs.Doings.{ServerEvent, notes, work, moment, said, peer, history, history_with, config_of, config_with, has_peer, user_of}
use Rattle.hd_server.specs.Plans.{Setup}
use Rattle.hd_server.specs.Serves.{Feeds, is_taking, moving}
use Rattle.hub_machine.specs.declared.machine.Machine.{Machine}
use Rattle.hub_server.specs.declared.server.Server.{Server}
use Rattle.hub_machine.specs.Laws.{MovesComeFirst}
use Rattle.hub_machine.specs.Machines.{OfConn, StandsMachine, settings_there}
use Rattle.hub_machine.specs.Calls.{doing}
use Rattle.hub_machine.specs.Traffic.{FeedsBytes, IsClear}
use Rattle.hub_server.specs.Connections.{IsFedTo}
use Rattle.hub_server.specs.Lanes.{Unsettled, is_at, poll_lane}
use Rattle.hub_server.specs.Servers.{IsOrderly, Standing, caller_of, StandsFront}
use Rattle.hub_server.proofs.Alike.{Alike, alike_does, alike_refl, alike_trans, orderly_alike}
use Rattle.hub_server.proofs.LaneKept.{SameLane, lane_kept, same_lane_refl, same_lane_trans, same_lane_works}

-- ---- what is fed leaves the end where it stands

pub record IsStill (g h : List EndEvent) : Type 0 where
  pub present : present_link g ≡ present_link h
  pub was : (l : ℕ) → was_on l g ≡ was_on l h
  pub count : link_count g ≡ link_count h
  pub timely : of.moment g ≡ of.moment h

still_refl : (h : List EndEvent) → IsStill h h
still_refl h = record { present = refl; was = λ l. refl; count = refl; timely = refl }

still_then : (f g h : List EndEvent) → IsStill f g → IsStill g h → IsStill f h
still_then f g h a b =
    record { present = a.present ∙ b.present; was = λ l. a.was l ∙ b.was l; count = a.count ∙ b.count; timely = a.timely ∙ b.timely }

still_shut : (wire : Wire) (c : of.Config) (b : Bool) (r : Option Reason) (y : List ByteStep)
    → IsStill (in_frames wire c (add (shuts b r) y)) (in_frames wire c y)
still_shut wire c true None y = still_refl (in_frames wire c y)
still_shut wire c true (Some why) y = still_refl (in_frames wire c y)
still_shut wire c false None y = still_refl (in_frames wire c y)
still_shut wire c false (Some why) y = record { present = refl; was = λ l. refl; count = refl; timely = refl }

still_move : (t : Settings) (now : ℕ) (m : PeerEvent) (h : List PeerEvent) → is_taking now m ≡ true → IsStill (steps t (m ∷ h)) (steps t h)
still_move t now (Plain (Step_of (Took got))) h e = record { present = refl; was = λ l. refl; count = refl; timely = refl }
still_move t now (Plain (Step_of (Failed fault))) h e = record { present = refl; was = λ l. refl; count = refl; timely = refl }
still_move t now (Reads m) h e = record { present = refl; was = λ l. refl; count = refl; timely = refl }
still_move t now (Handles m effect) h e = still_shut t.wire t.config (is_shut t h) (reason_of effect) (byte_steps t h)
still_move t now _ h e = absurd (true≢false (sym e))

both : (a b : Bool) → (a && b) ≡ true → (a ≡ true) × (b ≡ true)
both true b e = (refl, e)
both false b e = absurd (true≢false (sym e))

still_taken : (t : Settings) (now : ℕ) (ms h : List PeerEvent) → list_all (is_taking now) ms ≡ true → IsStill (steps t (ms ++ h)) (steps t h)
still_taken t now [] h e = still_refl (steps t h)
still_taken t now (m ∷ ms) h e =
    let is = both (is_taking now m) (list_all (is_taking now) ms) e in
    still_then (steps t (m ∷ (ms ++ h))) (steps t (ms ++ h)) (steps t h) (still_move t now m (ms ++ h) is.0) (still_taken t now ms h is.1)

still_feeds : (t : Settings) (now : ℕ) (fed : Bool) (bytes : List ℕ) (ps : List (List ℕ)) (h after : List PeerEvent) → Feeds t now fed bytes ps h after
    → IsStill (steps t after) (steps t h)
still_feeds t now fed bytes [] h after feeds = subst (λ y. IsStill (steps t y) (steps t h)) (sym feeds.1) (still_refl (steps t h))
still_feeds t now fed bytes (p ∷ ps) h after (can, some, next, (mid, takes, more)) =
    let first : PeerEvent = Plain (Bytes p) in
    let taken = subst (λ y. IsStill (steps t y) (steps t (first ∷ h))) (sym takes.are) (still_taken t now takes.taken (first ∷ h) takes.each) in
    still_then (steps t after) (steps t mid) (steps t h) (still_feeds t now true _ ps mid after more)
    (still_then (steps t mid) (steps t (first ∷ h)) (steps t h) taken (record { present = refl; was = λ l. refl; count = refl; timely = refl }))

-- without a link nothing is fed
unfed : (t : Settings) (now : ℕ) (fed : Bool) (bytes : List ℕ) (ps : List (List ℕ)) (h after : List PeerEvent) → present_link (steps t h) ≡ None
    → Feeds t now fed bytes ps h after → after ≡ h
unfed t now fed bytes [] h after off feeds = feeds.1
unfed t now fed bytes (p ∷ ps) h after off feeds =
    absurd (true≢false (sym feeds.0 ∙ ap (λ o. is_some o && not (is_shut t h)) off))

-- ---- what moves leave of a server

module _ (c : ℕ) (h : List ServerEvent) where
  work_moving : (ms : List PeerEvent) → work (moving c ms h) ≡ doing c ms (work h)
  work_moving [] = refl
  work_moving (m ∷ ms) = ap (λ w. Does c m ∷ w) (work_moving ms)

  notes_moving : (ms : List PeerEvent) → notes (moving c ms h) ≡ notes h
  notes_moving [] = refl
  notes_moving (m ∷ ms) = notes_moving ms

  said_moving : (ms : List PeerEvent) → said (moving c ms h) ≡ said h
  said_moving [] = refl
  said_moving (m ∷ ms) = said_moving ms

  moment_moving : (ms : List PeerEvent) → moment (moving c ms h) ≡ moment h
  moment_moving [] = refl
  moment_moving (m ∷ ms) = moment_moving ms

  settings_moving : (k : ℕ) (ms : List PeerEvent) → settings_of k (work (moving c ms h)) ≡ settings_of k (work h)
  settings_moving k [] = refl
  settings_moving k (m ∷ ms) = settings_moving k ms

  gone_moving : (k : ℕ) (ms : List PeerEvent) → has_gone k (work (moving c ms h)) ≡ has_gone k (work h)
  gone_moving k [] = refl
  gone_moving k (m ∷ ms) = gone_moving k ms

  lane_moving : (lane : ℕ) (ms : List PeerEvent) → SameLane lane (moving c ms h) h
  lane_moving lane [] = same_lane_refl lane h
  lane_moving lane (m ∷ ms) =
      same_lane_trans lane (moving c (m ∷ ms) h) (moving c ms h) h (same_lane_works lane (Does c m) (moving c ms h)) (lane_moving lane ms)

  others_moving : (k : ℕ) → (k == c) ≡ false → (ms : List PeerEvent) → Alike k (moving c ms h) h
  others_moving k e [] = alike_refl k h
  others_moving k e (m ∷ ms) = alike_trans k (moving c (m ∷ ms) h) (moving c ms h) h (alike_does k c m (moving c ms h) e) (others_moving k e ms)

  there_moving : (k : ℕ) (ms : List PeerEvent) → has_peer k (moving c ms h) ≡ has_peer k h
  there_moving k ms =
      ap (λ o. is_some o && not (has_gone k (work (moving c ms h)))) (settings_moving k ms)
      ∙ ap (λ b. is_some (settings_of k (work h)) && not b) (gone_moving k ms)

  user_moving : (k : ℕ) (ms : List PeerEvent) → user_of k (moving c ms h) ≡ user_of k h
  user_moving k [] = refl
  user_moving k (m ∷ ms) = user_moving k ms

  caller_moving : (k : ℕ) (ms : List PeerEvent) → caller_of k (moving c ms h) ≡ caller_of k h
  caller_moving k ms =
      ap (λ o. if is_some o || is_removed k (notes (moving c ms h)) then None else user_of k (moving c ms h)) (settings_moving k ms)
      ∙ ap (λ n. if is_some (settings_of k (work h)) || is_removed k n then None else user_of k (moving c ms h)) (notes_moving ms)
      ∙ ap (λ o. if is_some (settings_of k (work h)) || is_removed k (notes h) then None else o) (user_moving k ms)

-- ---- the connection that is fed

module _ (law : MovesComeFirst) (u : Unsettled) (c : ℕ) (h : List ServerEvent) (t : Settings) (begun : settings_of c (work h) ≡ Some t)
    (x : IsOrderly u c h) (now : ℕ) (bytes : List ℕ) (ps : List (List ℕ)) (ms : List PeerEvent)
    (feeds : Feeds t now false bytes ps (peer c h) (ms ++ peer c h))
    (clear : IsClear t (ms ++ peer c h)) where
  abbrev g : List ServerEvent
  g = moving c ms h

  peer_is : peer c g ≡ ms ++ peer c h
  peer_is = ap (moves c) (work_moving c h ms) ∙ law c ms (work h)

  begun_still : settings_of c (work g) ≡ Some t
  begun_still = settings_moving c h c ms ∙ begun

  history_is : history c g ≡ steps t (ms ++ peer c h)
  history_is = ap (λ o. history_with o (peer c g)) begun_still ∙ ap (steps t) peer_is

  history_was : history c h ≡ steps t (peer c h)
  history_was = ap (λ o. history_with o (peer c h)) begun

  still : IsStill (history c g) (history c h)
  still =
      subst (λ y. IsStill y (history c h)) (sym history_is)
      (subst (λ y. IsStill (steps t (ms ++ peer c h)) y) (sym history_was) (still_feeds t now false bytes ps (peer c h) (ms ++ peer c h) feeds))

  same_history : present_link (history c h) ≡ None → history c g ≡ history c h
  same_history off =
      history_is
      ∙ ap (steps t) (unfed t now false bytes ps (peer c h) (ms ++ peer c h) (sym (ap present_link history_was) ∙ off) feeds)
      ∙ sym history_was

  noted : notes g ≡ notes h
  noted = notes_moving c h ms

  same : settings_of c (work g) ≡ settings_of c (work h)
  same = settings_moving c h c ms

  there : has_peer c g ≡ has_peer c h
  there = there_moving c h c ms

  pub orderly_fed : IsOrderly u c g
  orderly_fed = record {
    made = λ e. subst (λ n. is_made c n ≡ true) (sym noted) (x.made (sym (ap is_some same) ∙ e));
    there = λ e. subst (λ n. is_removed c n ≡ false) (sym noted) (x.there (sym there ∙ e));
    gone = λ e f. subst (λ n. is_removed c n ≡ true) (sym noted) (x.gone (sym (ap is_some same) ∙ e) (sym there ∙ f));
    one_way = subst (λ n. ((is_some (socket_of c n) || is_some (lost_at c n)) && is_polling c n) ≡ false) (sym noted) x.one_way;
    ended = λ e. subst (λ n. is_polling c n ≡ true) (sym noted) (x.ended (subst (λ n. is_some (ended_at c n) ≡ true) noted e));
    unused = λ e. subst (λ n. (is_some (socket_of c n) || is_some (lost_at c n) || is_polling c n) ≡ false) (sym noted)
        (x.unused (sym (ap is_some same) ∙ e));
    used = λ e. subst (λ n. (is_this c u.conn || (is_some (socket_of c n) || is_some (lost_at c n) || is_polling c n)) ≡ true) (sym noted)
        (x.used (sym there ∙ e));
    linked = λ e lane f. subst (λ l. (is_this lane u.cut || is_some l) ≡ true) (sym still.present)
        (x.linked (sym there ∙ e) lane (subst (λ n. socket_of c n ≡ Some lane) noted f));
    unlinked = λ e f. still.present ∙ x.unlinked (sym there ∙ e) (subst (λ n. is_some (lost_at c n) ≡ true) noted f);
    kept = λ e f.
        let lost = subst (λ n. is_some (lost_at c n) ≡ true) noted f in
        let off = x.unlinked (sym there ∙ e) lost in
        ap (λ o. is_resumable (config_with o) (history c g)) same ∙ ap (is_resumable (config_of c h)) (same_history off) ∙ x.kept (sym there ∙ e) lost;
    links = λ l e. subst (λ n. l < n) (sym still.count) (x.links l (sym (still.was l) ∙ e));
    timely = subst (λ n. n ≤ moment g) (sym still.timely) (subst (λ n. of.moment (history c h) ≤ n) (sym (moment_moving c h ms)) x.timely);
    handled = ap waiting peer_is ∙ clear.handled;
    taken = ap (λ o. processes (config_with o) (history c g)) begun_still ∙ ap (processes t.config) history_is ∙ clear.taken;
  }

-- before it is fed every whole frame is taken
clear_at : (u : Unsettled) (c : ℕ) (h : List ServerEvent) (t : Settings) → settings_of c (work h) ≡ Some t → IsOrderly u c h → IsClear t (peer c h)
clear_at u c h t begun x = record {
  handled = x.handled;
  taken = sym (ap (λ o. processes (config_with o) (history_with o (peer c h))) begun) ∙ x.taken;
}

-- ---- the server

same_moment : {n m : ℕ} → n ≡ m → m ≤ n
same_moment e = omega (arith, e)

-- it has a peer
there_of : (c : ℕ) (h : List ServerEvent) → has_peer c h ≡ true → (t : Settings) × (settings_of c (work h) ≡ Some t) × (settings_there c (work h) ≡ Some t)
there_of c h e = by (settings_of c (work h)) refl (has_gone c (work h)) refl e
  where
    by : (o : Option Settings) → settings_of c (work h) ≡ o → (b : Bool) → has_gone c (work h) ≡ b → (is_some o && not b) ≡ true
        → (t : Settings) × (settings_of c (work h) ≡ Some t) × (settings_there c (work h) ≡ Some t)
    by (Some t) f false k e = (t, f, rw (k, f) refl)
    by (Some t) f true k e = absurd (true≢false (sym e))
    by None f b k e = absurd (true≢false (sym e))

module _ {H Job : Type 0} (law : MovesComeFirst) (hub : Hub Job) (s : Setup) (u : Unsettled) (before : List Said) (v : Server H Job)
    (h : List ServerEvent) (x : Standing {H = H} hub s u before v h) (c : ℕ) (bytes : List ℕ) (m : Machine H Job) where
  fed_with : (t : Settings) → settings_of c (work h) ≡ Some t → FeedsBytes {H = H} hub m c (work h) t (peer c h) (moment h) false bytes
      → IsFedTo {H = H} hub s u before (record v { machine = m }) c bytes h
  fed_with t begun fed = record {
    after = moving c fed.moves h;
    feeds = record { settings = t; begun = begun; pieces = fed.pieces; moves = fed.moves; feeds = fed.feeds; are = refl };
    stands = record {
      setup = x.setup;
      machine = subst (λ w. StandsMachine {H = H} hub m w) (sym (work_moving c h fed.moves)) fed.stands;
      front = subst (λ n. StandsFront s.live v.front n) (sym noted_as) x.front;
      callers = λ k. x.callers k ∙ sym (caller_moving c h k fed.moves);
      lanes = λ lane. lane_kept u (get nat_cmp v.lanes lane) lane (moving c fed.moves h) h (lane_moving c h lane fed.moves)
          (λ k. at lane k)
          (λ k. ap (λ n. is_this lane (socket_of k n)) noted_as)
          (x.lanes lane);
      begun = λ k t e. x.begun k t (sym (settings_moving c h k fed.moves) ∙ e);
      orderly = λ k. orderly k (k == c) refl;
      clock = x.clock ∙ sym (moment_moving c h fed.moves);
      words = said_moving c h fed.moves ∙ x.words;
    };
  }
    where
      noted_as : notes (moving c fed.moves h) ≡ notes h
      noted_as = notes_moving c h fed.moves

      at : (lane k : ℕ) → is_at lane k (moving c fed.moves h) ≡ is_at lane k h
      at lane k =
          ap (λ b. b && (is_this lane (socket_of k (notes (moving c fed.moves h))) || is_this lane (poll_lane k (notes (moving c fed.moves h)))))
          (there_moving c h k fed.moves)
          ∙ ap (λ n. has_peer k h && (is_this lane (socket_of k n) || is_this lane (poll_lane k n))) noted_as

      orderly : (k : ℕ) (b : Bool) → (k == c) ≡ b → IsOrderly u k (moving c fed.moves h)
      orderly k true e = subst (λ n. IsOrderly u n (moving c fed.moves h)) (sym (eqb-true k c e))
          (orderly_fed law u c h t begun (x.orderly c) (moment h) bytes fed.pieces fed.moves fed.feeds fed.clear)
      orderly k false e =
          orderly_alike u k (moving c fed.moves h) h (others_moving c h k e fed.moves) (same_moment (moment_moving c h fed.moves)) (x.orderly k)

  pub fed_to : has_peer c h ≡ true
      → OfConn {H = H} hub v.machine c (λ w t ms. IsClear t ms → FeedsBytes {H = H} hub m c w t ms v.moment false bytes)
      → IsFedTo {H = H} hub s u before (record v { machine = m }) c bytes h
  fed_to has each =
      let is = there_of c h has in
      fed_with is.0 is.1
      (subst (λ n. FeedsBytes {H = H} hub m c (work h) is.0 (peer c h) n false bytes) x.clock
      (each (work h) is.0 x.machine is.2 (clear_at u c h is.0 is.1 (x.orderly c))))
