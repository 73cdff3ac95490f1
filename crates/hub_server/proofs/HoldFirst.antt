-- The first poll of a connection, which begins with it.
use Rattle.std.proofs.Common.{◌≡◌, ℕ, ◌==◌, Bool, true, false, ◌&&◌, List, [], ◌∷◌, ◌++◌, Option, Some, None, is_some}
use Rattle.std.proofs.Common.{refl, sym, ap, subst, ◌∙◌}
use Rattle.std.specs.Prelude.{option_map}
use Rattle.std.specs.Ordering.{nat_cmp}
use Rattle.std.specs.BTreeMap.{get}
use Rattle.std.proofs.lemmas.Bool.{and_from, both_ways, cond-true, eq-eqb, eqb-true, or_right}
use Rattle.hd_delivery.specs.Histories.{Attached, is_this, link_count}
use Rattle.hd_delivery.specs.Bytes.{Does as Step_of}
use Rattle.hd_calls.specs.Hubs.{Hub}
use Rattle.hd_calls.specs.Peers.{Plain}
use Rattle.hd_server.specs.declared.vocabulary.Said.{Said}
use Rattle.hd_server.specs.Lives.{Polled, Answered, socket_of, lost_at, poll_of, poll_ended, is_made, is_polling}
use Rattle.hd_server.specs.declared.vocabulary.Outcome.TheVariants.{FirstPoll}
use Rattle.hd_server.specs.Machine.{Does}
use Rattle.hd_server.specs.Doings.{ServerEvent, Notes, notes, work, moment, has_peer, history, is_full, wants_shut, was_refused}
use Rattle.hd_server.specs.Plans.{PendingRequest, Setup, attaching, bare_reply, connecting, onto, replying, request_plan, step}
use Rattle.hd_server.specs.Serves.{FeedsOne}
use Rattle.hn_server_front.specs.Calls.{IsNoted}
use Rattle.hn_server_front.specs.declared.front.Front.{Front}
use Rattle.hub_machine.specs.declared.machine.Machine.{Machine}
use Rattle.hub_server.specs.declared.server.Server.{Server}
use Rattle.hub_machine.specs.Machines.{StandsMachine}
use Rattle.hub_server.specs.Lanes.{conn_of, is_at, poll_lane, settled}
use Rattle.hub_server.specs.Servers.{IsOrderly, Standing, StandsFront}
use Rattle.hub_server.specs.Steps.{Follows, HasCome}
use Rattle.hub_server.specs.Connections.{IsKnown}
use Rattle.hub_server.proofs.Alike.{Alike, alike_does, alike_note, alike_trans, at_alike, orderly_alike}
use Rattle.hub_server.proofs.Answering.{replying_same}
use Rattle.hub_server.proofs.BeginLink.{IsLinked, connecting_cases, linked}
use Rattle.hub_server.proofs.BeginPeer.{IsBare, bare}
use Rattle.hub_server.proofs.HoldMoved.{IsMoved}
use Rattle.hub_server.proofs.HoldPolls.{at_poll, begun_of, not_later, polls_orderly}
use Rattle.hub_server.proofs.LaneKept.{lane_kept, lane_wider, orderly_wider, same_lane_note, same_lane_trans, same_lane_works}
use Rattle.hub_server.proofs.OntoAlike.{onto_append}
use Rattle.hub_server.proofs.FrontNoted.{noted_front}

-- ---- a new connection, once it has its peer

-- nothing was noted of it but that it was made
pub bare_begun : (s : Setup) (k : ℕ) (resumable : Bool) (h : List ServerEvent) → IsKnown k h → IsOrderly settled k h → has_peer k h ≡ false
    → IsBare k (onto (connecting s k resumable h) h)
bare_begun s k resumable h known o unpeered = connecting_cases (IsBare k) settled s k resumable h known o
    (λ e. absurd (both_ways (has_peer k h) unpeered e))
    (λ new. let x = bare settled k h o new in record { socket = x.socket; lost = x.lost; poll = x.poll; polled = x.polled })

-- its lanes are what they were
pub record KeepsLanes (g h : List ServerEvent) : Type 0 where
  pub shut : (l : ℕ) → wants_shut l g ≡ wants_shut l h
  pub refused : (l : ℕ) → was_refused l g ≡ was_refused l h
  pub full : (l : ℕ) → is_full l g ≡ is_full l h

pub begun_keeps : (s : Setup) (k : ℕ) (resumable : Bool) (h : List ServerEvent) → IsKnown k h → IsOrderly settled k h
    → KeepsLanes (onto (connecting s k resumable h) h) h
begun_keeps s k resumable h known o = connecting_cases (λ g. KeepsLanes g h) settled s k resumable h known o
    (λ e. record { shut = λ l. refl; refused = λ l. refl; full = λ l. refl })
    (λ e. record { shut = λ l. refl; refused = λ l. refl; full = λ l. refl })

-- a link begins
module _ {H Job : Type 0} (hub : Hub Job) (s : Setup) (before : List Said) (v : Server H Job) (k : ℕ) (h : List ServerEvent)
    (st : Standing {H = H} hub s (conn_of k) before v h) (there : has_peer k h ≡ true) (none : IsBare k h) where
  abbrev n : ℕ
  n = link_count (history k h)

  abbrev g : List ServerEvent
  g = step k (Attached n (moment h)) ∷ h

  stays : IsOrderly (conn_of k) k h
  stays = st.orderly k

  link : IsLinked k n (moment h) h
  link = linked (conn_of k) k h stays there

  own_orderly : IsOrderly (conn_of k) k g
  own_orderly = record {
    made = stays.made;
    there = stays.there;
    gone = stays.gone;
    one_way = stays.one_way;
    ended = stays.ended;
    unused = stays.unused;
    used = stays.used;
    linked = λ e lane f. ap (λ (o : Option ℕ). is_some o) link.present;
    unlinked = λ e f. absurd (both_ways (is_some (lost_at k (notes h))) (ap (λ (o : Option ℕ). is_some o) none.lost) f);
    kept = λ e f. absurd (both_ways (is_some (lost_at k (notes h))) (ap (λ (o : Option ℕ). is_some o) none.lost) f);
    links = link.links;
    timely = link.timely;
    handled = link.handled;
    taken = link.taken;
  }

  each : (c : ℕ) (b : Bool) → (c == k) ≡ b → IsOrderly (conn_of k) c g
  each c true e = subst (λ x. IsOrderly (conn_of k) x g) (sym (eqb-true c k e)) own_orderly
  each c false e =
      orderly_alike (conn_of k) c g h (alike_does c k (Plain (Step_of (Attached n (moment h)))) h e) (not_later (moment h)) (st.orderly c)

  pub stands_linked : (machine : Machine H Job) → StandsMachine {H = H} hub machine (Does k (Plain (Step_of (Attached n (moment h)))) ∷ work h)
      → Standing {H = H} hub s (conn_of k) before (record v { machine = machine }) g
  stands_linked machine stands = record {
    setup = st.setup;
    machine = stands;
    front = st.front;
    callers = λ c. st.callers c;
    lanes = λ l. lane_kept (conn_of k) (get nat_cmp v.lanes l) l g h (same_lane_works l (Does k (Plain (Step_of (Attached n (moment h))))) h)
        (λ c. refl) (λ c. refl) (st.lanes l);
    begun = st.begun;
    orderly = λ c. each c (c == k) refl;
    clock = st.clock;
    words = st.words;
  }

-- ---- a poll that is answered at once

module _ {H Job : Type 0} (hub : Hub Job) (s : Setup) (before : List Said) (v : Server H Job) (k at : ℕ) (is_last : Bool) (h : List ServerEvent)
    (st : Standing {H = H} hub s (conn_of k) before v h) (there : has_peer k h ≡ true) (made : is_made k (notes h) ≡ true) (none : IsBare k h)
    (come : HasCome at is_last h) where
  abbrev g1 : List ServerEvent
  g1 = Notes (Polled k at (moment h)) ∷ h

  abbrev g2 : List ServerEvent
  g2 = Notes (Answered k at (moment h)) ∷ g1

  others : (c : ℕ) → (c == k) ≡ false → Alike c g2 h
  others c e = alike_trans c g2 g1 h (alike_note (Answered k at (moment h)) c g1 e tt) (alike_note (Polled k at (moment h)) c h e tt)

  held : is_this at (poll_lane k (notes g1)) ≡ true
  held = ap (λ (o : Option (ℕ × ℕ)). is_this at (option_map (λ (p : ℕ × ℕ). p.0) o))
      (cond-true (k == k) (Some (at, moment h)) (poll_of k (notes h)) (eq-eqb k k refl))
      ∙ eq-eqb at at refl

  ends : ((k == k) && is_this at (poll_lane k (notes g1))) ≡ true
  ends = and_from (k == k) (is_this at (poll_lane k (notes g1))) (eq-eqb k k refl) held

  unheld : poll_of k (notes g2) ≡ None
  unheld = cond-true ((k == k) && is_this at (poll_lane k (notes g1))) None (poll_of k (notes g1)) ends

  polling : is_polling k (notes g2) ≡ true
  polling = or_right (is_some (poll_of k (notes g2))) (is_some (poll_ended k (notes g2))) (ap (λ (o : Option ℕ). is_some o)
      (cond-true ((k == k) && is_this at (poll_lane k (notes g1))) (Some (moment h)) (poll_ended k (notes g1)) ends))

  nowhere : (l : ℕ) (x : List ServerEvent) → has_peer k x ≡ true → socket_of k (notes x) ≡ None → poll_of k (notes x) ≡ None → is_at l k x ≡ false
  nowhere l x e f p = at_poll l k x e f ∙ ap (λ (o : Option (ℕ × ℕ)). is_this l (option_map (λ (q : ℕ × ℕ). q.0) o)) p

  at_same : (l c : ℕ) (b : Bool) → (c == k) ≡ b → is_at l c g2 ≡ is_at l c h
  at_same l c true e =
      ap (λ x. is_at l x g2) (eqb-true c k e) ∙ nowhere l g2 there none.socket unheld ∙ sym (nowhere l h there none.socket none.poll)
      ∙ ap (λ x. is_at l x h) (sym (eqb-true c k e))
  at_same l c false e = at_alike l c g2 h (others c e)

  each_polled : (c : ℕ) (b : Bool) → (c == k) ≡ b → IsOrderly settled c g2
  each_polled c true e = subst (λ x. IsOrderly settled x g2) (sym (eqb-true c k e))
      (polls_orderly (conn_of k) settled k g2 h refl refl refl refl none.socket none.lost polling (begun_of k h there) (st.orderly k))
  each_polled c false e = orderly_alike settled c g2 h (others c e) (not_later (moment h))
      (orderly_wider (conn_of k) settled c h (λ f. absurd (both_ways (c == k) e f)) (λ l f. f) (st.orderly c))

  pub polled_come : HasCome at is_last g2
  polled_come = record {
    waits = come.waits;
    last = come.last;
    unrefused = come.unrefused;
    empty = come.empty;
    nobody = λ c. at_same at c (c == k) refl ∙ come.nobody c;
  }

  pub stands_polled : (f1 f2 : Front) → IsNoted v.front f1 k (Polled k at v.moment) → IsNoted f1 f2 k (Answered k at v.moment)
      → Standing {H = H} hub s settled before (record v { front = f2 }) g2
  stands_polled f1 f2 polls answers = record {
    setup = st.setup;
    machine = st.machine;
    front = subst (λ x. StandsFront s.live f2 (Answered k at x ∷ Polled k at x ∷ notes h)) st.clock
        (noted_front s.live f1 f2 k (Answered k at v.moment) (Polled k at v.moment ∷ notes h) answers
        (noted_front s.live v.front f1 k (Polled k at v.moment) (notes h) polls st.front made) made);
    callers = λ c. st.callers c;
    lanes = λ l. lane_wider (conn_of k) settled (get nat_cmp v.lanes l) l g2 (λ e. e)
        (lane_kept (conn_of k) (get nat_cmp v.lanes l) l g2 h
        (same_lane_trans l g2 g1 h (same_lane_note l (Answered k at (moment h)) g1) (same_lane_note l (Polled k at (moment h)) h))
        (λ c. at_same l c (c == k) refl) (λ c. refl) (st.lanes l));
    begun = st.begun;
    orderly = λ c. each_polled c (c == k) refl;
    clock = st.clock;
    words = st.words;
  }

-- ---- what is done

abbrev pub at_once : ℕ → ℕ → ℕ → List ServerEvent → List ServerEvent
at_once k at now fed = Notes (Answered k at now) ∷ Notes (Polled k at now) ∷ fed

pub follows_first : (s : Setup) (o : PendingRequest) (k at : ℕ) (h h1 fed : List ServerEvent) → h1 ≡ onto (connecting s k false h) h → KeepsLanes h1 h
    → moment h1 ≡ moment h
    → link_count (history k h1) ≡ link_count (history k h) → o.now ≡ moment h → o.lane ≡ at
    → IsMoved fed (step k (Attached (link_count (history k h1)) (moment h1)) ∷ h1)
    → FeedsOne (moment h1) k [] (step k (Attached (link_count (history k h1)) (moment h1)) ∷ h1) fed
    → Follows (request_plan s o None k h FirstPoll) h
    (onto (replying at (bare_reply 200) (at_once k at (moment fed) fed)) (at_once k at (moment fed) fed))
follows_first s o k at h h1 fed begun keeps kept count when where_at moved feeds =
    let same_now : moment fed ≡ o.now = moved.moment ∙ kept ∙ sym when in
    let first : step k (Attached (link_count (history k h1)) (moment h1)) ∷ h1 ≡ onto (connecting s k false h ++ attaching k o.now h) h =
    ap (λ x. step k (Attached x (moment h1)) ∷ h1) count
    ∙ ap (λ x. step k (Attached (link_count (history k h)) x) ∷ h1) (kept ∙ sym when)
    ∙ ap (λ x. step k (Attached (link_count (history k h)) o.now) ∷ x) begun
    ∙ sym (onto_append (connecting s k false h) (attaching k o.now h) h) in
    record {
      fed = fed;
      feeds = subst (λ x. FeedsOne (moment h) k [] x fed) first
          (subst (λ x. FeedsOne x k [] (step k (Attached (link_count (history k h1)) (moment h1)) ∷ h1) fed) kept feeds);
      is =
          ap (λ xs. onto xs (at_once k at (moment fed) fed))
          (replying_same at (bare_reply 200) (at_once k at (moment fed) fed) h (moved.shut at ∙ keeps.shut at) (moved.refused at ∙ keeps.refused at))
          ∙ ap (λ x. onto (replying at (bare_reply 200) h) (at_once k at x fed)) same_now
          ∙ ap (λ x. onto (replying x (bare_reply 200) h) (at_once k x o.now fed)) (sym where_at);
    }
