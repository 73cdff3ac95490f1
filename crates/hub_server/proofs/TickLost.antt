-- A lane is lost: who was there, and what a server stands for then.
use Rattle.std.proofs.Common.{◌≡◌, ◌≤◌, ℕ, ◌==◌, Bool, true, false, not, ◌&&◌, ◌||◌, List, [], ◌∷◌, Option, Some, None, is_some}
use Rattle.std.proofs.Common.{refl, sym, ap, subst, ◌∙◌, arith}
use Rattle.std.specs.Prelude.{if◌then◌else◌, option_map}
use Rattle.std.specs.Ordering.{nat_cmp}
use Rattle.std.specs.BTreeMap.{BTreeMap, get}
use Rattle.std.proofs.lemmas.Bool.{and_from, and_parts, and_right, both_ways, eq-eqb, eqb-true, false_from_ne_true, or_left, or_right}
use Rattle.hd_delivery.specs.Histories as of
use Rattle.hd_delivery.specs.Histories.{Detached, is_this, present_link}
use Rattle.hd_delivery.specs.Bytes.{Does as Step_of}
use Rattle.hd_calls.specs.Hubs.{Hub}
use Rattle.hd_calls.specs.Peers.{Plain, steps}
use Rattle.hd_server.specs.declared.vocabulary.Said.{Said}
use Rattle.hd_server.specs.Lives.{LaneLost, is_made, is_polling, lost_at, poll_ended, poll_of, socket_of}
use Rattle.hd_server.specs.Machine.{Does, settings_of}
use Rattle.hd_server.specs.Doings.{ServerEvent, Notes, notes, work, moment, peer, has_peer, history, may_resume}
use Rattle.hd_server.specs.Plans.{Setup, conn_on, removing_conn, losing, losing_lane, onto, poller_on, step}
use Rattle.hn_server_front.specs.declared.front.Front.{Front}
use Rattle.hub_server.specs.declared.lane.Lane.{Lane}
use Rattle.hub_machine.specs.declared.machine.Machine.{Machine}
use Rattle.hub_server.specs.declared.server.Server.{Server}
use Rattle.hub_machine.specs.Laws.{ConnectionsAreFound, FindsOne}
use Rattle.hub_machine.specs.Machines.{OfConn, StandsMachine}
use Rattle.hub_server.specs.Lanes.{HasLane, IsLane, IsNobodys, cut_of, is_at, lane_of, poll_lane, settled}
use Rattle.hub_server.specs.Servers.{IsOrderly, OfEach, Standing, StandsFront}
use Rattle.hub_server.proofs.Alike.{Alike, alike_note, at_alike, orderly_alike}
use Rattle.hub_server.proofs.Gone.{lane_left}
use Rattle.hub_server.proofs.LaneKept.{lane_wider, orderly_wider, same_lane_note}
use Rattle.hub_server.proofs.OutcomeOn.{FindsStanding, kept_polls, kept_stands, none_kept}
use Rattle.hub_server.proofs.TickSteps.{IsBegun, begun_here, off_granted, off_off, standing_detached}

-- ---- who is there

this_is : (lane : ℕ) (o : Option ℕ) → is_this lane o ≡ true → o ≡ Some lane
this_is lane None e = absurd (let no : false ≡ true = e in cc)
this_is lane (Some l) e = ap Some (sym (eqb-true lane l e))

there_at : (lane c : ℕ) (h : List ServerEvent) → has_peer c h ≡ true
    → (is_this lane (socket_of c (notes h)) || is_this lane (poll_lane c (notes h))) ≡ true → is_at lane c h ≡ true
there_at lane c h there e = and_from (has_peer c h) (is_this lane (socket_of c (notes h)) || is_this lane (poll_lane c (notes h))) there e

-- a lane that isn't kept is settled with the others
settled_lanes : (lane : ℕ) (x : ℕ → Option Lane) (g : List ServerEvent) → ((k : ℕ) → IsLane (lane_of (Some lane)) (x k) k g) → x lane ≡ None
    → (k : ℕ) → IsLane settled (x k) k g
settled_lanes lane x g each none k = by (k == lane) refl
  where
    by : (b : Bool) → (k == lane) ≡ b → IsLane settled (x k) k g
    by true e =
        let gone : x k ≡ None = ap x (eqb-true k lane e) ∙ none in
        subst (λ o. IsLane settled o k g) (sym gone) (subst (λ o. IsLane (lane_of (Some lane)) o k g) gone (each k))
    by false e = lane_wider (lane_of (Some lane)) settled (x k) k g (λ f. absurd (both_ways (k == lane) e f)) (each k)

module _ {H Job : Type 0} (law : ConnectionsAreFound) (hub : Hub Job) (s : Setup) (before : List Said) (v : Server H Job) (lane : ℕ)
    (h : List ServerEvent) (st : Standing {H = H} hub s (lane_of (Some lane)) before v h) where
  finds_standing : FindsStanding lane h
  finds_standing = law (λ k. is_this lane (socket_of k (notes h))) (work h) (let m = st.machine in m.from_one)

  finds_polling : FindsOne (λ k. is_this lane (poll_lane k (notes h))) (work h)
  finds_polling = law (λ k. is_this lane (poll_lane k (notes h))) (work h) (let m = st.machine in m.from_one)

  -- ---- nobody

  pub lost_none : get nat_cmp v.lanes lane ≡ None
      → Standing {H = H} hub s settled before v (onto (losing_lane (conn_on lane h) (poller_on lane h) lane (moment h) h) h)
  lost_none none =
      subst (λ xs. Standing {H = H} hub s settled before v (onto xs h))
      (sym (ap (λ o. losing_lane o (poller_on lane h) lane (moment h) h) stands ∙ ap (λ o. losing_lane None o lane (moment h) h) polls)) (record {
        setup = st.setup;
        machine = st.machine;
        front = st.front;
        callers = st.callers;
        lanes = settled_lanes lane (λ k. get nat_cmp v.lanes k) h st.lanes none;
        begun = st.begun;
        orderly = λ k. orderly_wider (lane_of (Some lane)) settled k h (λ e. e) (λ l e. e) (st.orderly k);
        clock = st.clock;
        words = st.words;
      })
    where
      nobody : IsNobodys lane h
      nobody = subst (λ x. IsLane (lane_of (Some lane)) x lane h) none (st.lanes lane)

      stands : conn_on lane h ≡ None
      stands = none_kept lane h finds_standing nobody

      polls : poller_on lane h ≡ None
      polls = finds_polling.none (λ k there. false_from_ne_true (is_this lane (poll_lane k (notes h))) (λ e.
          both_ways (is_at lane k h) (nobody k) (there_at lane k h there
          (or_right (is_this lane (socket_of k (notes h))) (is_this lane (poll_lane k (notes h))) e))))

  -- ---- somebody

  module _ (x : Lane) (kept : get nat_cmp v.lanes lane ≡ Some x) where
    has : HasLane (lane_of (Some lane)) x lane h
    has = subst (λ o. IsLane (lane_of (Some lane)) o lane h) kept (st.lanes lane)

    abbrev c : ℕ
    c = x.conn

    there : has_peer c h ≡ true
    there = let parts = and_parts (has_peer c h) (is_this lane (socket_of c (notes h)) || is_this lane (poll_lane c (notes h))) has.at in parts.0

    on : (is_this lane (socket_of c (notes h)) || is_this lane (poll_lane c (notes h))) ≡ true
    on = let parts = and_parts (has_peer c h) (is_this lane (socket_of c (notes h)) || is_this lane (poll_lane c (notes h))) has.at in parts.1

    t : IsBegun c h
    t = begun_here c h there

    -- it was made
    pub made_there : is_made c (notes h) ≡ true
    made_there = let o = st.orderly c in o.made (ap is_some t.begun)

    -- a poll is held there
    module _ (polls : x.polls ≡ true) where
      no_socket : is_this lane (socket_of c (notes h)) ≡ false
      no_socket = by (is_this lane (socket_of c (notes h))) (sym has.polls ∙ polls)
        where
          by : (b : Bool) → not b ≡ true → b ≡ false
          by true e = absurd (let no : false ≡ true = e in cc)
          by false e = refl

      holds : is_this lane (poll_lane c (notes h)) ≡ true
      holds = sym (ap (λ (b : Bool). b || is_this lane (poll_lane c (notes h))) no_socket) ∙ on

      lane_is : poll_lane c (notes h) ≡ Some lane
      lane_is = this_is lane (poll_lane c (notes h)) holds

      held : is_some (poll_of c (notes h)) ≡ true
      held = by (poll_of c (notes h)) holds
        where
          by : (o : Option (ℕ × ℕ)) → is_this lane (option_map (λ poll. poll.0) o) ≡ true → is_some o ≡ true
          by None e = e
          by (Some p) e = refl

      neither : (is_some (socket_of c (notes h)) ≡ false) × (is_some (lost_at c (notes h)) ≡ false)
      neither = by (is_some (socket_of c (notes h))) (is_some (lost_at c (notes h))) (is_polling c (notes h))
          (let o = st.orderly c in o.one_way) (or_left (is_some (poll_of c (notes h))) (is_some (poll_ended c (notes h))) held)
        where
          by : (a b d : Bool) → ((a || b) && d) ≡ false → d ≡ true → (a ≡ false) × (b ≡ false)
          by true b true e f = absurd (let no : true ≡ false = e in cc)
          by false true true e f = absurd (let no : true ≡ false = e in cc)
          by false false true e f = (refl, refl)
          by a b false e f = absurd (let no : false ≡ true = f in cc)

      is_none : {A : Type 0} (o : Option A) → is_some o ≡ false → o ≡ None
      is_none None e = refl
      is_none (Some a) e = absurd (let no : true ≡ false = e in cc)

      abbrev now : ℕ
      now = moment h

      abbrev g : List ServerEvent
      g = Notes (LaneLost c lane now) ∷ h

      socket_now : socket_of c (notes g) ≡ None
      socket_now = by (socket_of c (notes h)) (is_none (socket_of c (notes h)) neither.0)
        where
          by : (o : Option ℕ) → o ≡ None → (if (c == c) && is_this lane o then None else o) ≡ None
          by o e = ap (λ (o : Option ℕ). if (c == c) && is_this lane o then None else o) e ∙ same ((c == c) && false)
            where
              same : (b : Bool) → ◌≡◌ {A = Option ℕ} (if b then None else None) None
              same true = refl
              same false = refl

      lost_now : lost_at c (notes g) ≡ None
      lost_now =
          ap (λ (b : Bool). if b then Some now else lost_at c (notes h)) (and_right (c == c) (is_this lane (socket_of c (notes h))) no_socket)
          ∙ is_none (lost_at c (notes h)) neither.1

      both : ((c == c) && is_this lane (poll_lane c (notes h))) ≡ true
      both = and_from (c == c) (is_this lane (poll_lane c (notes h))) (eq-eqb c c refl) holds

      poll_now : poll_of c (notes g) ≡ None
      poll_now = ap (λ (b : Bool). if b then None else poll_of c (notes h)) both

      polling_now : is_polling c (notes g) ≡ true
      polling_now =
          or_right (is_some (poll_of c (notes g))) (is_some (poll_ended c (notes g)))
          (ap (λ (b : Bool). is_some (if b then Some now else poll_ended c (notes h))) both)

      on_none : (l : ℕ) → is_at l c g ≡ false
      on_none l =
          and_right (has_peer c h) (is_this l (socket_of c (notes g)) || is_this l (poll_lane c (notes g)))
          (ap (λ o. is_this l o || is_this l (poll_lane c (notes g))) socket_now
          ∙ ap (λ o. is_this l (option_map (λ (poll : ℕ × ℕ). poll.0) o)) poll_now)

      at_lane : (l : ℕ) → is_at l c h ≡ (l == lane)
      at_lane l =
          ap (λ (b : Bool). b && (is_this l (socket_of c (notes h)) || is_this l (poll_lane c (notes h)))) there
          ∙ ap (λ o. is_this l o || is_this l (poll_lane c (notes h))) (is_none (socket_of c (notes h)) neither.0)
          ∙ ap (is_this l) lane_is

      others : (k : ℕ) → (k == c) ≡ false → Alike k g h
      others k e = alike_note (LaneLost c lane now) k h e tt

      orderly_now : IsOrderly settled c g
      orderly_now =
          let o = st.orderly c in
          record {
            made = o.made;
            there = o.there;
            gone = o.gone;
            one_way = ap (λ (b : Option ℕ). (is_some b || is_some (lost_at c (notes g))) && is_polling c (notes g)) socket_now
                ∙ ap (λ (b : Option ℕ). is_some b && is_polling c (notes g)) lost_now;
            ended = λ e. polling_now;
            unused = λ e. absurd (both_ways (is_some (settings_of c (work h))) e (ap is_some t.begun));
            used = λ e. or_right (is_some (socket_of c (notes g)) || is_some (lost_at c (notes g))) (is_polling c (notes g)) polling_now;
            linked = λ e l f. absurd (let no : ◌≡◌ {A = Option ℕ} None (Some l) = sym socket_now ∙ f in cc);
            unlinked = λ e f. absurd (both_ways (is_some (lost_at c (notes g))) (ap is_some lost_now) f);
            kept = λ e f. absurd (both_ways (is_some (lost_at c (notes g))) (ap is_some lost_now) f);
            links = o.links;
            timely = o.timely;
            handled = o.handled;
            taken = o.taken;
          }

      stands_none : conn_on lane h ≡ None
      stands_none = kept_polls (lane_of (Some lane)) x lane h finds_standing has polls

      polls_one : poller_on lane h ≡ Some c
      polls_one = finds_polling.one c there holds
          (λ k here e. has.only k (there_at lane k h here (or_right (is_this lane (socket_of k (notes h))) (is_this lane (poll_lane k (notes h))) e)))

      -- the poll has ended
      pub lost_poll : (f : Front) (lanes : BTreeMap ℕ Lane) → StandsFront s.live f (LaneLost c lane v.moment ∷ notes h)
          → get nat_cmp lanes lane ≡ None → ((k : ℕ) → (k == lane) ≡ false → get nat_cmp lanes k ≡ get nat_cmp v.lanes k)
          → Standing {H = H} hub s settled before (record v { front = f; lanes = lanes })
          (onto (losing_lane (conn_on lane h) (poller_on lane h) lane (moment h) h) h)
      lost_poll f lanes noted none others_kept =
          subst (λ xs. Standing {H = H} hub s settled before (record v { front = f; lanes = lanes }) (onto xs h))
          (sym (ap (λ o. losing_lane o (poller_on lane h) lane (moment h) h) stands_none ∙ ap (λ o. losing_lane None o lane (moment h) h) polls_one))
          (record {
            setup = st.setup;
            machine = st.machine;
            front = subst (λ n. StandsFront s.live f (LaneLost c lane n ∷ notes h)) st.clock noted;
            callers = λ k. st.callers k;
            lanes = λ l. lane_left (lane_of (Some lane)) settled c l g h (get nat_cmp v.lanes l) (get nat_cmp lanes l)
                (same_lane_note l (LaneLost c lane now) h)
                (λ k e. at_alike l k g h (others k e)) (on_none l) (λ e k. socket_same l k (k == c) refl)
                (λ e f. absurd (both_ways (l == lane) (sym (at_lane l) ∙ e) f)) (st.lanes l) (kept_now l (l == lane) refl);
            begun = st.begun;
            orderly = λ k. each k (k == c) refl;
            clock = st.clock;
            words = st.words;
          })
        where
          socket_same : (l k : ℕ) (b : Bool) → (k == c) ≡ b → is_this l (socket_of k (notes g)) ≡ is_this l (socket_of k (notes h))
          socket_same l k true e =
              ap (λ n. is_this l (socket_of n (notes g))) (eqb-true k c e)
              ∙ ap (is_this l) (socket_now ∙ sym (is_none (socket_of c (notes h)) neither.0))
              ∙ ap (λ n. is_this l (socket_of n (notes h))) (sym (eqb-true k c e))
          socket_same l k false e = let a = others k e in ap (is_this l) a.socket

          kept_now : (l : ℕ) (b : Bool) → (l == lane) ≡ b → get nat_cmp lanes l ≡ (if is_at l c h then None else get nat_cmp v.lanes l)
          kept_now l true e =
              ap (λ n. get nat_cmp lanes n) (eqb-true l lane e) ∙ none
              ∙ sym (ap (λ (b : Bool). if b then None else get nat_cmp v.lanes l) (at_lane l ∙ e))
          kept_now l false e = others_kept l e ∙ sym (ap (λ (b : Bool). if b then None else get nat_cmp v.lanes l) (at_lane l ∙ e))

          each : (k : ℕ) (b : Bool) → (k == c) ≡ b → IsOrderly settled k g
          each k true e = subst (λ n. IsOrderly settled n g) (sym (eqb-true k c e)) orderly_now
          each k false e =
              orderly_alike settled k g h (others k e) (omega arith) (orderly_wider (lane_of (Some lane)) settled k h (λ e. e) (λ l e. e)
              (st.orderly k))

    -- it is a WebSocket
    module _ (sockets : x.polls ≡ false) where
      socket : socket_of c (notes h) ≡ Some lane
      socket = this_is lane (socket_of c (notes h)) (by (is_this lane (socket_of c (notes h))) (sym has.polls ∙ sockets))
        where
          by : (b : Bool) → not b ≡ false → b ≡ true
          by true e = refl
          by false e = absurd (let no : true ≡ false = e in cc)

      stands_one : conn_on lane h ≡ Some c
      stands_one = kept_stands (lane_of (Some lane)) x lane h finds_standing has sockets

      abbrev mid : List ServerEvent
      mid = step c (Detached (moment h)) ∷ h

      linked : is_some (present_link (steps t.settings (peer c h))) ≡ true
      linked = ap (λ y. is_some (present_link y)) (sym t.history_is) ∙ (let o = st.orderly c in o.linked there lane socket)

      module _ (m : Machine H Job)
          (detaches : OfConn {H = H} hub v.machine c (λ w t ms. (l : ℕ) → present_link (steps t ms) ≡ Some l → of.moment (steps t ms) ≤ v.moment →
          StandsMachine {H = H} hub m (Does c (Plain (Step_of (Detached v.moment))) ∷ w))) where
        detached : StandsMachine {H = H} hub m (Does c (Plain (Step_of (Detached (moment h)))) ∷ work h)
        detached =
            subst (λ n. StandsMachine {H = H} hub m (Does c (Plain (Step_of (Detached n))) ∷ work h)) st.clock
            (by (present_link (steps t.settings (peer c h))) refl linked)
          where
            by : (o : Option ℕ) → present_link (steps t.settings (peer c h)) ≡ o → is_some o ≡ true
                → StandsMachine {H = H} hub m (Does c (Plain (Step_of (Detached v.moment))) ∷ work h)
            by None e f = absurd (let no : false ≡ true = f in cc)
            by (Some l) e f = detaches (work h) t.settings st.machine t.there l e
                (subst (λ n. of.moment (steps t.settings (peer c h)) ≤ n) (sym st.clock)
                (subst (λ y. of.moment y ≤ moment h) t.history_is (let o = st.orderly c in o.timely)))

        -- its end is off its link, and waits for the next or nothing is kept of it
        pub lost_socket : (granted : Bool) → OfEach {H = H} hub v (λ s u before h. granted ≡ may_resume c h) → (after : Server H Job)
            → OfEach {H = H} hub (record v { machine = m }) (λ s u before h. u ≡ cut_of lane → has_peer c h ≡ true
            → present_link (history c h) ≡ None → socket_of c (notes h) ≡ Some lane → granted ≡ may_resume c h
            → Standing {H = H} hub s settled before after (onto (losing c lane (moment h) h) h))
            → Standing {H = H} hub s settled before after (onto (losing_lane (conn_on lane h) (poller_on lane h) lane (moment h) h) h)
        lost_socket granted told after lost =
            subst (λ xs. Standing {H = H} hub s settled before after (onto xs h))
            (sym (ap (λ o. losing_lane o (poller_on lane h) lane (moment h) h) stands_one))
            (subst (λ (b : Bool). Standing {H = H} hub s settled before after
            (onto (if b then Notes (LaneLost c lane (moment h)) ∷ [] else removing_conn c h) mid))
            (off_granted c (moment h) h)
            (lost s (cut_of lane) before mid (standing_detached {H = H} hub s before v m c lane h st socket detached) refl there
            (off_off c (moment h) h there) socket (told s (lane_of (Some lane)) before h st ∙ sym (off_granted c (moment h) h))))
