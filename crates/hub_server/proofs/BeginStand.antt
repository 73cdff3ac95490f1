-- A connection stands on a socket from now on.
use Rattle.std.proofs.Common.{◌≡◌, ℕ, ◌==◌, Bool, true, false, not, ◌&&◌, ◌||◌, List, [], ◌∷◌, ◌++◌, Option, Some, None, is_some}
use Rattle.std.proofs.Common.{refl, sym, ap, subst, ◌∙◌}
use Rattle.std.specs.Prelude.{option_map}
use Rattle.std.specs.Ordering.{nat_cmp}
use Rattle.std.specs.BTreeMap.{BTreeMap, get, Updates}
use Rattle.std.proofs.lemmas.Bool.{and_from, and_right, both_ways, cond-true, eq-eqb, eqb-true, or_left, or_parts}
use Rattle.std.proofs.lemmas.List.{append_assoc}
use Rattle.hd_delivery.specs.Histories.{Attached, is_this, link_count}
use Rattle.hd_delivery.specs.Bytes.{Does as Step_of}
use Rattle.hd_calls.specs.Hubs.{Hub}
use Rattle.hd_calls.specs.Peers.{Plain}
use Rattle.hd_server.specs.declared.vocabulary.Said.{Said}
use Rattle.hd_server.specs.declared.vocabulary.Said.TheVariants as say
use Rattle.hd_server.specs.Lives.{ConnectionEvent, Socketed, socket_of, lost_at, poll_of, poll_ended, is_removed, is_made, is_polling}
use Rattle.hd_server.specs.Machine.{Does, settings_of}
use Rattle.hd_server.specs.Doings.{ServerEvent, Notes, Says, notes, work, moment, awaits_reply, has_peer, history, is_upgraded}
use Rattle.hd_server.specs.Plans.{PendingRequest, Setup, attaching, connecting, onto, replying, socket_reply, standing_on, step}
use Rattle.hn_server_front.specs.Calls.{IsNoted}
use Rattle.hn_server_front.specs.Calls as calls
use Rattle.hn_server_front.specs.declared.front.Front.{Front}
use Rattle.hub_server.specs.declared.lane.Lane.{Lane}
use Rattle.hub_machine.specs.declared.machine.Machine.{Machine}
use Rattle.hub_server.specs.declared.server.Server.{Server}
use Rattle.hub_machine.specs.Machines.{StandsMachine}
use Rattle.hub_server.specs.Lanes.{conn_of, is_at, poll_lane, settled}
use Rattle.hub_server.specs.Servers.{IsOrderly, Standing, StandsFront}
use Rattle.hub_server.proofs.Alike.{Alike, alike_does, alike_note, alike_says, alike_trans, orderly_alike}
use Rattle.hub_server.proofs.BeginLink.{IsLinked, IsReady, linked}
use Rattle.hub_server.proofs.HoldLanes.{Goes_over, IsOf, goes_over}
use Rattle.hub_server.proofs.HoldPolls.{CutsLane, begun_of, cut_none, cut_some, not_later}
use Rattle.hub_server.proofs.LaneKept.{lane_wider, orderly_wider, same_lane_note, same_lane_reply, same_lane_trans, same_lane_works}
use Rattle.hub_server.proofs.OntoAlike.{onto_append}
use Rattle.hub_server.proofs.SameSetup.{same_setup}
use Rattle.hub_server.proofs.FrontNoted.{noted_front}

-- ---- the list of what is done

socket_replying : (lane : ℕ) (accept : Option (List ℕ)) (h : List ServerEvent)
    → replying lane (socket_reply accept) h ≡ Says (say.Reply lane (socket_reply accept)) ∷ []
socket_replying lane accept h = refl

-- what stands on a connection that has its peer
abbrev pub stood_on : ℕ → ℕ → ℕ → ℕ → Option (List ℕ) → List ServerEvent → List ServerEvent
stood_on k n at now accept g = Says (say.Reply at (socket_reply accept)) ∷ Notes (Socketed k at now) ∷ step k (Attached n now) ∷ g

pub standing_list : (s : Setup) (o : PendingRequest) (k : ℕ) (resumable : Bool) (h : List ServerEvent) (n at now : ℕ) (accept : List ℕ)
    → link_count (history k h) ≡ n
    → o.now ≡ now → o.lane ≡ at → o.request.upgrade ≡ Some accept
    → onto (standing_on s o k resumable h) h ≡ stood_on k n at now (Some accept) (onto (connecting s k resumable h) h)
standing_list s o k resumable h n at now accept count when where_at upgrade =
    onto_append (connecting s k resumable h ++ attaching k o.now h)
    (Notes (Socketed k o.lane o.now) ∷ replying o.lane (socket_reply o.request.upgrade) h) h
    ∙ ap (onto (Notes (Socketed k o.lane o.now) ∷ replying o.lane (socket_reply o.request.upgrade) h))
    (onto_append (connecting s k resumable h) (attaching k o.now h) h)
    ∙ ap (λ xs. onto xs (Notes (Socketed k o.lane o.now) ∷ step k (Attached (link_count (history k h)) o.now) ∷ onto (connecting s k resumable h) h))
    (socket_replying o.lane o.request.upgrade h)
    ∙ ap (λ x. stood_on k x o.lane o.now o.request.upgrade (onto (connecting s k resumable h) h)) count
    ∙ ap (λ x. stood_on k n o.lane x o.request.upgrade (onto (connecting s k resumable h) h)) when
    ∙ ap (λ x. stood_on k n x now o.request.upgrade (onto (connecting s k resumable h) h)) where_at
    ∙ ap (λ x. stood_on k n at now x (onto (connecting s k resumable h) h)) upgrade

-- ---- the lane on which it stood

lane_is : (o : Option ℕ) (k : ℕ) (n : List ConnectionEvent) → o ≡ calls.lane_of k n → is_made k n ≡ true → is_removed k n ≡ false → o ≡ socket_of k n
lane_is o k n e made held =
    e ∙ cond-true (is_made k n && not (is_removed k n)) (socket_of k n) None (and_from (is_made k n) (not (is_removed k n)) made (ap not held))

pub cuts_socket : {H Job : Type 0} (k : ℕ) (n : List ConnectionEvent) (o : Option ℕ) (l : ℕ) (old mid : Server H Job) (lanes : BTreeMap ℕ Lane)
    → o ≡ calls.lane_of k n
    → is_made k n ≡ true → is_removed k n ≡ false → o ≡ Some l → Updates nat_cmp old.lanes lanes l None → mid ≡ record old { lanes = lanes }
    → CutsLane {H = H} {Job = Job} (socket_of k n) old mid
cuts_socket {H} {Job} k n o l old mid lanes e made held is updates same =
    subst (λ x. CutsLane {H = H} {Job = Job} x old mid) (sym is ∙ lane_is o k n e made held)
    (cut_some {H = H} {Job = Job} l old mid lanes updates same)

pub cuts_unsocketed : {H Job : Type 0} (k : ℕ) (n : List ConnectionEvent) (o : Option ℕ) (old mid : Server H Job) → o ≡ calls.lane_of k n
    → is_made k n ≡ true → is_removed k n ≡ false → o ≡ None → mid ≡ old → CutsLane {H = H} {Job = Job} (socket_of k n) old mid
cuts_unsocketed {H} {Job} k n o old mid e made held is same =
    subst (λ x. CutsLane {H = H} {Job = Job} x old mid) (sym is ∙ lane_is o k n e made held) (cut_none {H = H} {Job = Job} old mid same)

-- ---- the server

used_first : (a l p : Bool) → (a || (true || l || p)) ≡ true
used_first true l p = refl
used_first false l p = refl

none_of : {A : Type 0} (o : Option A) → is_some o ≡ false → o ≡ None
none_of None e = refl
none_of (Some x) e = absurd (both_ways true e refl)

without_other : (b : Bool) → (b || false) ≡ b
without_other true = refl
without_other false = refl

-- with a peer and without polls, a connection is where its socket is
at_socket : (l k : ℕ) (h : List ServerEvent) → has_peer k h ≡ true → is_polling k (notes h) ≡ false → is_at l k h ≡ is_this l (socket_of k (notes h))
at_socket l k h there unpolled =
    let none : poll_of k (notes h) ≡ None = none_of (poll_of k (notes h))
    (or_parts (is_some (poll_of k (notes h))) (is_some (poll_ended k (notes h))) unpolled).0 in
    ap (λ b. b && (is_this l (socket_of k (notes h)) || is_this l (poll_lane k (notes h)))) there
    ∙ ap (λ (o : Option (ℕ × ℕ)). is_this l (socket_of k (notes h)) || is_this l (option_map (λ (p : ℕ × ℕ). p.0) o)) none
    ∙ without_other (is_this l (socket_of k (notes h)))

module _ {H Job : Type 0} (hub : Hub Job) (s : Setup) (before : List Said) (v : Server H Job) (k at : ℕ) (is_last : Bool) (accept : List ℕ)
    (h : List ServerEvent)
    (st : Standing {H = H} hub s (conn_of k) before v h) (ready : IsReady k at is_last h) where
  abbrev n : ℕ
  n = link_count (history k h)

  abbrev g1 : List ServerEvent
  g1 = step k (Attached n (moment h)) ∷ h

  abbrev g2 : List ServerEvent
  g2 = Notes (Socketed k at (moment h)) ∷ g1

  abbrev g : List ServerEvent
  g = stood_on k n at (moment h) (Some accept) h

  others : (c : ℕ) → (c == k) ≡ false → Alike c g h
  others c e = alike_trans c g g2 h (alike_says (say.Reply at (socket_reply (Some accept))) c g2)
      (alike_trans c g2 g1 h (alike_note (Socketed k at (moment h)) c g1 e tt) (alike_does c k (Plain (Step_of (Attached n (moment h)))) h e))

  socket_now : socket_of k (notes g) ≡ Some at
  socket_now = cond-true (k == k) (Some at) (socket_of k (notes h)) (eq-eqb k k refl)

  lost_now : is_some (lost_at k (notes g)) ≡ false
  lost_now = ap (λ (o : Option ℕ). is_some o) (cond-true (k == k) None (lost_at k (notes h)) (eq-eqb k k refl))

  over : Goes_over k at (socket_of k (notes h)) g h
  over = record {
    same = λ l e. same_lane_trans l g g2 h (same_lane_reply l at (socket_reply (Some accept)) g2 e)
        (same_lane_trans l g2 g1 h (same_lane_note l (Socketed k at (moment h)) g1)
        (same_lane_works l (Does k (Plain (Step_of (Attached n (moment h))))) h));
    others = others;
    was = λ l e. at_socket l k h ready.there ready.unpolled ∙ e;
    was_only = λ l e. at_socket l k h ready.there ready.unpolled ∙ e;
    unsocketed = λ l e. e;
    here = at_socket at k g ready.there ready.unpolled ∙ ap (is_this at) socket_now ∙ eq-eqb at at refl;
    here_only = λ l e. at_socket l k g ready.there ready.unpolled ∙ ap (is_this l) socket_now ∙ e;
    socketed = λ l e. ap (is_this l) socket_now ∙ e;
  }

  own_lane : IsOf k at (record { conn = k; polls = false; is_last = is_last; is_refused = false; is_full = false }) g
  own_lane = record {
    conn = refl;
    polls = sym (ap not (ap (is_this at) socket_now ∙ eq-eqb at at refl));
    last = ready.come.last;
    refused = sym ready.come.unrefused;
    full = sym ready.come.empty;
    taken = or_left (is_upgraded at g) (awaits_reply at g)
        (or_left ((at == at) && (101 == 101)) (is_upgraded at g2) (and_from (at == at) (101 == 101) (eq-eqb at at refl) refl));
  }

  stays : IsOrderly (conn_of k) k h
  stays = st.orderly k

  link : IsLinked k n (moment h) h
  link = linked (conn_of k) k h stays ready.there

  own_orderly : IsOrderly settled k g
  own_orderly = record {
    made = λ e. ready.made;
    there = stays.there;
    gone = stays.gone;
    one_way = and_right (is_some (socket_of k (notes g)) || is_some (lost_at k (notes g))) (is_polling k (notes h)) ready.unpolled;
    ended = stays.ended;
    unused = λ e. absurd (both_ways (is_some (settings_of k (work h))) e (begun_of k h ready.there));
    used = λ e. subst (λ (o : Option ℕ). (false || (is_some o || is_some (lost_at k (notes g)) || is_polling k (notes h))) ≡ true) (sym socket_now)
        (used_first false (is_some (lost_at k (notes g))) (is_polling k (notes h)));
    linked = λ e lane f. ap (λ (o : Option ℕ). is_some o) link.present;
    unlinked = λ e f. absurd (both_ways (is_some (lost_at k (notes g))) lost_now f);
    kept = λ e f. absurd (both_ways (is_some (lost_at k (notes g))) lost_now f);
    links = link.links;
    timely = link.timely;
    handled = link.handled;
    taken = link.taken;
  }

  each : (c : ℕ) (b : Bool) → (c == k) ≡ b → IsOrderly settled c g
  each c true e = subst (λ x. IsOrderly settled x g) (sym (eqb-true c k e)) own_orderly
  each c false e = orderly_alike settled c g h (others c e) (not_later (moment h))
      (orderly_wider (conn_of k) settled c h (λ f. absurd (both_ways (c == k) e f)) (λ l f. f) (st.orderly c))

  pub stands_now : (machine : Machine H Job) → StandsMachine {H = H} hub machine (Does k (Plain (Step_of (Attached n (moment h)))) ∷ work h)
      → (mid : Server H Job) → CutsLane {H = H} {Job = Job} (socket_of k (notes h)) (record v { machine = machine }) mid
      → (f : Front) → IsNoted mid.front f k (Socketed k at mid.moment)
      → (lanes : BTreeMap ℕ Lane) → Updates nat_cmp mid.lanes lanes at
      (Some (record { conn = k; polls = false; is_last = is_last; is_refused = false; is_full = false }))
      → (words : List Said) → words ≡ mid.words ++ say.Reply at (socket_reply (Some accept)) ∷ []
      → Standing {H = H} hub s settled before (record mid { front = f; lanes = lanes; words = words }) g
  stands_now machine stands mid cut f noted lanes enters words says = record {
    setup = same_setup s cut.base cut.resend st.setup;
    machine = subst (λ m. StandsMachine {H = H} hub m (work g)) (sym cut.machine) stands;
    front = subst (λ x. StandsFront s.live f (Socketed k at x ∷ notes h)) (cut.clock ∙ st.clock)
        (noted_front s.live mid.front f k (Socketed k at mid.moment) (notes h) noted
        (subst (λ x. StandsFront s.live x (notes h)) (sym cut.front) st.front) ready.made);
    callers = λ c. ap (λ m. get nat_cmp m c) cut.callers ∙ st.callers c;
    lanes = λ l. goes_over k at (socket_of k (notes h)) g h over ready.come.nobody
        (record { conn = k; polls = false; is_last = is_last; is_refused = false; is_full = false }) own_lane
        v.lanes mid.lanes lanes (λ l. lane_wider (conn_of k) settled (get nat_cmp v.lanes l) l h (λ e. e) (st.lanes l)) cut.lanes enters l;
    begun = st.begun;
    orderly = λ c. each c (c == k) refl;
    clock = cut.clock ∙ st.clock;
    words = ap (λ l. l ++ say.Reply at (socket_reply (Some accept)) ∷ []) st.words
        ∙ append_assoc before v.words (say.Reply at (socket_reply (Some accept)) ∷ [])
        ∙ ap (λ w. before ++ w) (ap (λ w. w ++ say.Reply at (socket_reply (Some accept)) ∷ []) (sym cut.words) ∙ sym says);
  }
