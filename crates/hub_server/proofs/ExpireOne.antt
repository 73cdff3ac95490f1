-- One connection comes to its moment, as the whole server stands for it.
use Rattle.std.proofs.Common.{◌≡◌, ℕ, ◌==◌, Bool, true, false, not, ◌&&◌, ◌||◌, List, [], ◌∷◌, ◌++◌, Option, Some, None, is_some}
use Rattle.std.proofs.Common.{refl, sym, ap, subst, ◌∙◌, arith}
use Rattle.std.specs.Prelude.{if◌then◌else◌}
use Rattle.std.specs.Ordering.{nat_cmp}
use Rattle.std.specs.BTreeMap.{BTreeMap, Updates, get}
use Rattle.std.proofs.lemmas.Bool.{and_from, and_left, and_right, both_ways, eq-eqb, eqb-true, or_from, or_left, or_right}
use Rattle.std.specs.Cmp.{unsigned_tied}
use Rattle.hd_delivery.specs.declared.vocabulary.Reason.{Reason}
use Rattle.hd_delivery.specs.declared.vocabulary.Reason.TheVariants as reason
use Rattle.hd_delivery.specs.Histories.{Closed, is_this}
use Rattle.hd_delivery.specs.Bytes.{Does as Step_of}
use Rattle.hd_calls.specs.Hubs.{Hub}
use Rattle.hd_calls.specs.Peers.{PeerEvent, Plain, Settings, is_shut}
use Rattle.hd_server.specs.declared.vocabulary.Said.{Said}
use Rattle.hd_server.specs.declared.vocabulary.Life.{Life}
use Rattle.hd_server.specs.declared.vocabulary.Life.TheVariants.{Unknown, Fresh, Socket, Lost, Polling, Ending}
use Rattle.hd_server.specs.Lives.{Expired, ended_at, ends_then, is_removed, is_opened, is_polling, life_of, lost_at, negotiated_at, only_polls}
use Rattle.hd_server.specs.Lives.{overdue, past, socket_of, standing}
use Rattle.hd_server.specs.Machine.{Does, Goes, has_gone, is_open_at, moves, settings_of}
use Rattle.hd_server.specs.Doings.{ServerEvent, Notes, Works, has_peer, is_up, moment, notes, user_of, work}
use Rattle.hd_server.specs.Plans.{Setup, closing, dropping, expiring, onto, step}
use Rattle.hn_server_front.specs.declared.front.Front.{Front}
use Rattle.hn_server_front.specs.Calls as calls
use Rattle.hn_server_front.specs.Stands as front
use Rattle.hub_machine.specs.declared.machine.Machine.{Machine}
use Rattle.hub_server.specs.declared.server.Server.{Server}
use Rattle.hub_server.specs.Connections.{HasLeft, IsKnown}
use Rattle.hub_server.specs.Events.{ExpiresFirst}
use Rattle.hub_machine.specs.Machines.{OfConn, StandsMachine, peer_at, settings_there}
use Rattle.hub_server.specs.Lanes.{Unsettled}
use Rattle.hub_server.specs.Servers.{IsOrderly, Standing, caller_of, StandsFront}
use Rattle.hub_server.proofs.Alike.{alike_goes, alike_note, alike_trans, at_alike, caller_alike, orderly_alike}
use Rattle.hub_server.proofs.Calm.{orderly_closed}
use Rattle.hub_server.proofs.Gone.{Freed, at_is_on, is_on, lane_left}
use Rattle.hub_server.proofs.GoneServer.{absent_settings, no_peer}
use Rattle.hub_server.proofs.LaneKept.{lane_kept, same_lane_note, same_lane_trans, same_lane_works}
use Rattle.hub_server.proofs.ExpireNotes.{GoesThen, IsOverdue, OnlyPolls, first_overdue, goes_then, life_then, past_polling, polls_only}
use Rattle.hub_server.proofs.TickSteps.{begun_here, chosen, passed_by, standing_steps}
use Rattle.hub_server.proofs.HoldLanes.{turned}
use Rattle.hub_server.proofs.SameSetup.{same_setup}

-- ---- one that is closed

-- how a connection that isn't there was begun, its end isn't open
shut_there : (gone : Bool) (o : Option Settings) (ms : List PeerEvent) → (if gone then None else o) ≡ None → (not gone && is_open_at o ms) ≡ false
shut_there true o ms e = refl
shut_there false None ms e = refl
shut_there false (Some t) ms e = absurd (let no : ◌≡◌ {A = Option Settings} (Some t) None = e in cc)

-- and one that is there is open if its end isn't closed
open_there : (gone : Bool) (o : Option Settings) (t : Settings) (ms : List PeerEvent) → (if gone then None else o) ≡ Some t
    → (not gone && is_open_at o ms) ≡ not (is_shut t ms)
open_there true o t ms e = absurd (let no : ◌≡◌ {A = Option Settings} None (Some t) = e in cc)
open_there false o t ms e = ap (λ (x : Option Settings). is_open_at x ms) e

-- another machine stands for the same
with_machine : {H Job : Type 0} (hub : Hub Job) (s : Setup) (u : Unsettled) (before : List Said) (v : Server H Job) (m : Machine H Job)
    (h : List ServerEvent)
    → Standing {H = H} hub s u before v h → StandsMachine {H = H} hub m (work h) → Standing {H = H} hub s u before (record v { machine = m }) h
with_machine {H} hub s u before v m h st machine = record {
  setup = st.setup;
  machine = machine;
  front = st.front;
  callers = st.callers;
  lanes = st.lanes;
  begun = st.begun;
  orderly = st.orderly;
  clock = st.clock;
  words = st.words;
}

pub standing_closes : {H Job : Type 0} (hub : Hub Job) (s : Setup) (u : Unsettled) (before : List Said) (v : Server H Job) (m : Machine H Job)
    (c : ℕ) (why : Reason) (h : List ServerEvent)
    → Standing {H = H} hub s u before v h
    → OfConn {H = H} hub v.machine c (λ w t ms. is_shut t ms ≡ false → StandsMachine {H = H} hub m (Does c (Plain (Step_of (Closed why false))) ∷ w))
    → OfConn {H = H} hub v.machine c (λ w t ms. is_shut t ms ≡ true → StandsMachine {H = H} hub m w)
    → (peer_at v.machine c ≡ None → m ≡ v.machine)
    → Standing {H = H} hub s u before (record v { machine = m }) (onto (closing c why h) h)
standing_closes {H} {Job} hub s u before v m c why h st live closed absent = by (settings_there c (work h)) refl
  where
    by_state : (b : Bool) → is_up c h ≡ b → Standing {H = H} hub s u before (record v { machine = m })
        (onto (if b then step c (Closed why false) ∷ [] else []) h)
        → Standing {H = H} hub s u before (record v { machine = m }) (onto (closing c why h) h)
    by_state b e x = subst (λ (b : Bool). Standing {H = H} hub s u before (record v { machine = m })
        (onto (if b then step c (Closed why false) ∷ [] else []) h)) (sym e) x

    by_end : (t : Settings) → settings_there c (work h) ≡ Some t → (b : Bool) → is_shut t (moves c (work h)) ≡ b
        → Standing {H = H} hub s u before (record v { machine = m }) (onto (closing c why h) h)
    by_end t e true f = by_state false (open_there (has_gone c (work h)) (settings_of c (work h)) t (moves c (work h)) e ∙ ap not f)
        (with_machine {H = H} hub s u before v m h st (closed (work h) t st.machine e f))
    by_end t e false f =
        by_state true (open_there (has_gone c (work h)) (settings_of c (work h)) t (moves c (work h)) e ∙ ap not f)
        (standing_steps {H = H} hub s u u before v m c (Closed why false) h (λ l e. e) (λ k e. e) (λ l e. e) st (live (work h) t st.machine e f)
        (orderly_closed u c why false h (st.orderly c)))

    by : (o : Option Settings) → settings_there c (work h) ≡ o → Standing {H = H} hub s u before (record v { machine = m }) (onto (closing c why h) h)
    by None e =
        by_state false (shut_there (has_gone c (work h)) (settings_of c (work h)) (moves c (work h)) e)
        (with_machine {H = H} hub s u before v m h st
        (subst (λ x. StandsMachine {H = H} hub x (work h)) (sym (absent (no_peer {H = H} {Job = Job} hub v.machine (work h) c st.machine e)))
        st.machine))
    by (Some t) e = by_end t e (is_shut t (moves c (work h))) refl

-- ---- one that only polls

module _ {H Job : Type 0} (hub : Hub Job) (s : Setup) (u : Unsettled) (before : List Said) (v : Server H Job) (c : ℕ) (h : List ServerEvent)
    (st : Standing {H = H} hub s u before v h) (polls : standing c (notes h) ≡ Polling) where
  only : OnlyPolls (is_removed c (notes h)) (is_some (ended_at c (notes h))) (socket_of c (notes h)) (is_some (lost_at c (notes h)))
      (is_polling c (notes h))
  only = polls_only (is_removed c (notes h)) (is_some (ended_at c (notes h))) (socket_of c (notes h)) (is_some (lost_at c (notes h)))
      (is_polling c (notes h))
      (is_opened c (notes h) || is_some (negotiated_at c (notes h))) polls

  abbrev now : ℕ
  now = moment h

  abbrev after : List ServerEvent
  after = Notes (Expired c now) ∷ h

  ends : ends_then c (notes h) ≡ true
  ends = and_from (only_polls c (notes h)) (not (is_some (ended_at c (notes h))))
      (and_from (is_polling c (notes h)) (not (is_some (socket_of c (notes h)) || is_some (lost_at c (notes h)))) only.polling
      (ap not (or_from (is_some (socket_of c (notes h))) (is_some (lost_at c (notes h))) (ap is_some only.unsocketed) only.unlost)))
      (ap not only.lasts)

  -- it isn't let go
  kept : (k : ℕ) → is_removed k (notes after) ≡ is_removed k (notes h)
  kept k = by (k == c) refl
    where
      by : (b : Bool) → (k == c) ≡ b → (((k == c) && not (ends_then k (notes h))) || is_removed k (notes h)) ≡ is_removed k (notes h)
      by true e = ap (λ (b : Bool). b || is_removed k (notes h))
          (and_right (k == c) (not (ends_then k (notes h))) (ap not (ap (λ n. ends_then n (notes h)) (eqb-true k c e) ∙ ends)))
      by false e = ap (λ (b : Bool). (b && not (ends_then k (notes h))) || is_removed k (notes h)) e

  orderly_then : IsOrderly u c after
  orderly_then =
      let o = st.orderly c in
      record {
        made = o.made;
        there = λ e. kept c ∙ o.there e;
        gone = λ e f. kept c ∙ o.gone e f;
        one_way = o.one_way;
        ended = λ e. only.polling;
        unused = o.unused;
        used = o.used;
        linked = o.linked;
        unlinked = o.unlinked;
        kept = o.kept;
        links = o.links;
        timely = o.timely;
        handled = o.handled;
        taken = o.taken;
      }

  pub standing_ends : (f : Front) → StandsFront s.live f (Expired c now ∷ notes h) → Standing {H = H} hub s u before (record v { front = f }) after
  standing_ends f stands = record {
    setup = st.setup;
    machine = st.machine;
    front = stands;
    callers = λ k. st.callers k ∙ sym (ap (λ (b : Bool). if is_some (settings_of k (work h)) || b then None else user_of k h) (kept k));
    lanes = λ l. lane_kept u (get nat_cmp v.lanes l) l after h (same_lane_note l (Expired c now) h) (λ k. refl) (λ k. refl) (st.lanes l);
    begun = st.begun;
    orderly = λ k. each k (k == c) refl;
    clock = st.clock;
    words = st.words;
  }
    where
      each : (k : ℕ) (b : Bool) → (k == c) ≡ b → IsOrderly u k after
      each k true e = subst (λ n. IsOrderly u n after) (sym (eqb-true k c e)) orderly_then
      each k false e = orderly_alike u k after h (alike_note (Expired c now) k h e tt) (omega arith) (st.orderly k)

-- ---- one of which nothing is kept

module _ (c now : ℕ) (h : List ServerEvent) (ends : ends_then c (notes h) ≡ false) where
  let_go_then : (g : List ServerEvent) → notes g ≡ notes h → is_removed c (notes (Notes (Expired c now) ∷ g)) ≡ true
  let_go_then g same =
      or_left ((c == c) && not (ends_then c (notes g))) (is_removed c (notes g))
      (and_from (c == c) (not (ends_then c (notes g))) (eq-eqb c c refl) (ap not (ap (λ n. ends_then c n) same ∙ ends)))

  ended_same : (g : List ServerEvent) → notes g ≡ notes h → ended_at c (notes (Notes (Expired c now) ∷ g)) ≡ ended_at c (notes h)
  ended_same g same =
      ap (λ n. ended_at c (Expired c now ∷ n)) same
      ∙ passed_by {A = Option ℕ} ((c == c) && (only_polls c (notes h) && not (is_some (ended_at c (notes h))))) (Some now) (ended_at c (notes h))
      (and_right (c == c) (ends_then c (notes h)) ends)

  none_calls : (g : List ServerEvent) → is_removed c (notes g) ≡ true → caller_of c g ≡ None
  none_calls g e =
      chosen {A = Option (List ℕ)} (is_some (settings_of c (work g)) || is_removed c (notes g)) None (user_of c g)
      (or_right (is_some (settings_of c (work g))) (is_removed c (notes g)) e)

  abbrev dropped : List ServerEvent
  dropped = Notes (Expired c now) ∷ Works (Goes c) ∷ h

  abbrev noted : List ServerEvent
  noted = Notes (Expired c now) ∷ h

  gone_then : has_peer c dropped ≡ false
  gone_then = and_right (is_some (settings_of c (work h))) (not ((c == c) || has_gone c (work h)))
      (ap (λ (b : Bool). not (b || has_gone c (work h))) (eq-eqb c c refl))

  pub freed_dropped : Freed c dropped h
  freed_dropped = record {
    others = λ k e. alike_trans k dropped (Works (Goes c) ∷ h) h (alike_note (Expired c now) k (Works (Goes c) ∷ h) e tt) (alike_goes k c h e);
    lanes = λ l. same_lane_trans l dropped (Works (Goes c) ∷ h) h (same_lane_note l (Expired c now) (Works (Goes c) ∷ h))
        (same_lane_works l (Goes c) h);
    sockets = λ k. refl;
    absent = gone_then;
    orderly = λ u v o. record {
      made = o.made;
      there = λ e. absurd (both_ways (has_peer c dropped) gone_then e);
      gone = λ e f. let_go_then (Works (Goes c) ∷ h) refl;
      one_way = o.one_way;
      ended = λ e. o.ended (sym (ap is_some (ended_same (Works (Goes c) ∷ h) refl)) ∙ e);
      unused = o.unused;
      used = λ e. absurd (both_ways (has_peer c dropped) gone_then e);
      linked = λ e l f. absurd (both_ways (has_peer c dropped) gone_then e);
      unlinked = λ e f. absurd (both_ways (has_peer c dropped) gone_then e);
      kept = λ e f. absurd (both_ways (has_peer c dropped) gone_then e);
      links = o.links;
      timely = o.timely;
      handled = o.handled;
      taken = o.taken;
    };
    uncalled = none_calls dropped (let_go_then (Works (Goes c) ∷ h) refl);
    begun = λ k. refl;
    same_moment = refl;
    same_words = refl;
  }

  pub freed_noted : has_peer c h ≡ false → Freed c noted h
  freed_noted none = record {
    others = λ k e. alike_note (Expired c now) k h e tt;
    lanes = λ l. same_lane_note l (Expired c now) h;
    sockets = λ k. refl;
    absent = none;
    orderly = λ u v o. record {
      made = o.made;
      there = λ e. absurd (both_ways (has_peer c h) none e);
      gone = λ e f. let_go_then h refl;
      one_way = o.one_way;
      ended = λ e. o.ended (sym (ap is_some (ended_same h refl)) ∙ e);
      unused = o.unused;
      used = λ e. absurd (both_ways (has_peer c h) none e);
      linked = λ e l f. absurd (both_ways (has_peer c h) none e);
      unlinked = λ e f. absurd (both_ways (has_peer c h) none e);
      kept = λ e f. absurd (both_ways (has_peer c h) none e);
      links = o.links;
      timely = o.timely;
      handled = o.handled;
      taken = o.taken;
    };
    uncalled = none_calls noted (let_go_then h refl);
    begun = λ k. refl;
    same_moment = refl;
    same_words = refl;
  }

-- it left its lanes, has no peer, and isn't known
pub standing_goes : {H Job : Type 0} (hub : Hub Job) (s : Setup) (u : Unsettled) (before : List Said) (v mid : Server H Job) (c : ℕ)
    (h g : List ServerEvent)
    → Standing {H = H} hub s u before v h → Freed c g h → IsKnown c h → HasLeft {H = H} c v mid h → (m : Machine H Job)
    → StandsMachine {H = H} hub m (work g)
    → (f : Front) → StandsFront s.live f (notes g) → (callers : BTreeMap ℕ (List ℕ)) → Updates nat_cmp mid.callers callers c None
    → Standing {H = H} hub s u before (record mid { machine = m; front = f; callers = callers }) g
standing_goes {H} hub s u before v mid c h g st freed known left m machine f stands callers updates = record {
  setup = same_setup s left.base left.resend st.setup;
  machine = machine;
  front = stands;
  callers = λ k. called k (k == c) refl;
  lanes = λ l. lane_left u u c l g h (get nat_cmp v.lanes l) (get nat_cmp mid.lanes l) (freed.lanes l) (λ k e. at_alike l k g h (freed.others k e))
      (and_left (has_peer c g) (is_on l c g) freed.absent) (λ e k. ap (is_this l) (freed.sockets k)) (λ e x. x) (st.lanes l)
      (left.lanes l ∙ ap (λ (b : Bool). if b then None else get nat_cmp v.lanes l) (sym (at_is_on u l c h known (st.orderly c))));
  begun = λ k t e. st.begun k t (sym (freed.begun k) ∙ e);
  orderly = λ k. each k (k == c) refl;
  clock = left.clock ∙ st.clock ∙ sym freed.same_moment;
  words = freed.same_words ∙ st.words ∙ ap (λ w. before ++ w) (sym left.words);
}
  where
    called : (k : ℕ) (b : Bool) → (k == c) ≡ b → get nat_cmp callers k ≡ caller_of k g
    called k true e = ap (λ n. get nat_cmp callers n) (eqb-true k c e) ∙ updates.1 ∙ sym freed.uncalled
        ∙ sym (ap (λ n. caller_of n g) (eqb-true k c e))
    called k false e =
        updates.2 k (unsigned_tied c k ∙ turned k c e) ∙ ap (λ m. get nat_cmp m k) left.callers ∙ st.callers k
        ∙ sym (caller_alike k g h (freed.others k e))

    each : (k : ℕ) (b : Bool) → (k == c) ≡ b → IsOrderly u k g
    each k true e = subst (λ n. IsOrderly u n g) (sym (eqb-true k c e)) (freed.orderly u u (st.orderly c))
    each k false e = let same = freed.same_moment in orderly_alike u k g h (freed.others k e) (omega (arith, same)) (st.orderly k)

-- ---- the first that is overdue

module _ {H Job : Type 0} (hub : Hub Job) (s : Setup) (u : Unsettled) (before : List Said) (v : Server H Job) (h : List ServerEvent)
    (st : Standing {H = H} hub s u before v h) (c : ℕ) (rest : List ℕ) (first : overdue v.moment (notes h) ≡ c ∷ rest) where
  is_first : overdue (moment h) (notes h) ≡ c ∷ rest
  is_first = ap (λ n. overdue n (notes h)) (sym st.clock) ∙ first

  is_overdue : IsOverdue c (moment h) (notes h)
  is_overdue = first_overdue c (moment h) rest (notes h) is_first

  life_is : life_of c v.moment (notes h) ≡ past (standing c (notes h))
  life_is = ap (λ n. life_of c n (notes h)) st.clock ∙ life_then c (moment h) (notes h) is_overdue.come

  -- the front has noted it
  noted_by : (f : Front) (mid : Front) (handed : Option ℕ) → mid ≡ v.front → calls.OfEach mid (λ n. calls.Expires f n v.moment handed)
      → calls.OfEach mid (λ n. f.live ≡ mid.live)
      → StandsFront s.live f (Expired c (moment h) ∷ notes h)
  noted_by f mid handed same expires limit =
      let was : StandsFront s.live mid (notes h) = subst (λ x. StandsFront s.live x (notes h)) (sym same) st.front in
      subst (λ n. StandsFront s.live f (Expired c n ∷ notes h)) st.clock
      (record { stands = by handed (expires (notes h) was.stands); limit = limit (notes h) was.stands ∙ was.limit })
    where
      by : (o : Option ℕ) → calls.Expires f (notes h) v.moment o → front.Stands f (Expired c v.moment ∷ notes h)
      by None x = absurd (let no : ◌≡◌ {A = List ℕ} [] (c ∷ rest) = sym x.0 ∙ first in cc)
      by (Some k) x =
          let same : (k ∷ x.0.0) ≡ (c ∷ rest) = sym x.0.1 ∙ first in
          let is : k ≡ c = cc in
          subst (λ n. front.Stands f (Expired n v.moment ∷ notes h)) is x.1

  -- it polls, and is closed
  pub expires_closing : life_of c v.moment (notes h) ≡ Ending → (m : Machine H Job)
      → OfConn {H = H} hub v.machine c (λ w t ms. is_shut t ms ≡ false
      → StandsMachine {H = H} hub m (Does c (Plain (Step_of (Closed reason.Expired false))) ∷ w))
      → OfConn {H = H} hub v.machine c (λ w t ms. is_shut t ms ≡ true → StandsMachine {H = H} hub m w)
      → (peer_at v.machine c ≡ None → m ≡ v.machine)
      → (f : Front) (handed : Option ℕ) → calls.OfEach v.front (λ n. calls.Expires f n v.moment handed)
      → calls.OfEach v.front (λ n. f.live ≡ v.front.live)
      → ExpiresFirst {H = H} hub s u before (record v { machine = m; front = f }) h
  expires_closing ending m live closed absent f handed expires limit = record {
    conn = c;
    rest = rest;
    first = is_first;
    stands =
        subst (λ life. Standing {H = H} hub s u before (record v { machine = m; front = f }) (onto (expiring (moment h) life c h) h)) (sym polls)
        (by (is_up c h) (standing_closes {H = H} hub s u before v m c reason.Expired h st live closed absent));
  }
    where
      polls : standing c (notes h) ≡ Polling
      polls = past_polling (standing c (notes h)) (sym life_is ∙ ending)

      by : (b : Bool) → Standing {H = H} hub s u before (record v { machine = m })
          (onto (if b then step c (Closed reason.Expired false) ∷ [] else []) h)
          → Standing {H = H} hub s u before (record v { machine = m; front = f })
          (onto ((if b then step c (Closed reason.Expired false) ∷ [] else []) ++ Notes (Expired c (moment h)) ∷ []) h)
      by true x =
          standing_ends {H = H} hub s u before (record v { machine = m }) c (step c (Closed reason.Expired false) ∷ h) x polls f
          (noted_by f v.front handed refl expires limit)
      by false x = standing_ends {H = H} hub s u before (record v { machine = m }) c h x polls f (noted_by f v.front handed refl expires limit)

  -- nothing is kept of it
  pub expires_dropping : (life_of c v.moment (notes h) ≡ Ending → ⊥) → (mid : Server H Job)
      → (IsKnown c h → HasLeft {H = H} c v mid h)
      → (m : Machine H Job) → OfConn {H = H} hub mid.machine c (λ w t ms. StandsMachine {H = H} hub m (Goes c ∷ w))
      → (peer_at mid.machine c ≡ None → m ≡ mid.machine)
      → (callers : BTreeMap ℕ (List ℕ)) → Updates nat_cmp mid.callers callers c None
      → (f : Front) (handed : Option ℕ) → calls.OfEach mid.front (λ n. calls.Expires f n mid.moment handed)
      → calls.OfEach mid.front (λ n. f.live ≡ mid.front.live)
      → ExpiresFirst {H = H} hub s u before (record mid { machine = m; front = f; callers = callers }) h
  expires_dropping lasts mid leaves m goes absent callers updates f handed expires limit = record {
    conn = c;
    rest = rest;
    first = is_first;
    stands = by_life (standing c (notes h)) refl;
  }
    where
      other : standing c (notes h) ≡ Polling → ⊥
      other e = lasts (life_is ∙ ap past e)

      goes_now : GoesThen (is_removed c (notes h)) (is_some (ended_at c (notes h))) (socket_of c (notes h)) (is_some (lost_at c (notes h)))
          (is_polling c (notes h))
      goes_now = goes_then c (moment h) (notes h) (is_removed c (notes h)) (is_some (ended_at c (notes h))) (socket_of c (notes h))
          (is_some (lost_at c (notes h)))
          (is_polling c (notes h)) (is_opened c (notes h) || is_some (negotiated_at c (notes h))) is_overdue.come other

      known : IsKnown c h
      known = record { made = is_overdue.is_made_so; held = goes_now.held }

      left : HasLeft {H = H} c v mid h
      left = leaves known

      stands_mid : StandsMachine {H = H} hub mid.machine (work h)
      stands_mid = subst (λ x. StandsMachine {H = H} hub x (work h)) (sym left.machine) st.machine

      noted_now : StandsFront s.live f (Expired c (moment h) ∷ notes h)
      noted_now = noted_by f mid.front handed left.front (subst (λ m. calls.OfEach mid.front (λ n. calls.Expires f n m handed)) left.clock expires) limit

      by_peer : (b : Bool) → has_peer c h ≡ b
          → Standing {H = H} hub s u before (record mid { machine = m; front = f; callers = callers })
          (onto ((if b then Works (Goes c) ∷ [] else []) ++ Notes (Expired c (moment h)) ∷ []) h)
      by_peer true e =
          let t = begun_here c h e in
          standing_goes {H = H} hub s u before v mid c h (Notes (Expired c (moment h)) ∷ Works (Goes c) ∷ h) st
          (freed_dropped c (moment h) h goes_now.ends) known left
          m (goes (work h) t.settings stands_mid t.there) f noted_now callers updates
      by_peer false e =
          standing_goes {H = H} hub s u before v mid c h (Notes (Expired c (moment h)) ∷ h) st (freed_noted c (moment h) h goes_now.ends e) known left
          m (subst (λ x. StandsMachine {H = H} hub x (work h)) (sym (absent
          (no_peer {H = H} {Job = Job} hub mid.machine (work h) c stands_mid (absent_settings c (work h) e)))) stands_mid)
          f noted_now callers updates

      -- whatever it was but that
      dropping_is : (life : Life) → (life ≡ Polling → ⊥) → expiring (moment h) life c h ≡ (dropping c h ++ Notes (Expired c (moment h)) ∷ [])
      dropping_is Unknown e = refl
      dropping_is Fresh e = refl
      dropping_is (Socket l) e = refl
      dropping_is Lost e = refl
      dropping_is Polling e = absurd (e refl)
      dropping_is Ending e = refl

      by_life : (life : Life) → standing c (notes h) ≡ life
          → Standing {H = H} hub s u before (record mid { machine = m; front = f; callers = callers })
          (onto (expiring (moment h) (standing c (notes h)) c h) h)
      by_life life e =
          subst (λ xs. Standing {H = H} hub s u before (record mid { machine = m; front = f; callers = callers }) (onto xs h))
          (sym (dropping_is (standing c (notes h)) other)) (by_peer (has_peer c h) refl)
