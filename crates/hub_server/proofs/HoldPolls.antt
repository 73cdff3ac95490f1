-- A connection that polls holds a poll from now on.
use Rattle.std.proofs.Common.{◌≡◌, ◌≤◌, ◌<◌, ℕ, ◌==◌, Bool, true, false, not, ◌&&◌, ◌||◌, List, ◌∷◌, ◌++◌, Option, Some, None, is_some}
use Rattle.std.proofs.Common.{refl, sym, ap, subst, ◌∙◌, arith}
use Rattle.std.specs.Prelude.{option_map}
use Rattle.std.specs.Ordering.{nat_cmp}
use Rattle.std.specs.BTreeMap.{BTreeMap, get, Updates}
use Rattle.std.proofs.lemmas.Bool.{and_from, and_left, both_ways, cond-true, eq-eqb, eqb-true, or_from, or_left, or_right}
use Rattle.hd_delivery.specs.Histories as of
use Rattle.hd_delivery.specs.Histories.{is_this, link_count, was_on}
use Rattle.hd_delivery.specs.Processes.{processes}
use Rattle.hd_calls.specs.Hubs.{Hub}
use Rattle.hd_calls.specs.Peers.{waiting}
use Rattle.hd_server.specs.declared.vocabulary.Said.{Said}
use Rattle.hd_server.specs.Lives.{ConnectionEvent, Polled, socket_of, lost_at, poll_of, is_removed, is_made, is_polling}
use Rattle.hd_server.specs.Machine.{is_there, moves, settings_of}
use Rattle.hd_server.specs.Doings.{ServerEvent, Notes, notes, work, moment, awaits_reply, config_with, has_peer, history, history_with, is_upgraded}
use Rattle.hd_server.specs.Plans.{Setup}
use Rattle.hn_server_front.specs.Calls.{IsNoted, poll_held}
use Rattle.hn_server_front.specs.Entries.{held_as}
use Rattle.hn_server_front.specs.declared.entry.Held.{Held}
use Rattle.hn_server_front.specs.declared.front.Front.{Front}
use Rattle.hub_server.specs.declared.lane.Lane.{Lane}
use Rattle.hub_server.specs.declared.server.Server.{Server}
use Rattle.hub_machine.specs.Machines.{StandsMachine}
use Rattle.hub_server.specs.Lanes.{IsLane, Unsettled, is_at, poll_lane, settled}
use Rattle.hub_server.specs.Servers.{IsOrderly, Standing, StandsFront}
use Rattle.hub_server.specs.Steps.{HasCome}
use Rattle.hub_server.specs.Connections.{CanHold}
use Rattle.hub_server.proofs.Alike.{alike_note, orderly_alike}
use Rattle.hub_server.proofs.HoldLanes.{Goes_over, HasCut, cuts, cuts_none, goes_over}
use Rattle.hub_server.proofs.LaneKept.{same_lane_note}
use Rattle.hub_server.proofs.SameSetup.{same_setup}
use Rattle.hub_server.proofs.FrontNoted.{noted_front}

pub not_later : (n : ℕ) → n ≤ n
not_later n = omega (arith)

used_by : (a s l : Bool) → (a || (s || l || true)) ≡ true
used_by true s l = refl
used_by false true l = refl
used_by false false true = refl
used_by false false false = refl

pub no_some : (o : Option ℕ) (n : ℕ) → o ≡ None → o ≡ Some n → ⊥
no_some o n e f = both_ways (is_some o) (ap (λ (p : Option ℕ). is_some p) e) (ap (λ (p : Option ℕ). is_some p) f)

-- a connection that polls, and stands on no socket, is in order whatever wasn't settled
module _ (u v : Unsettled) (k : ℕ) (g h : List ServerEvent) (same : work g ≡ work h) (moments : moment g ≡ moment h)
    (made : is_made k (notes g) ≡ is_made k (notes h))
    (removed : is_removed k (notes g) ≡ is_removed k (notes h)) (socket : socket_of k (notes g) ≡ None) (lost : lost_at k (notes g) ≡ None)
    (polling : is_polling k (notes g) ≡ true) (begun : is_some (settings_of k (work h)) ≡ true) (o : IsOrderly u k h) where
  unlost : is_some (lost_at k (notes g)) ≡ false
  unlost = ap (λ (p : Option ℕ). is_some p) lost

  pub polls_orderly : IsOrderly v k g
  polls_orderly = record {
    made = λ e. made ∙ o.made begun;
    there = λ e. removed ∙ o.there (subst (λ w. is_there k w ≡ true) same e);
    gone = λ e f. removed ∙ o.gone begun (subst (λ w. is_there k w ≡ false) same f);
    one_way = and_left (is_some (socket_of k (notes g)) || is_some (lost_at k (notes g))) (is_polling k (notes g))
        (or_from (is_some (socket_of k (notes g))) (is_some (lost_at k (notes g))) (ap (λ (p : Option ℕ). is_some p) socket) unlost);
    ended = λ e. polling;
    unused = λ e. absurd (both_ways (is_some (settings_of k (work h))) (subst (λ w. is_some (settings_of k w) ≡ false) same e) begun);
    used = λ e. subst (λ b. (is_this k v.conn || (is_some (socket_of k (notes g)) || is_some (lost_at k (notes g)) || b)) ≡ true) (sym polling)
        (used_by (is_this k v.conn) (is_some (socket_of k (notes g))) (is_some (lost_at k (notes g))));
    linked = λ e lane f. absurd (no_some (socket_of k (notes g)) lane socket f);
    unlinked = λ e f. absurd (both_ways (is_some (lost_at k (notes g))) unlost f);
    kept = λ e f. absurd (both_ways (is_some (lost_at k (notes g))) unlost f);
    links = subst (λ w. (l : ℕ) → was_on l (history_with (settings_of k w) (moves k w)) ≡ true
        → l < link_count (history_with (settings_of k w) (moves k w)))
        (sym same) o.links;
    timely = subst (λ n. of.moment (history k g) ≤ n) (sym moments)
        (subst (λ w. of.moment (history_with (settings_of k w) (moves k w)) ≤ moment h) (sym same) o.timely);
    handled = subst (λ w. waiting (moves k w) ≡ None) (sym same) o.handled;
    taken = subst (λ w. processes (config_with (settings_of k w)) (history_with (settings_of k w) (moves k w)) ≡ None) (sym same) o.taken;
  }

-- it has a peer, so it was begun
pub begun_of : (k : ℕ) (h : List ServerEvent) → has_peer k h ≡ true → is_some (settings_of k (work h)) ≡ true
begun_of k h e = go (is_some (settings_of k (work h))) refl
  where
    go : (b : Bool) → is_some (settings_of k (work h)) ≡ b → is_some (settings_of k (work h)) ≡ true
    go true f = f
    go false f = absurd (both_ways (has_peer k h) (and_left (is_some (settings_of k (work h))) _ f) e)

-- a poll that came is the one that is held
pub polled_now : (k at now : ℕ) (h : List ServerEvent) → poll_of k (notes (Notes (Polled k at now) ∷ h)) ≡ Some (at, now)
polled_now k at now h = cond-true (k == k) (Some (at, now)) (poll_of k (notes h)) (eq-eqb k k refl)

-- ---- where it is

-- with a peer and without a socket, a connection is where its poll is
pub at_poll : (l k : ℕ) (h : List ServerEvent) → has_peer k h ≡ true → socket_of k (notes h) ≡ None → is_at l k h ≡ is_this l (poll_lane k (notes h))
at_poll l k h there socket =
    ap (λ b. b && (is_this l (socket_of k (notes h)) || is_this l (poll_lane k (notes h)))) there
    ∙ ap (λ (o : Option ℕ). is_this l o || is_this l (poll_lane k (notes h))) socket

pub polls_over : (k at now : ℕ) (h : List ServerEvent) → has_peer k h ≡ true → socket_of k (notes h) ≡ None
    → Goes_over k at (poll_lane k (notes h)) (Notes (Polled k at now) ∷ h) h
polls_over k at now h there socket =
    let now_at : poll_lane k (notes (Notes (Polled k at now) ∷ h)) ≡ Some at = ap (λ (o : Option (ℕ × ℕ)). option_map (λ (p : ℕ × ℕ). p.0) o)
    (polled_now k at now h) in
    record {
      same = λ l e. same_lane_note l (Polled k at now) h;
      others = λ c e. alike_note (Polled k at now) c h e tt;
      was = λ l e. at_poll l k h there socket ∙ e;
      was_only = λ l e. at_poll l k h there socket ∙ e;
      unsocketed = λ l e. ap (is_this l) socket;
      here = at_poll at k (Notes (Polled k at now) ∷ h) there socket ∙ ap (is_this at) now_at ∙ eq-eqb at at refl;
      here_only = λ l e. at_poll l k (Notes (Polled k at now) ∷ h) there socket ∙ ap (is_this l) now_at ∙ e;
      socketed = λ l e. ap (is_this l) socket;
    }

-- ---- the server

-- all but its lanes is as it was, of which the older one is cut
pub record CutsLane {H Job : Type 0} (older : Option ℕ) (old mid : Server H Job) : Type 0 where
  pub base : mid.base ≡ old.base
  pub resend : mid.resend ≡ old.resend
  pub machine : mid.machine ≡ old.machine
  pub front : mid.front ≡ old.front
  pub callers : mid.callers ≡ old.callers
  pub clock : mid.moment ≡ old.moment
  pub words : mid.words ≡ old.words
  pub lanes : HasCut older old.lanes mid.lanes

pub cut_some : {H Job : Type 0} (l : ℕ) (old mid : Server H Job) (lanes : BTreeMap ℕ Lane) → Updates nat_cmp old.lanes lanes l None
    → mid ≡ record old { lanes = lanes }
    → CutsLane {H = H} {Job = Job} (Some l) old mid
cut_some {H} {Job} l old mid lanes updates same = subst (λ m. CutsLane {H = H} {Job = Job} (Some l) old m) (sym same) (record {
  base = refl;
  resend = refl;
  machine = refl;
  front = refl;
  callers = refl;
  clock = refl;
  words = refl;
  lanes = cuts l old.lanes lanes updates;
})

pub cut_none : {H Job : Type 0} (old mid : Server H Job) → mid ≡ old → CutsLane {H = H} {Job = Job} None old mid
cut_none {H} {Job} old mid same = subst (λ m. CutsLane {H = H} {Job = Job} None old m) (sym same) (record {
  base = refl;
  resend = refl;
  machine = refl;
  front = refl;
  callers = refl;
  clock = refl;
  words = refl;
  lanes = cuts_none old.lanes;
})

pub polled_stands : {H Job : Type 0} (hub : Hub Job) (s : Setup) (u : Unsettled) (before : List Said) (old mid : Server H Job) (k at : ℕ)
    (is_last : Bool) (h : List ServerEvent)
    → Standing {H = H} hub s u before old h → u ≡ settled → HasCome at is_last h → CanHold k h
    → CutsLane {H = H} {Job = Job} (poll_lane k (notes h)) old mid → (f : Front) → IsNoted mid.front f k (Polled k at mid.moment)
    → (lanes : BTreeMap ℕ Lane) → Updates nat_cmp mid.lanes lanes at
    (Some (record { conn = k; polls = true; is_last = is_last; is_refused = false; is_full = false }))
    → Standing {H = H} hub s u before (record mid { front = f; lanes = lanes }) (Notes (Polled k at (moment h)) ∷ h)
polled_stands {H} {Job} hub s u before old mid k at is_last h st is come can cut f noted lanes enters =
    subst (λ w. Standing {H = H} hub s w before (record mid { front = f; lanes = lanes }) g) (sym is) (record {
      setup = same_setup s cut.base cut.resend st.setup;
      machine = subst (λ m. StandsMachine {H = H} hub m (work h)) (sym cut.machine) st.machine;
      front = subst (λ n. StandsFront s.live f (Polled k at n ∷ notes h)) (cut.clock ∙ st.clock)
          (noted_front s.live mid.front f k (Polled k at mid.moment) (notes h) noted
          (subst (λ x. StandsFront s.live x (notes h)) (sym cut.front) st.front) can.known.made);
      callers = λ c. ap (λ m. get nat_cmp m c) cut.callers ∙ st.callers c;
      lanes = λ l. goes_over k at (poll_lane k (notes h)) g h (polls_over k at (moment h) h can.there can.unsocketed) come.nobody
          (record { conn = k; polls = true; is_last = is_last; is_refused = false; is_full = false })
          (record {
            conn = refl;
            polls = sym (ap (λ (o : Option ℕ). not (is_this at o)) can.unsocketed);
            last = come.last;
            refused = sym come.unrefused;
            full = sym come.empty;
            taken = or_right (is_upgraded at h) (awaits_reply at h) come.waits;
          })
          old.lanes mid.lanes lanes (λ l. subst (λ w. IsLane w (get nat_cmp old.lanes l) l h) is (st.lanes l)) cut.lanes enters l;
      begun = st.begun;
      orderly = λ c. each c (c == k) refl;
      clock = cut.clock ∙ st.clock;
      words = st.words ∙ ap (λ w. before ++ w) (sym cut.words);
    })
  where
    g : List ServerEvent
    g = Notes (Polled k at (moment h)) ∷ h

    each : (c : ℕ) (b : Bool) → (c == k) ≡ b → IsOrderly settled c g
    each c true e = subst (λ n. IsOrderly settled n g) (sym (eqb-true c k e))
        (polls_orderly u settled k g h refl refl refl refl can.unsocketed can.unlost
        (or_left (is_some (poll_of k (notes g))) _ (ap (λ (o : Option (ℕ × ℕ)). is_some o) (polled_now k at (moment h) h)))
        (begun_of k h can.there) (st.orderly k))
    each c false e = orderly_alike settled c g h (alike_note (Polled k at (moment h)) c h e tt) (not_later (moment h))
        (subst (λ w. IsOrderly w c h) is (st.orderly c))

-- ---- the lane of the poll that it held

held_lane : (r : Option Held) (k : ℕ) (n : List ConnectionEvent) → held_as r ≡ poll_held k n → is_made k n ≡ true → is_removed k n ≡ false
    → option_map (λ (p : Held). p.lane) r ≡ poll_lane k n
held_lane r k n e made held =
    lane_in r
    ∙ ap (λ (o : Option (ℕ × ℕ)). option_map (λ (p : ℕ × ℕ). p.0) o)
    (e ∙ cond-true (is_made k n && not (is_removed k n)) (poll_of k n) None (and_from (is_made k n) (not (is_removed k n)) made (ap not held)))
  where
    lane_in : (o : Option Held) → option_map (λ (p : Held). p.lane) o ≡ option_map (λ (p : ℕ × ℕ). p.0) (held_as o)
    lane_in None = refl
    lane_in (Some p) = refl

-- there was one
pub cuts_held : {H Job : Type 0} (k : ℕ) (n : List ConnectionEvent) (r : Option Held) (p : Held) (old mid : Server H Job) (lanes : BTreeMap ℕ Lane)
    → held_as r ≡ poll_held k n
    → is_made k n ≡ true → is_removed k n ≡ false → r ≡ Some p → Updates nat_cmp old.lanes lanes p.lane None → mid ≡ record old { lanes = lanes }
    → CutsLane {H = H} {Job = Job} (poll_lane k n) old mid
cuts_held {H} {Job} k n r p old mid lanes e made held is updates same =
    let there : poll_lane k n ≡ Some p.lane = sym (held_lane r k n e made held) ∙ ap (λ (o : Option Held). option_map (λ (q : Held). q.lane) o) is in
    subst (λ o. CutsLane {H = H} {Job = Job} o old mid) (sym there) (cut_some {H = H} {Job = Job} p.lane old mid lanes updates same)

-- there was none
pub cuts_unheld : {H Job : Type 0} (k : ℕ) (n : List ConnectionEvent) (r : Option Held) (old mid : Server H Job) → held_as r ≡ poll_held k n
    → is_made k n ≡ true → is_removed k n ≡ false → r ≡ None → mid ≡ old → CutsLane {H = H} {Job = Job} (poll_lane k n) old mid
cuts_unheld {H} {Job} k n r old mid e made held is same =
    let there : poll_lane k n ≡ None = sym (held_lane r k n e made held) ∙ ap (λ (o : Option Held). option_map (λ (q : Held). q.lane) o) is in
    subst (λ o. CutsLane {H = H} {Job = Job} o old mid) (sym there) (cut_none {H = H} {Job = Job} old mid same)
