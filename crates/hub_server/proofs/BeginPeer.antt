-- A connection that has none gets its peer.
use Rattle.std.proofs.Common.{◌≡◌, ◌≤◌, ◌<◌, ℕ, ◌==◌, Bool, true, false, not, ◌&&◌, ◌||◌, List, [], ◌∷◌, Option, Some, None, is_some}
use Rattle.std.proofs.Common.{refl, sym, ap, subst, ◌∙◌, arith}
use Rattle.std.specs.Prelude.{nat_le, nat_lt, option_map, unwrap_or}
use Rattle.std.specs.Fmt.{decimal}
use Rattle.std.specs.Ordering.{nat_cmp}
use Rattle.std.specs.BTreeMap.{BTreeMap, get, Updates}
use Rattle.std.proofs.lemmas.Bool.{and_from, and_left, and_parts, and_right, both_ways, cond-true}
use Rattle.std.proofs.lemmas.Bool.{cond-false, eq-eqb, eqb-true, ltb-true, or_from, or_left}
use Rattle.std.specs.Cmp.{unsigned_tied}
use Rattle.hm_message.specs.declared.message.Codec.TheVariants.{Json}
use Rattle.hd_delivery.specs.declared.vocabulary.Side.TheVariants as side
use Rattle.hd_delivery.specs.Histories as of
use Rattle.hd_delivery.specs.Histories.{EndEvent, is_this, was_on}
use Rattle.hd_delivery.specs.Processes.{processes}
use Rattle.hd_delivery.specs.Bytes.{Wire}
use Rattle.hd_delivery.specs.Worlds.{Limits}
use Rattle.he_wire.specs.Wires.{IsHouseWire}
use Rattle.hd_calls.specs.Hubs.{Hub}
use Rattle.hd_calls.specs.Peers.{Settings, steps, waiting}
use Rattle.hd_server.specs.declared.vocabulary.Said.{Said}
use Rattle.hd_server.specs.Lives.{socket_of, lost_at, poll_of, poll_ended, is_removed, is_polling, made}
use Rattle.hd_server.specs.Machine.{MachineEvent, Connects, has_gone, is_there, moves, settings_of}
use Rattle.hd_server.specs.Doings.{ServerEvent, Works, notes, work, moment, config_of, has_peer, history, history_with, user_of}
use Rattle.hd_server.specs.Plans.{Setup, connecting, onto, peer_settings}
use Rattle.hp_peer.specs.Stands.{settings}
use Rattle.hub_machine.specs.declared.machine.Machine.{Machine}
use Rattle.hub_server.specs.declared.server.Server.{Server}
use Rattle.hub_machine.specs.Machines.{IsStranger, StandsMachine, peer_at, settings_there}
use Rattle.hub_server.specs.Lanes.{Unsettled, conn_of, is_at, poll_lane, settled}
use Rattle.hub_server.specs.Resend.{ResendLimits, limits_with}
use Rattle.hub_server.specs.Servers.{IsBegunBy, IsOrderly, IsSetup, Standing, caller_of}
use Rattle.hub_server.specs.Connections.{IsKnown}
use Rattle.hub_server.proofs.Alike.{alike_connects, caller_alike, orderly_alike}
use Rattle.hub_server.proofs.Conns.{here_by_peer}
use Rattle.hub_server.proofs.HoldLanes.{turned}
use Rattle.hub_server.proofs.HoldPolls.{no_some, not_later}
use Rattle.hub_server.proofs.LaneKept.{lane_kept, lane_wider, orderly_wider, same_lane_works, standing_wider}

-- ---- who has a peer

-- the machine has its peer exactly if it has one
pub peer_there : {H Job : Type 0} (hub : Hub Job) (m : Machine H Job) (w : List MachineEvent) (k : ℕ) → StandsMachine {H = H} hub m w
    → is_some (peer_at m k) ≡ is_there k w
peer_there {H} {Job} hub m w k s = sym (here_by_peer {H = H} {Job = Job} hub m w s k)

-- the settings of one that is there
pub settings_if : (k : ℕ) (w : List MachineEvent) → is_there k w ≡ true → (t : Settings) × (settings_there k w ≡ Some t) × (settings_of k w ≡ Some t)
settings_if k w e = go (settings_of k w) refl
  where
    parts : (is_some (settings_of k w) ≡ true) × (not (has_gone k w) ≡ true)
    parts = and_parts (is_some (settings_of k w)) (not (has_gone k w)) e

    here : (b : Bool) → not b ≡ true → b ≡ false
    here true f = absurd (both_ways false refl f)
    here false f = refl

    go : (o : Option Settings) → settings_of k w ≡ o → (t : Settings) × (settings_there k w ≡ Some t) × (settings_of k w ≡ Some t)
    go None f = absurd (both_ways (is_some (settings_of k w)) (ap (λ (x : Option Settings). is_some x) f) parts.0)
    go (Some t) f = (t, cond-false (has_gone k w) None (settings_of k w) (here (has_gone k w) parts.1) ∙ f, f)

-- one that is known and has no peer never had one
pub fresh : (u : Unsettled) (k : ℕ) (h : List ServerEvent) → IsKnown k h → IsOrderly u k h → has_peer k h ≡ false → settings_of k (work h) ≡ None
fresh u k h known o e = go (settings_of k (work h)) refl
  where
    go : (x : Option Settings) → settings_of k (work h) ≡ x → settings_of k (work h) ≡ None
    go None f = f
    go (Some t) f = absurd (both_ways (is_removed k (notes h)) known.held (o.gone (ap (λ (x : Option Settings). is_some x) f) e))

-- nothing was noted of it but that it was made
pub unused_parts : (s l : Option ℕ) (p : Option (ℕ × ℕ)) (e : Option ℕ) → (is_some s || is_some l || (is_some p || is_some e)) ≡ false
    → (s ≡ None) × (l ≡ None) × (p ≡ None) × (e ≡ None)
unused_parts None None None None f = (refl, refl, refl, refl)
unused_parts (Some x) l p e f = absurd (both_ways true f refl)
unused_parts None (Some x) p e f = absurd (both_ways true f refl)
unused_parts None None (Some x) e f = absurd (both_ways true f refl)
unused_parts None None None (Some x) f = absurd (both_ways true f refl)

pub record IsBare (k : ℕ) (h : List ServerEvent) : Type 0 where
  pub socket : socket_of k (notes h) ≡ None
  pub lost : lost_at k (notes h) ≡ None
  pub poll : poll_of k (notes h) ≡ None
  pub polled : poll_ended k (notes h) ≡ None

pub bare : (u : Unsettled) (k : ℕ) (h : List ServerEvent) → IsOrderly u k h → settings_of k (work h) ≡ None → IsBare k h
bare u k h o e =
    let parts = unused_parts (socket_of k (notes h)) (lost_at k (notes h)) (poll_of k (notes h)) (poll_ended k (notes h))
    (o.unused (ap (λ (x : Option Settings). is_some x) e)) in
    record { socket = parts.0; lost = parts.1; poll = parts.2; polled = parts.3 }

-- ---- what connecting comes to

pub connecting_there : (s : Setup) (k : ℕ) (resumable : Bool) (h : List ServerEvent) → is_some (settings_of k (work h)) ≡ true
    → onto (connecting s k resumable h) h ≡ h
connecting_there s k resumable h e = ap (λ xs. onto xs h) (cond-true (is_some (settings_of k (work h))) []
    (Works (Connects k (peer_settings s k (user_of k h) resumable) (user_of k h)) ∷ []) e)

pub connecting_fresh : (s : Setup) (k : ℕ) (resumable : Bool) (h : List ServerEvent) → settings_of k (work h) ≡ None
    → onto (connecting s k resumable h) h ≡ Works (Connects k (peer_settings s k (user_of k h) resumable) (user_of k h)) ∷ h
connecting_fresh s k resumable h e = ap (λ xs. onto xs h) (cond-false (is_some (settings_of k (work h))) []
    (Works (Connects k (peer_settings s k (user_of k h) resumable) (user_of k h)) ∷ []) (ap (λ (x : Option Settings). is_some x) e))

-- it had one
pub connected_already : {H Job : Type 0} (hub : Hub Job) (s : Setup) (u : Unsettled) (before : List Said) (old : Server H Job) (k : ℕ)
    (resumable : Bool) (h : List ServerEvent)
    → Standing {H = H} hub s u before old h → u ≡ settled → is_some (peer_at old.machine k) ≡ true
    → Standing {H = H} hub s (conn_of k) before old (onto (connecting s k resumable h) h)
connected_already {H} {Job} hub s u before old k resumable h st is there =
    let begun : is_some (settings_of k (work h)) ≡ true =
    (and_parts (is_some (settings_of k (work h))) (not (has_gone k (work h)))
    (sym (peer_there {H = H} {Job = Job} hub old.machine (work h) k st.machine) ∙ there)).0 in
    subst (λ g. Standing {H = H} hub s (conn_of k) before old g) (sym (connecting_there s k resumable h begun))
    (standing_wider {H = H} {Job = Job} hub s settled (conn_of k) before old h (λ l e. e) (λ c e. absurd (both_ways false refl e)) (λ l e. e)
    (subst (λ w. Standing {H = H} hub s w before old h) is st))

module _ {H Job : Type 0} (hub : Hub Job) (s : Setup) (before : List Said) (old : Server H Job) (k : ℕ) (resumable : Bool) (h : List ServerEvent)
    (st : Standing {H = H} hub s settled before old h) (known : IsKnown k h) (new : settings_of k (work h) ≡ None) where
  abbrev user : Option (List ℕ)
  user = user_of k h

  abbrev t : Settings
  t = peer_settings s k user resumable

  abbrev g : List ServerEvent
  g = Works (Connects k t user) ∷ h

  own : settings_of k (work g) ≡ Some t
  own = cond-true (k == k) (Some t) (settings_of k (work h)) (eq-eqb k k refl)

  begun_now : is_some (settings_of k (work g)) ≡ true
  begun_now = ap (λ (x : Option Settings). is_some x) own

  stranger : IsStranger k (work h)
  stranger = st.machine.strangers k new

  pub there_now : has_peer k g ≡ true
  there_now = and_from (is_some (settings_of k (work g))) (not (has_gone k (work h))) begun_now (ap not stranger.unknown)

  pub blank : history k g ≡ []
  blank = ap (λ o. history_with o (moves k (work h))) own ∙ ap (λ m. steps t m) stranger.unmoved

  none : IsBare k h
  none = bare settled k h (st.orderly k) new

  own_orderly : IsOrderly (conn_of k) k g
  own_orderly = record {
    made = λ e. known.made;
    there = λ e. known.held;
    gone = λ e f. absurd (both_ways (has_peer k g) f there_now);
    one_way = (st.orderly k).one_way;
    ended = (st.orderly k).ended;
    unused = λ e. absurd (both_ways (is_some (settings_of k (work g))) e begun_now);
    used = λ e. or_left (k == k) (is_some (socket_of k (notes h)) || is_some (lost_at k (notes h)) || is_polling k (notes h)) (eq-eqb k k refl);
    linked = λ e lane f. absurd (no_some (socket_of k (notes h)) lane none.socket f);
    unlinked = λ e f. absurd (both_ways (is_some (lost_at k (notes h))) (ap (λ (x : Option ℕ). is_some x) none.lost) f);
    kept = λ e f. absurd (both_ways (is_some (lost_at k (notes h))) (ap (λ (x : Option ℕ). is_some x) none.lost) f);
    links = λ l e. absurd (both_ways (was_on l (history k g)) (ap (was_on l) blank) e);
    timely = subst (λ (x : List EndEvent). of.moment x ≤ moment h) (sym blank) (let z : 0 ≤ moment h = omega (arith) in z);
    handled = ap waiting stranger.unmoved;
    taken = ap (processes (config_of k g)) blank;
  }

  orderly_each : (c : ℕ) (b : Bool) → (c == k) ≡ b → IsOrderly (conn_of k) c g
  orderly_each c true e = subst (λ n. IsOrderly (conn_of k) n g) (sym (eqb-true c k e)) own_orderly
  orderly_each c false e = orderly_alike (conn_of k) c g h (alike_connects c k t user h e) (not_later (moment h))
      (orderly_wider settled (conn_of k) c h (λ f. absurd (both_ways false refl f)) (λ l f. f) (st.orderly c))

  caller_each : (callers : BTreeMap ℕ (List ℕ)) → Updates nat_cmp old.callers callers k None → (c : ℕ) (b : Bool) → (c == k) ≡ b
      → get nat_cmp callers c ≡ caller_of c g
  caller_each callers updates c true e =
      ap (get nat_cmp callers) (eqb-true c k e) ∙ updates.1
      ∙ sym (cond-true (is_some (settings_of k (work g)) || is_removed k (notes h)) None user
      (or_left (is_some (settings_of k (work g))) (is_removed k (notes h)) begun_now))
      ∙ ap (λ n. caller_of n g) (sym (eqb-true c k e))
  caller_each callers updates c false e =
      updates.2 c (unsigned_tied k c ∙ turned c k e) ∙ st.callers c ∙ sym (caller_alike c g h (alike_connects c k t user h e))

  at_none : (l : ℕ) → is_at l k g ≡ false
  at_none l = and_right (has_peer k g) (is_this l (socket_of k (notes h)) || is_this l (poll_lane k (notes h)))
      (or_from (is_this l (socket_of k (notes h))) (is_this l (poll_lane k (notes h))) (ap (is_this l) none.socket)
      (ap (λ (o : Option (ℕ × ℕ)). is_this l (option_map (λ (p : ℕ × ℕ). p.0) o)) none.poll))

  at_none_before : (l : ℕ) → is_at l k h ≡ false
  at_none_before l = and_left (has_peer k h) (is_this l (socket_of k (notes h)) || is_this l (poll_lane k (notes h)))
      (and_left (is_some (settings_of k (work h))) (not (has_gone k (work h))) (ap (λ (x : Option Settings). is_some x) new))

  pub at_same : (l c : ℕ) (b : Bool) → (c == k) ≡ b → is_at l c g ≡ is_at l c h
  at_same l c true e = ap (λ n. is_at l n g) (eqb-true c k e) ∙ at_none l ∙ sym (at_none_before l) ∙ ap (λ n. is_at l n h) (sym (eqb-true c k e))
  at_same l c false e = ap (λ o. (is_some o && not (has_gone c (work h))) && (is_this l (socket_of c (notes h)) || is_this l (poll_lane c (notes h))))
      (cond-false (c == k) (Some t) (settings_of c (work h)) e)

  begun_each : (c : ℕ) (x : Settings) → settings_of c (work g) ≡ Some x → (b : Bool) → (c == k) ≡ b → IsBegunBy s x
  begun_each c x f true e =
      let same : ◌≡◌ {A = Option Settings} (Some t) (Some x) = sym own ∙ ap (λ n. settings_of n (work g)) (sym (eqb-true c k e)) ∙ f in
      subst (λ y. IsBegunBy s y) (ap (λ o. unwrap_or o t) same) (record { config = refl; wire = refl; limits = refl })
  begun_each c x f false e = st.begun c x (sym (cond-false (c == k) (Some t) (settings_of c (work h)) e) ∙ f)

  with_peer : (machine : Machine H Job) → StandsMachine {H = H} hub machine (Connects k t user ∷ work h) → (callers : BTreeMap ℕ (List ℕ))
      → Updates nat_cmp old.callers callers k None → Standing {H = H} hub s (conn_of k) before (record old { callers = callers; machine = machine }) g
  with_peer machine stands callers updates = record {
    setup = st.setup;
    machine = stands;
    front = st.front;
    callers = λ c. caller_each callers updates c (c == k) refl;
    lanes = λ l. lane_wider settled (conn_of k) (get nat_cmp old.lanes l) l g (λ e. e)
        (lane_kept settled (get nat_cmp old.lanes l) l g h (same_lane_works l (Connects k t user) h) (λ c. at_same l c (c == k) refl) (λ c. refl)
        (st.lanes l));
    begun = λ c x f. begun_each c x f (c == k) refl;
    orderly = λ c. orderly_each c (c == k) refl;
    clock = st.clock;
    words = st.words;
  }

-- by whom it is called
called_by : (u : Unsettled) (k : ℕ) (h : List ServerEvent) → IsKnown k h → settings_of k (work h) ≡ None → caller_of k h ≡ user_of k h
called_by u k h known new = cond-false (is_some (settings_of k (work h)) || is_removed k (notes h)) None (user_of k h)
    (or_from (is_some (settings_of k (work h))) (is_removed k (notes h)) (ap (λ (x : Option Settings). is_some x) new) known.held)

-- its settings
as_begun : (s : Setup) (base : List ℕ) (resend : ResendLimits) (k : ℕ) (resumable : Bool) (limits : Limits) (who : List ℕ) (name : Option (List ℕ)) → IsSetup s base resend s.live
    → limits ≡ limits_with resend → who ≡ unwrap_or name (decimal k)
    → settings side.Server (record { codec = Json; version = 1; reconnect = resumable; limits = limits }) s.wire who ≡ peer_settings s k name resumable
as_begun s base resend k resumable limits who name setup few called =
    ap (λ x. settings side.Server (record { codec = Json; version = 1; reconnect = resumable; limits = x }) s.wire who)
    (few ∙ sym (ap (λ (x : Setup). x.limits) setup.given))
    ∙ ap (λ x. settings side.Server (record { codec = Json; version = 1; reconnect = resumable; limits = s.limits }) s.wire x) called

-- it gets one now
pub connected : {H Job : Type 0} (hub : Hub Job) (s : Setup) (u : Unsettled) (before : List Said) (old : Server H Job) (k : ℕ) (resumable : Bool)
    (h : List ServerEvent)
    → Standing {H = H} hub s u before old h → u ≡ settled → IsKnown k h → is_some (peer_at old.machine k) ≡ false
    → (callers : BTreeMap ℕ (List ℕ)) → Updates nat_cmp old.callers callers k None
    → (limits : Limits) → limits ≡ limits_with old.resend
    → (user : Option (List ℕ)) → user ≡ get nat_cmp old.callers k → (who : List ℕ) → who ≡ unwrap_or user (decimal k)
    → (machine : Machine H Job) → ((w : List MachineEvent) (wire : Wire) → IsHouseWire limits.frame wire → 0 < k → settings_of k w ≡ None
    → StandsMachine {H = H} hub old.machine w
    → StandsMachine {H = H} hub machine (Connects k
    (settings side.Server (record { codec = Json; version = 1; reconnect = resumable; limits = limits }) wire who) user ∷ w))
    → Standing {H = H} hub s (conn_of k) before (record old { callers = callers; machine = machine }) (onto (connecting s k resumable h) h)
connected {H} {Job} hub s u before old k resumable h st is known none callers updates limits few user found who named machine stands =
    let begin = subst (λ w. Standing {H = H} hub s w before old h) is st in
    let new = fresh u k h known (st.orderly k) (sym (peer_there {H = H} {Job = Job} hub old.machine (work h) k st.machine) ∙ none) in
    let same : user ≡ user_of k h = found ∙ st.callers k ∙ called_by u k h known new in
    let house : IsHouseWire limits.frame s.wire = subst (λ (x : Limits). IsHouseWire x.frame s.wire) (sym few) st.setup.wire in
    let positive : 0 < k = ltb-true 0 k (and_parts (nat_lt 0 k) (nat_le k (made (notes h))) known.made).0 in
    let begun : StandsMachine {H = H} hub machine (Connects k (peer_settings s k (user_of k h) resumable) (user_of k h) ∷ work h) =
    subst (λ o. StandsMachine {H = H} hub machine (Connects k (peer_settings s k o resumable) o ∷ work h)) same
    (subst (λ x. StandsMachine {H = H} hub machine (Connects k x user ∷ work h)) (as_begun s old.base old.resend k resumable limits who user st.setup few named)
    (stands (work h) s.wire house positive new st.machine)) in
    subst (λ x. Standing {H = H} hub s (conn_of k) before (record old { callers = callers; machine = machine }) x)
    (sym (connecting_fresh s k resumable h new))
    (with_peer {H = H} {Job = Job} hub s before old k resumable h begin known new machine begun callers updates)
