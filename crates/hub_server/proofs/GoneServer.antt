-- What a server stands for once a connection has left its lanes, and once a reply was said to one that is about to.
use Rattle.std.proofs.Common.{◌≡◌, ◌⊎◌, inl, inr, ℕ, ◌==◌, Bool, true, false, not, ◌&&◌, ◌||◌, List, [], ◌∷◌, ◌++◌, Option, Some, None, is_some}
use Rattle.std.proofs.Common.{arith, refl, sym, ap, subst, ◌∙◌}
use Rattle.std.proofs.Common.{Result, Ok, Err, OnOk}
use Rattle.std.specs.Prelude.{if◌then◌else◌, option_map}
use Rattle.std.specs.Ordering.{nat_cmp}
use Rattle.std.specs.BTreeMap.{get}
use Rattle.std.proofs.lemmas.Bool.{and_from, and_left, and_parts, and_right, both_ways, cond-false, cond-true, eq-eqb, eqb-true, false_from_ne_true}
use Rattle.std.proofs.lemmas.Bool.{or_from, or_left, or_right}
use Rattle.std.proofs.lemmas.List.{append_assoc}
use Rattle.hw_lanes.specs.declared.http.Reply.{Reply}
use Rattle.hd_delivery.specs.declared.vocabulary.Reason.{Reason}
use Rattle.hd_delivery.specs.Histories.{Closed, is_resumable, is_this, present_link}
use Rattle.hd_calls.specs.Hubs.{Hub}
use Rattle.hd_calls.specs.Peers.{Settings}
use Rattle.hd_server.specs.declared.vocabulary.Said.{Said}
use Rattle.hd_server.specs.declared.vocabulary.Said.TheVariants as say
use Rattle.hd_server.specs.Lives.{Answered, LaneLost, Removed, ConnectionEvent, is_made, is_polling, lost_at, poll_ended, poll_of, socket_of}
use Rattle.hd_server.specs.Machine.{Goes, MachineEvent, has_gone, is_there, moves, settings_of}
use Rattle.hd_server.specs.Doings.{ServerEvent, Notes, Says, Works, config_of, has_peer, history, may_resume, is_up, moment, notes, said, wants_shut}
use Rattle.hd_server.specs.Doings.{was_refused, work}
use Rattle.hd_server.specs.Plans.{Setup, closing, ends_lane, removing_conn, onto, replying, step}
use Rattle.hub_server.specs.declared.lane.Lane.{Lane}
use Rattle.hub_server.specs.declared.server.Server.{Server}
use Rattle.hub_server.specs.Connections.{Frees, IsKnown}
use Rattle.hub_server.specs.Words.{reply_and_end}
use Rattle.hub_server.specs.Lanes.{HasLane, IsLane, Unsettled, cut_of, is_at, lane_of, poll_lane, settled}
use Rattle.hp_peer.specs.declared.peer.Peer.{Peer}
use Rattle.hub_machine.specs.declared.machine.Machine.{Machine}
use Rattle.hub_machine.specs.declared.idle_set.IdlePeer.{IdlePeer}
use Rattle.hub_machine.specs.Machines.{IsKeptAs, StandsMachine, idle_peer_at, peer_at, settings_there}
use Rattle.hub_server.specs.Servers.{IsOrderly, Standing, caller_of, StandsFront}
use Rattle.hub_server.proofs.Alike.{Alike, alike_note, alike_says, at_alike, caller_alike, orderly_alike}
use Rattle.hub_server.proofs.LaneKept.{SameLane, lane_kept, lane_wider, orderly_wider, same_lane_note, same_lane_reply, standing_shuts}
use Rattle.hub_server.proofs.Answering.{replying_both, says_by}
use Rattle.hub_server.proofs.Gone.{Freed, alone, at_is_on, freed_absent, freed_there, held_some, is_on, lane_left, last_of_three, middle_of_three}
use Rattle.hub_server.proofs.Gone.{orderly_off, unequal}
use Rattle.hub_server.proofs.SameSetup.{same_setup}

-- ---- who has a peer

pub there_settings : (c : ℕ) (w : List MachineEvent) → is_there c w ≡ true → (t : Settings) × (settings_there c w ≡ Some t)
there_settings c w e = go (settings_of c w) (has_gone c w) e
  where
    go : (o : Option Settings) (b : Bool) → (is_some o && not b) ≡ true → (t : Settings) × ((if b then None else o) ≡ Some t)
    go (Some t) false e = (t, refl)
    go (Some t) true e = absurd (let z : false ≡ true = e in cc)
    go None b e = absurd (let z : false ≡ true = e in cc)

pub absent_settings : (c : ℕ) (w : List MachineEvent) → is_there c w ≡ false → settings_there c w ≡ None
absent_settings c w e = go (settings_of c w) (has_gone c w) e
  where
    go : (o : Option Settings) (b : Bool) → (is_some o && not b) ≡ false → (if b then None else o) ≡ None
    go (Some t) false e = absurd (let z : true ≡ false = e in cc)
    go (Some t) true e = refl
    go None true e = refl
    go None false e = refl

-- one that isn't there has no peer
pub no_peer : {H Job : Type 0} (hub : Hub Job) (m : Machine H Job) (w : List MachineEvent) (c : ℕ) → StandsMachine {H = H} hub m w
    → settings_there c w ≡ None
    → peer_at m c ≡ None
no_peer {H} {Job} hub m w c s e = go (peer_at m c) (idle_peer_at m c)
    (subst (λ o. IsKeptAs {H = H} hub m.idle_set.clock (idle_peer_at m c) o (moves c w) (peer_at m c)) e (s.at c))
  where
    go : (p : Option (Peer H Job)) (idle_peer : Option IdlePeer) → IsKeptAs {H = H} hub m.idle_set.clock idle_peer None (moves c w) p → p ≡ None
    go None idle_peer x = refl
    go (Some p) None x = absurd x
    go (Some p) (Some idle_peer) x = absurd x

or_none : (b : Bool) → (b || false) ≡ b
or_none true = refl
or_none false = refl

-- ---- a connection has left its lanes

module _ {H Job : Type 0} (hub : Hub Job) (s : Setup) (u v : Unsettled) (before : List Said) (old new : Server H Job) (c : ℕ) (g h : List ServerEvent)
    (stands : Standing {H = H} hub s u before old h) (base : new.base ≡ old.base) (resend : new.resend ≡ old.resend) (clock : new.moment ≡ old.moment)
    (words : new.words ≡ old.words) where
  pub left_standing : StandsMachine {H = H} hub new.machine (work g) → StandsFront s.live new.front (notes g)
      → ((k : ℕ) → get nat_cmp new.callers k ≡ caller_of k g)
      → ((k : ℕ) → (k == c) ≡ false → Alike k g h) → ((l : ℕ) → SameLane l g h) → ((l : ℕ) → is_at l c g ≡ false)
      → ((l : ℕ) → is_at l c h ≡ false → (k : ℕ) → is_this l (socket_of k (notes g)) ≡ is_this l (socket_of k (notes h)))
      → ((l : ℕ) → is_at l c h ≡ false → is_this l u.lane ≡ true → is_this l v.lane ≡ true)
      → ((l : ℕ) → get nat_cmp new.lanes l ≡ (if is_at l c h then None else get nat_cmp old.lanes l))
      → ((k : ℕ) → settings_of k (work g) ≡ settings_of k (work h)) → IsOrderly v c g → ((k : ℕ) → (k == c) ≡ false → IsOrderly v k h)
      → moment g ≡ moment h → said g ≡ said h → Standing {H = H} hub s v before new g
  left_standing machine fronts callers others same off sockets wider lanes begun own rest at says = record {
    setup = same_setup s base resend stands.setup;
    machine = machine;
    front = fronts;
    callers = callers;
    lanes = λ l. lane_left u v c l g h (get nat_cmp old.lanes l) (get nat_cmp new.lanes l) (same l) (λ k e. at_alike l k g h (others k e)) (off l)
        (sockets l)
        (wider l) (stands.lanes l) (lanes l);
    begun = λ k t e. stands.begun k t (sym (begun k) ∙ e);
    orderly = λ k. orderly k (k == c) refl;
    clock = clock ∙ stands.clock ∙ sym at;
    words = says ∙ stands.words ∙ ap (λ l. before ++ l) (sym words);
  }
    where
      orderly : (k : ℕ) (b : Bool) → (k == c) ≡ b → IsOrderly v k g
      orderly k true e = subst (λ n. IsOrderly v n g) (sym (eqb-true k c e)) own
      orderly k false e = orderly_alike v k g h (others k e) (omega (arith, at)) (rest k e)

-- ---- one that is let go

-- what isn't settled is its lane
settles : (u : Unsettled) (lane l : ℕ) → (u ≡ lane_of (Some lane)) ⊎ (u ≡ cut_of lane) → is_this l u.lane ≡ true → l ≡ lane
settles u lane l (inl e) f = eqb-true l lane (subst (λ x. is_this l x.lane ≡ true) e f)
settles u lane l (inr e) f = eqb-true l lane (subst (λ x. is_this l x.lane ≡ true) e f)

cuts : (u : Unsettled) (lane l : ℕ) → (u ≡ lane_of (Some lane)) ⊎ (u ≡ cut_of lane) → is_this l u.cut ≡ true → l ≡ lane
cuts u lane l (inl e) f = absurd (both_ways false refl (subst (λ x. is_this l x.cut ≡ true) e f))
cuts u lane l (inr e) f = eqb-true l lane (subst (λ x. is_this l x.cut ≡ true) e f)

joins_none : (u : Unsettled) (lane k : ℕ) → (u ≡ lane_of (Some lane)) ⊎ (u ≡ cut_of lane) → is_this k u.conn ≡ true → is_this k settled.conn ≡ true
joins_none u lane k (inl e) f = subst (λ x. is_this k x.conn ≡ true) e f
joins_none u lane k (inr e) f = subst (λ x. is_this k x.conn ≡ true) e f

module _ {H Job : Type 0} (hub : Hub Job) (s : Setup) (u : Unsettled) (before : List Said) (old new : Server H Job) (c : ℕ) (h : List ServerEvent)
    (stands : Standing {H = H} hub s u before old h) (known : IsKnown c h)
    (base : new.base ≡ old.base) (resend : new.resend ≡ old.resend) (clock : new.moment ≡ old.moment) (words : new.words ≡ old.words)
    (lanes : (l : ℕ) → get nat_cmp new.lanes l ≡ (if is_on l c h then None else get nat_cmp old.lanes l))
    (uncalled : get nat_cmp new.callers c ≡ None) (called : (k : ℕ) → (c == k) ≡ false → get nat_cmp new.callers k ≡ get nat_cmp old.callers k) where
  freed_standing : (v : Unsettled) (g : List ServerEvent) → Freed c g h → StandsMachine {H = H} hub new.machine (work g) → StandsFront s.live new.front (notes g)
      → ((l : ℕ) → is_at l c h ≡ false → is_this l u.lane ≡ true → is_this l v.lane ≡ true) → ((k : ℕ) → (k == c) ≡ false → IsOrderly v k h)
      → Standing {H = H} hub s v before new g
  freed_standing v g f machine fronts wider rest =
      left_standing {H = H} {Job = Job} hub s u v before old new c g h stands base resend clock words machine fronts (λ k. callers k (k == c) refl)
      f.others f.lanes (λ l. and_left (has_peer c g) (is_on l c g) f.absent) (λ l e k. ap (λ o. is_this l o) (f.sockets k)) wider
      (λ l. lanes l ∙ sym (ap (λ b. if b then None else get nat_cmp old.lanes l) (at_is_on u l c h known (stands.orderly c))))
      f.begun (f.orderly u v (stands.orderly c)) rest f.same_moment f.same_words
    where
      callers : (k : ℕ) (b : Bool) → (k == c) ≡ b → get nat_cmp new.callers k ≡ caller_of k g
      callers k true e = subst (λ n. get nat_cmp new.callers n ≡ caller_of n g) (sym (eqb-true k c e)) (uncalled ∙ sym f.uncalled)
      callers k false e = called k (unequal k c e) ∙ stands.callers k ∙ sym (caller_alike k g h (f.others k e))

  frees : (g : List ServerEvent) → Freed c g h → StandsMachine {H = H} hub new.machine (work g) → StandsFront s.live new.front (notes g)
      → Frees {H = H} hub s u before new c h g
  frees g f machine fronts = record {
    stands = freed_standing u g f machine fronts (λ l e x. x) (λ k e. stands.orderly k);
    freed = λ lane which at. freed_standing settled g f machine fronts
        (λ l e x. absurd (both_ways (is_at l c h) e (subst (λ n. is_at n c h ≡ true) (sym (settles u lane l which x)) at)))
        (λ k e. orderly_off u settled k lane h (joins_none u lane k which) (λ l x. cuts u lane l which x)
        (alone u c lane h (get nat_cmp old.lanes lane) (stands.lanes lane) at k e) (stands.orderly k));
  }

  pub lets_go : ((t : Settings) → settings_there c (work h) ≡ Some t → StandsMachine {H = H} hub new.machine (Goes c ∷ work h))
      → (settings_there c (work h) ≡ None → StandsMachine {H = H} hub new.machine (work h)) → StandsFront s.live new.front (Removed c ∷ notes h)
      → Frees {H = H} hub s u before new c h (onto (removing_conn c h) h)
  lets_go goes stays fronts = go (has_peer c h) refl
    where
      go : (b : Bool) → has_peer c h ≡ b
          → Frees {H = H} hub s u before new c h (onto ((if b then Works (Goes c) ∷ [] else []) ++ Notes (Removed c) ∷ []) h)
      go true e = let t = there_settings c (work h) e in frees (Notes (Removed c) ∷ Works (Goes c) ∷ h) (freed_there c h) (goes t.0 t.1) fronts
      go false e = frees (Notes (Removed c) ∷ h) (freed_absent c h e) (stays (absent_settings c (work h) e)) fronts

-- ---- one that lost its lane

module _ (c lane now : ℕ) (h : List ServerEvent) (o : IsOrderly (cut_of lane) c h) (there : has_peer c h ≡ true)
    (present : present_link (history c h) ≡ None)
    (socket : socket_of c (notes h) ≡ Some lane) (granted : may_resume c h ≡ true) where
  abbrev lost : List ServerEvent
  lost = Notes (LaneLost c lane now) ∷ h

  unpolled : is_polling c (notes h) ≡ false
  unpolled = false_from_ne_true (is_polling c (notes h)) (λ e. both_ways _ o.one_way
      (and_from (is_some (socket_of c (notes h)) || is_some (lost_at c (notes h))) (is_polling c (notes h))
      (or_left (is_some (socket_of c (notes h))) (is_some (lost_at c (notes h))) (ap is_some socket)) e))

  unheld : is_some (poll_of c (notes h)) ≡ false
  unheld = false_from_ne_true (is_some (poll_of c (notes h))) (λ e. both_ways (is_polling c (notes h)) unpolled
      (or_left (is_some (poll_of c (notes h))) (is_some (poll_ended c (notes h))) e))

  none_held : (l : ℕ) → is_this l (poll_lane c (notes h)) ≡ false
  none_held l = false_from_ne_true (is_this l (poll_lane c (notes h)))
      (λ e. both_ways (is_some (poll_of c (notes h))) unheld (held_some l (poll_of c (notes h)) e))

  hit : ((c == c) && is_this lane (socket_of c (notes h))) ≡ true
  hit = and_from (c == c) (is_this lane (socket_of c (notes h))) (eq-eqb c c refl) (ap (λ x. is_this lane x) socket ∙ eq-eqb lane lane refl)

  miss : ((c == c) && is_this lane (poll_lane c (notes h))) ≡ false
  miss = and_right (c == c) (is_this lane (poll_lane c (notes h))) (none_held lane)

  off_socket : socket_of c (notes lost) ≡ None
  off_socket = cond-true _ None (socket_of c (notes h)) hit

  lost_now : lost_at c (notes lost) ≡ Some now
  lost_now = cond-true _ (Some now) (lost_at c (notes h)) hit

  same_poll : poll_of c (notes lost) ≡ poll_of c (notes h)
  same_poll = cond-false _ None (poll_of c (notes h)) miss

  same_polled : poll_ended c (notes lost) ≡ poll_ended c (notes h)
  same_polled = cond-false _ (Some now) (poll_ended c (notes h)) miss

  same_polling : is_polling c (notes lost) ≡ is_polling c (notes h)
  same_polling =
      ap (λ x. is_some x || is_some (poll_ended c (notes lost))) same_poll ∙ ap (λ x. is_some (poll_of c (notes h)) || is_some x) same_polled

  pub lost_orderly : IsOrderly settled c lost
  lost_orderly = record {
    made = o.made;
    there = o.there;
    gone = o.gone;
    one_way =
        and_right (is_some (socket_of c (notes lost)) || is_some (lost_at c (notes lost))) (is_polling c (notes lost)) (same_polling ∙ unpolled);
    ended = λ e. same_polling ∙ o.ended e;
    unused = λ e. absurd (both_ways (is_some (settings_of c (work h))) e (and_parts (is_some (settings_of c (work h))) _ there).0);
    used = λ e. middle_of_three (is_some (socket_of c (notes lost))) (is_some (lost_at c (notes lost))) (is_polling c (notes lost))
        (ap is_some lost_now);
    linked = λ e l f. absurd (let z : ◌≡◌ {A = Option ℕ} None (Some l) = sym off_socket ∙ f in cc);
    unlinked = λ e f. present;
    kept = λ e f. (and_parts (is_up c h) (is_resumable (config_of c h) (history c h)) granted).1;
    links = o.links;
    timely = o.timely;
    handled = o.handled;
    taken = o.taken;
  }

  pub lost_at_lane : (l : ℕ) → is_at l c h ≡ (l == lane)
  lost_at_lane l =
      ap (λ b. b && is_on l c h) there ∙ ap (λ x. is_this l x || is_this l (poll_lane c (notes h))) socket
      ∙ ap (λ b. (l == lane) || b) (none_held l) ∙ or_none (l == lane)

  pub lost_off : (l : ℕ) → is_at l c lost ≡ false
  lost_off l = and_right (has_peer c lost) (is_on l c lost) (or_from (is_this l (socket_of c (notes lost))) (is_this l (poll_lane c (notes lost)))
      (ap (λ x. is_this l x) off_socket) (ap (λ x. is_this l (option_map (λ p. p.0) x)) same_poll ∙ none_held l))

  pub lost_sockets : (l : ℕ) → is_at l c h ≡ false → (k : ℕ) → is_this l (socket_of k (notes lost)) ≡ is_this l (socket_of k (notes h))
  lost_sockets l e k = go (k == c) refl
    where
      go : (b : Bool) → (k == c) ≡ b → is_this l (socket_of k (notes lost)) ≡ is_this l (socket_of k (notes h))
      go true f = ap (λ n. is_this l (socket_of n (notes lost))) (eqb-true k c f) ∙ ap (λ x. is_this l x) off_socket ∙ sym (sym (lost_at_lane l) ∙ e)
          ∙ sym (ap (λ x. is_this l x) socket) ∙ sym (ap (λ n. is_this l (socket_of n (notes h))) (eqb-true k c f))
      go false f = ap (λ x. is_this l x) (alike_note (LaneLost c lane now) k h f tt).socket

-- a lane isn't kept any more
removed : (u : Unsettled) (l lane : ℕ) (b : Bool) (old new : Option Lane) → b ≡ (l == lane) → ((l == lane) ≡ true → new ≡ None)
    → ((l == lane) ≡ false → new ≡ old)
    → new ≡ (if b then None else old)
removed u l lane true old new e own others = own (sym e)
removed u l lane false old new e own others = others (sym e)

module _ {H Job : Type 0} (hub : Hub Job) (s : Setup) (before : List Said) (old new : Server H Job) (c lane : ℕ) (h : List ServerEvent)
    (base : new.base ≡ old.base) (resend : new.resend ≡ old.resend) (clock : new.moment ≡ old.moment) (words : new.words ≡ old.words) (machine : new.machine ≡ old.machine)
    (callers : new.callers ≡ old.callers) (own : get nat_cmp new.lanes lane ≡ None)
    (others : (l : ℕ) → (lane == l) ≡ false → get nat_cmp new.lanes l ≡ get nat_cmp old.lanes l) (there : has_peer c h ≡ true) where
  lanes_now : (l : ℕ) → is_at l c h ≡ (l == lane) → get nat_cmp new.lanes l ≡ (if is_at l c h then None else get nat_cmp old.lanes l)
  lanes_now l e = removed settled l lane (is_at l c h) (get nat_cmp old.lanes l) (get nat_cmp new.lanes l) e
      (λ f. subst (λ n. get nat_cmp new.lanes n ≡ None) (sym (eqb-true l lane f)) own) (λ f. others l (unequal l lane f))

  pub loses : Standing {H = H} hub s (cut_of lane) before old h → present_link (history c h) ≡ None → socket_of c (notes h) ≡ Some lane
      → may_resume c h ≡ true
      → StandsFront s.live new.front (LaneLost c lane (moment h) ∷ notes h)
      → Standing {H = H} hub s settled before new (Notes (LaneLost c lane (moment h)) ∷ h)
  loses stands present socket granted fronts =
      let now = moment h in
      let o = stands.orderly c in
      let g : List ServerEvent = Notes (LaneLost c lane now) ∷ h in
      let at = lost_at_lane c lane now h o there present socket granted in
      left_standing {H = H} {Job = Job} hub s (cut_of lane) settled before old new c g h stands base resend clock words
      (subst (λ m. StandsMachine {H = H} hub m (work h)) (sym machine) stands.machine) fronts
      (λ k. ap (λ m. get nat_cmp m k) callers ∙ stands.callers k)
      (λ k e. alike_note (LaneLost c lane now) k h e tt) (λ l. same_lane_note l (LaneLost c lane now) h)
      (lost_off c lane now h o there present socket granted) (lost_sockets c lane now h o there present socket granted)
      (λ l e f. absurd (both_ways (l == lane) (sym (at l) ∙ e) f)) (λ l. lanes_now l (at l)) (λ k. refl)
      (lost_orderly c lane now h o there present socket granted)
      (λ k e. orderly_off (cut_of lane) settled k lane h (λ x. x) (λ l x. eqb-true l lane x)
      (alone (cut_of lane) c lane h (get nat_cmp old.lanes lane) (stands.lanes lane) (at lane ∙ eq-eqb lane lane refl) k e) (stands.orderly k))
      refl refl

-- ---- one whose poll ended

module _ (c lane now : ℕ) (h : List ServerEvent) (o : IsOrderly (lane_of (Some lane)) c h) (there : has_peer c h ≡ true)
    (poll : poll_lane c (notes h) ≡ Some lane) where
  abbrev answered : List ServerEvent
  answered = Notes (Answered c lane now) ∷ h

  polls : is_polling c (notes h) ≡ true
  polls = or_left (is_some (poll_of c (notes h))) (is_some (poll_ended c (notes h)))
      (held_some lane (poll_of c (notes h)) (ap (λ x. is_this lane x) poll ∙ eq-eqb lane lane refl))

  unsocketed : (is_some (socket_of c (notes h)) || is_some (lost_at c (notes h))) ≡ false
  unsocketed = false_from_ne_true (is_some (socket_of c (notes h)) || is_some (lost_at c (notes h))) (λ e. both_ways _ o.one_way
      (and_from (is_some (socket_of c (notes h)) || is_some (lost_at c (notes h))) (is_polling c (notes h)) e polls))

  on_no_socket : (l : ℕ) → is_this l (socket_of c (notes h)) ≡ false
  on_no_socket l =
      go (socket_of c (notes h)) (λ e. both_ways _ unsocketed (or_left (is_some (socket_of c (notes h))) (is_some (lost_at c (notes h))) e))
    where
      go : (x : Option ℕ) → (is_some x ≡ true → ⊥) → is_this l x ≡ false
      go None f = refl
      go (Some k) f = absurd (f refl)

  ends : ((c == c) && is_this lane (poll_lane c (notes h))) ≡ true
  ends = and_from (c == c) (is_this lane (poll_lane c (notes h))) (eq-eqb c c refl) (ap (λ x. is_this lane x) poll ∙ eq-eqb lane lane refl)

  none_now : poll_of c (notes answered) ≡ None
  none_now = cond-true _ None (poll_of c (notes h)) ends

  polled_now : poll_ended c (notes answered) ≡ Some now
  polled_now = cond-true _ (Some now) (poll_ended c (notes h)) ends

  still_polls : is_polling c (notes answered) ≡ true
  still_polls = or_right (is_some (poll_of c (notes answered))) (is_some (poll_ended c (notes answered))) (ap is_some polled_now)

  pub answered_orderly : IsOrderly settled c answered
  answered_orderly = record {
    made = o.made;
    there = o.there;
    gone = o.gone;
    one_way = and_left (is_some (socket_of c (notes h)) || is_some (lost_at c (notes h))) (is_polling c (notes answered)) unsocketed;
    ended = λ e. still_polls;
    unused = λ e. absurd (both_ways (is_some (settings_of c (work h))) e (and_parts (is_some (settings_of c (work h))) _ there).0);
    used = λ e. last_of_three (is_some (socket_of c (notes answered))) (is_some (lost_at c (notes answered)))
        (is_polling c (notes answered)) still_polls;
    linked = o.linked;
    unlinked = o.unlinked;
    kept = o.kept;
    links = o.links;
    timely = o.timely;
    handled = o.handled;
    taken = o.taken;
  }

  pub answered_at_lane : (l : ℕ) → is_at l c h ≡ (l == lane)
  answered_at_lane l =
      ap (λ b. b && is_on l c h) there ∙ ap (λ b. b || is_this l (poll_lane c (notes h))) (on_no_socket l) ∙ ap (λ x. is_this l x) poll

  pub answered_off : (l : ℕ) → is_at l c answered ≡ false
  answered_off l = and_right (has_peer c answered) (is_on l c answered)
      (or_from (is_this l (socket_of c (notes answered))) (is_this l (poll_lane c (notes answered)))
      (on_no_socket l) (ap (λ x. is_this l (option_map (λ p. p.0) x)) none_now))

module _ {H Job : Type 0} (hub : Hub Job) (s : Setup) (before : List Said) (old new : Server H Job) (c lane : ℕ) (h : List ServerEvent)
    (base : new.base ≡ old.base) (resend : new.resend ≡ old.resend) (clock : new.moment ≡ old.moment) (words : new.words ≡ old.words) (machine : new.machine ≡ old.machine)
    (callers : new.callers ≡ old.callers) (own : get nat_cmp new.lanes lane ≡ None)
    (others : (l : ℕ) → (lane == l) ≡ false → get nat_cmp new.lanes l ≡ get nat_cmp old.lanes l) (there : has_peer c h ≡ true) where
  pub answers : (now : ℕ) → Standing {H = H} hub s (lane_of (Some lane)) before old h → poll_lane c (notes h) ≡ Some lane
      → StandsFront s.live new.front (Answered c lane now ∷ notes h) → Standing {H = H} hub s settled before new (Notes (Answered c lane now) ∷ h)
  answers now stands poll fronts =
      let o = stands.orderly c in
      let g : List ServerEvent = Notes (Answered c lane now) ∷ h in
      let at = answered_at_lane c lane now h o there poll in
      left_standing {H = H} {Job = Job} hub s (lane_of (Some lane)) settled before old new c g h stands base resend clock words
      (subst (λ m. StandsMachine {H = H} hub m (work h)) (sym machine) stands.machine) fronts
      (λ k. ap (λ m. get nat_cmp m k) callers ∙ stands.callers k)
      (λ k e. alike_note (Answered c lane now) k h e tt) (λ l. same_lane_note l (Answered c lane now) h)
      (answered_off c lane now h o there poll) (λ l e k. refl)
      (λ l e f. absurd (both_ways (l == lane) (sym (at l) ∙ e) f))
      (λ l. lanes_now {H = H} {Job = Job} hub s before old new c lane h base resend clock words machine callers own others there l (at l)) (λ k. refl)
      (answered_orderly c lane now h o there poll)
      (λ k e. orderly_wider (lane_of (Some lane)) settled k h (λ x. x) (λ l x. x) (stands.orderly k))
      refl refl

-- ---- a reply to one that is on its lane

reply_lane : (lane : ℕ) (reply : Reply) (h : List ServerEvent) (l : ℕ) (x : Option Lane) → IsLane settled x l h
    → IsLane (lane_of (Some lane)) x l (Says (say.Reply lane reply) ∷ h)
reply_lane lane reply h l x is = go (l == lane) refl x is
  where
    go : (b : Bool) → (l == lane) ≡ b → (x : Option Lane) → IsLane settled x l h → IsLane (lane_of (Some lane)) x l (Says (say.Reply lane reply) ∷ h)
    go true e None nobody = nobody
    go true e (Some x) has = record {
      at = has.at;
      only = has.only;
      polls = has.polls;
      last = has.last;
      refused = has.refused;
      full = has.full;
      taken = or_left (l == lane) _ e;
    }
    go false e x is = lane_wider settled (lane_of (Some lane)) x l (Says (say.Reply lane reply) ∷ h) (λ f. absurd (both_ways false refl f))
        (lane_kept settled x l (Says (say.Reply lane reply) ∷ h) h (same_lane_reply l lane reply h e) (λ k. refl) (λ k. refl) is)

-- a reply is said on a lane on which its connection still is
pub standing_held : {H Job : Type 0} (hub : Hub Job) (s : Setup) (before : List Said) (v : Server H Job) (lane : ℕ) (reply : Reply) (h : List ServerEvent)
    → Standing {H = H} hub s settled before v h
    → Standing {H = H} hub s (lane_of (Some lane)) before (record v { words = v.words ++ say.Reply lane reply ∷ [] })
    (Says (say.Reply lane reply) ∷ h)
standing_held {H} hub s before v lane reply h stands = record {
  setup = stands.setup;
  machine = stands.machine;
  front = stands.front;
  callers = stands.callers;
  lanes = λ l. reply_lane lane reply h l (get nat_cmp v.lanes l) (stands.lanes l);
  begun = stands.begun;
  orderly = λ k. orderly_wider settled (lane_of (Some lane)) k (Says (say.Reply lane reply) ∷ h) (λ x. x) (λ l x. x)
      (orderly_alike settled k (Says (say.Reply lane reply) ∷ h) h (alike_says (say.Reply lane reply) k h) (omega arith) (stands.orderly k));
  clock = stands.clock;
  words = ap (λ l. l ++ say.Reply lane reply ∷ []) stands.words ∙ append_assoc before v.words (say.Reply lane reply ∷ []);
}

-- this is kept of a lane on which a connection is
pub held_lane : (u : Unsettled) (o : Option Lane) (l c : ℕ) (h : List ServerEvent) → IsLane u o l h → is_at l c h ≡ true
    → (x : Lane) × (o ≡ Some x) × HasLane u x l h
held_lane u None l c h nobody at = absurd (both_ways (is_at l c h) (nobody c) at)
held_lane u (Some x) l c h has at = (x, refl, has)

-- ---- one that is closed

-- what is kept of it is read after it is closed as before
pub closing_then : (c : ℕ) (why : Reason) (h : List ServerEvent)
    → onto (removing_conn c (onto (closing c why h) h)) (onto (closing c why h) h) ≡ onto (closing c why h ++ removing_conn c h) h
closing_then c why h = go (is_up c h)
  where
    go : (b : Bool)
        → onto (removing_conn c (onto (if b then step c (Closed why false) ∷ [] else []) h)) (onto (if b then step c (Closed why false) ∷ [] else []) h)
        ≡ onto ((if b then step c (Closed why false) ∷ [] else []) ++ removing_conn c h) h
    go true = refl
    go false = refl

pub known_closed : (c : ℕ) (why : Reason) (h : List ServerEvent) → IsKnown c h → IsKnown c (onto (closing c why h) h)
known_closed c why h known = go (is_up c h)
  where
    go : (b : Bool) → IsKnown c (onto (if b then step c (Closed why false) ∷ [] else []) h)
    go true = record { made = known.made; held = known.held }
    go false = known

-- ---- calls

-- what an Ok says may be said in other words
pub on_ok : {A E P Q : Type 0} (r : Result A E) → (P → Q) → OnOk r P → OnOk r Q
on_ok (Ok x) f p = f p
on_ok (Err e) f p = p

-- the poll that is held ends with this reply
pub answers_reply : {H Job : Type 0} (hub : Hub Job) (s : Setup) (before : List Said) (old new : Server H Job) (c lane : ℕ) (reply : Reply)
    (h : List ServerEvent)
    → new.base ≡ old.base → new.resend ≡ old.resend → new.moment ≡ old.moment → new.words ≡ old.words → new.machine ≡ old.machine → new.callers ≡ old.callers
    → get nat_cmp new.lanes lane ≡ None → ((l : ℕ) → (lane == l) ≡ false → get nat_cmp new.lanes l ≡ get nat_cmp old.lanes l)
    → has_peer c h ≡ true → poll_lane c (notes h) ≡ Some lane
    → ((n : List ConnectionEvent) → StandsFront s.live old.front n → is_made c n ≡ true → StandsFront s.live new.front (Answered c lane old.moment ∷ n))
    → Standing {H = H} hub s (lane_of (Some lane)) before old (onto (replying lane reply h) h)
    → Standing {H = H} hub s settled before new (Notes (Answered c lane (moment h)) ∷ onto (replying lane reply h) h)
answers_reply {H} {Job} hub s before old new c lane reply h base resend clock words machine callers own others there poll noted =
    replying_both (λ x. Standing {H = H} hub s (lane_of (Some lane)) before old x → Standing {H = H} hub s settled before new
    (Notes (Answered c lane (moment h)) ∷ x))
    lane reply h
    (λ m. answers {H = H} {Job = Job} hub s before old new c lane (Says (say.Reply lane (record reply { close = false })) ∷ h) base resend clock words machine callers own others there
    (moment h) m poll
    (subst (λ n. StandsFront s.live new.front (Answered c lane n ∷ notes h)) m.clock
    (noted (notes h) m.front ((m.orderly c).made (and_parts (is_some (settings_of c (work h))) _ there).0))))
    (λ m. answers {H = H} {Job = Job} hub s before old new c lane (Says (say.Shut lane) ∷ Says (say.Reply lane (record reply { close = true })) ∷ h) base resend clock words machine
    callers own others
    there (moment h) m poll
    (subst (λ n. StandsFront s.live new.front (Answered c lane n ∷ notes h)) m.clock
    (noted (notes h) m.front ((m.orderly c).made (and_parts (is_some (settings_of c (work h))) _ there).0))))

-- ---- what is kept of a lane

pub some_flags : (u : Unsettled) (x : Lane) (o : Option Lane) (l : ℕ) (h : List ServerEvent) → Some x ≡ o → IsLane u o l h
    → ◌≡◌ {A = Bool × Bool} (x.is_last, x.is_refused) (wants_shut l h, was_refused l h)
some_flags u x o l h e lane =
    let has : HasLane u x l h = subst (λ p. IsLane u p l h) (sym e) lane in
    ap (λ (b : Bool). (b, x.is_refused)) has.last ∙ ap (λ (b : Bool). (wants_shut l h, b)) has.refused

pub none_kept : (u : Unsettled) (o : Option Lane) (l c : ℕ) (h : List ServerEvent) → None ≡ o → IsLane u o l h → is_at l c h ≡ true → ⊥
none_kept u o l c h e lane at = both_ways (is_at l c h) (subst (λ p. IsLane u p l h) (sym e) lane c) at

-- the reply is said, and the lane is shut after it or isn't
pub replied_held : {H Job : Type 0} (hub : Hub Job) (s : Setup) (before : List Said) (v : Server H Job) (lane : ℕ) (reply : Reply) (h : List ServerEvent)
    → Standing {H = H} hub s settled before v h → (ends : Bool) → ends ≡ ends_lane lane reply.status h
    → (words : List Said) → words ≡ v.words ++ reply_and_end lane reply ends
    → Standing {H = H} hub s (lane_of (Some lane)) before (record v { words = words }) (onto (replying lane reply h) h)
replied_held {H} {Job} hub s before v lane reply h stands ends is words are =
    subst (λ (b : Bool). Standing {H = H} hub s (lane_of (Some lane)) before (record v { words = words }) (onto (says_by lane reply b) h)) is
    (go ends words are)
  where
    said_so : (b : Bool)
        → Standing {H = H} hub s (lane_of (Some lane)) before (record v { words = v.words ++ say.Reply lane (record reply { close = b }) ∷ [] })
        (Says (say.Reply lane (record reply { close = b })) ∷ h)
    said_so b = standing_held {H = H} {Job = Job} hub s before v lane (record reply { close = b }) h stands

    go : (b : Bool) (words : List Said) → words ≡ v.words ++ reply_and_end lane reply b
        → Standing {H = H} hub s (lane_of (Some lane)) before (record v { words = words }) (onto (says_by lane reply b) h)
    go false words e =
        subst (λ w. Standing {H = H} hub s (lane_of (Some lane)) before (record v { words = w }) (Says (say.Reply lane (record reply { close = false })) ∷ h))
        (sym e) (said_so false)
    go true words e =
        let reply_now : Said = say.Reply lane (record reply { close = true }) in
        subst (λ w. Standing {H = H} hub s (lane_of (Some lane)) before (record v { words = w }) (Says (say.Shut lane) ∷ Says reply_now ∷ h))
        (append_assoc v.words (reply_now ∷ []) (say.Shut lane ∷ []) ∙ sym e)
        (standing_shuts {H = H} {Job = Job} hub s (lane_of (Some lane)) before (record v { words = v.words ++ reply_now ∷ [] }) lane (Says reply_now ∷ h)
        (said_so true))
