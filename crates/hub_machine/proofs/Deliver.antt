-- One dealing with a connection, after those before it.
use Rattle.std.proofs.Common.{◌≡◌, ℕ, ◌==◌, Bool, true, false, not, ◌||◌, List, [], ◌∷◌, ◌++◌, Option, Some, None, is_some, if◌then◌else◌}
use Rattle.std.proofs.Common.{refl, sym, ap, subst, ◌∙◌, true≢false, ◌⊎◌}
use Rattle.std.proofs.lemmas.Bool.{eq-eqb, eqb-true}
use Rattle.std.specs.Ordering.{nat_cmp}
use Rattle.std.specs.BTreeMap.{btree_map_len, get}
use Rattle.hm_message.specs.declared.message.Codec.{Codec}
use Rattle.hm_message.specs.declared.message.Message.{Message}
use Rattle.hd_delivery.specs.declared.vocabulary.Reason.TheVariants.{Slow}
use Rattle.hd_delivery.specs.declared.vocabulary.Side.{Side}
use Rattle.hd_delivery.specs.Histories.{Config, EndEvent, Closed, codec_of, is_shaken}
use Rattle.hd_delivery.specs.Worlds.{Limits, MaySend}
use Rattle.hd_delivery.specs.Bytes.{Does as Step_of, sizes_of}
use Rattle.hd_calls.specs.Hubs.{Hub, Invoked, message_of}
use Rattle.hd_calls.specs.Peers.{PeerEvent, Plain, Calls, Settings, codec, is_shut, steps}
use Rattle.hd_rooms.specs.Registry.{Lists, gone}
use Rattle.hd_server.specs.Machine.{is_open_at}
use Rattle.hg_groups.specs.Standing.{StandsRegistry}
use Rattle.hg_groups.specs.declared.registry.Registry.{Registry}
use Rattle.he_end.specs.declared.errors.SendError.{SendError}
use Rattle.he_end.specs.declared.link.Agreed.{Agreed}
use Rattle.he_end.specs.Remembers.{Agrees}
use Rattle.he_end.specs.Stands.{is_client}
use Rattle.hp_peer.specs.declared.peer.Peer.{Peer}
use Rattle.hp_peer.specs.Calling.{HasNotified, IsNotice, IsUnnotified, heard}
use Rattle.hp_peer.specs.Stands.{Stands, Stays}
use Rattle.hub_machine.specs.declared.machine.Machine.{Machine}
use Rattle.hub_machine.specs.declared.idle_set.IdleClock.{IdleClock}
use Rattle.hub_machine.specs.declared.idle_set.IdlePeer.{IdlePeer}
use Rattle.hub_machine.specs.MachineView.{MachineView, StandsFor, is_up_in, moved, with_lists}
use Rattle.hub_machine.specs.Calls.{ClosesOut}
use Rattle.hub_machine.specs.Delivers.{ChangesAt, ClosesSlow, ClosesSlowAt, Delivers, HasClosedPeer, HasSent, HasSlowed, IsAnswered, Lead, LeadsBy}
use Rattle.hub_machine.specs.Delivers.{codec_at, codec_of_peer}
use Rattle.hub_machine.specs.Machines.{IsKeptAs, IsPeerOf, idle_peer_at, peer_at}
use Rattle.hub_machine.specs.KeeperState.{spoken_to}
use Rattle.hub_machine.specs.Spreads.{Delivering}
use Rattle.hub_machine.proofs.Doing.{KeepsIdleSet, PutsPeer, awake_is, index_stays, is_awake, kept_stays, idle_peer_stays}
use Rattle.hub_machine.proofs.Ends.{awake_now}
use Rattle.hub_machine.proofs.Lags.{kept_either, kept_there}

-- ---- one more

-- what leads on from where the others led comes last
lead_more : (ds : List Delivering) (d : Delivering) (a mid b : MachineView) → Lead ds a mid → LeadsBy d mid b → Lead (ds ++ d ∷ []) a b
lead_more [] d a mid b e l = (b, subst (λ (x : MachineView). LeadsBy d x b) e l, refl)
lead_more (x ∷ ds) d a mid b p l = (p.0, p.1, lead_more ds d p.0 mid b p.2 l)

-- a dealing that leads on from whatever the machine stands for comes after those before it
pub deals_more : {H Job : Type 0} (hub : Hub Job) (old mid new : Machine H Job) (ds : List Delivering) (d : Delivering) → Delivers {H = H} hub old ds mid
    → new.idle_set.clock ≡ mid.idle_set.clock
    → ((a : MachineView) → StandsFor {H = H} hub mid a → (b : MachineView) × LeadsBy d a b × StandsFor {H = H} hub new b)
    → Delivers {H = H} hub old (ds ++ d ∷ []) new
deals_more hub old mid new ds d so_far clock one = (
  λ a s.
      let x = so_far.0 a s in
      let y = one x.0 x.2 in
      (y.0, lead_more ds d a x.0 y.0 x.1 y.1, y.2),
  clock ∙ so_far.1,
)

-- ---- one connection

-- what holds at the connection and at each other one holds everywhere
everywhere : (P : ℕ → Type 0) (c : ℕ) → P c → ((k : ℕ) → (c == k) ≡ false → P k) → (k : ℕ) → P k
everywhere P c here others k = go (c == k) refl
  where
    go : (b : Bool) → (c == k) ≡ b → P k
    go true e = subst P (eqb-true c k e) here
    go false e = others k e

-- the machine stands for what changed at one connection alone, if it does so there
pub stands_at : {H Job : Type 0} (hub : Hub Job) (old new : Machine H Job) (c : ℕ) (a b : MachineView) → StandsFor {H = H} hub old a
    → KeepsIdleSet {H = H} old new → ChangesAt c a b → ((k : ℕ) → (c == k) ≡ false → peer_at new k ≡ peer_at old k)
    → IsKeptAs {H = H} hub new.idle_set.clock (idle_peer_at new c) (b.settings c) (b.moves c) (peer_at new c)
    → StandsRegistry new.registry b.lists → StandsFor {H = H} hub new b
stands_at {H} {Job} hub old new c a b s keeps changes others here registry = record {
  at = everywhere (λ k. IsKeptAs {H = H} hub new.idle_set.clock (idle_peer_at new k) (b.settings k) (b.moves k) (peer_at new k)) c here (λ k e.
      subst (λ (t : Option Settings). IsKeptAs {H = H} hub new.idle_set.clock (idle_peer_at new k) t (b.moves k) (peer_at new k)) (sym (changes.settings k))
      (subst (λ (h : List PeerEvent). IsKeptAs {H = H} hub new.idle_set.clock (idle_peer_at new k) (a.settings k) h (peer_at new k)) (sym (changes.others k e))
      (kept_stays {H = H} hub old new k (a.settings k) (a.moves k) keeps.idle_set (others k e) (s.at k))));
  index = index_stays old new keeps s.index;
  registry = registry;
}

-- there is this peer, so it was begun, and it stands for what it did
pub record HasPeer {H Job : Type 0} (hub : Hub Job) (a : MachineView) (c : ℕ) (p : Peer H Job) : Type 0 where
  pub settings : Settings
  pub are : a.settings c ≡ Some settings
  pub stands : Stands hub settings p (a.moves c)

-- the peer of one that is awake is one of those for which the machine stands
pub has_peer : {H Job : Type 0} (hub : Hub Job) (m : Machine H Job) (a : MachineView) (c : ℕ) (p : Peer H Job) → StandsFor {H = H} hub m a
    → idle_peer_at m c ≡ None → peer_at m c ≡ Some p → HasPeer {H = H} hub a c p
has_peer {H} {Job} hub m a c p s awake e =
    go (a.settings c) refl (subst (λ (q : Option (Peer H Job)). IsPeerOf {H = H} hub (a.settings c) (a.moves c) q) e
    (awake_is {H = H} hub m.idle_set.clock (idle_peer_at m c) (a.settings c) (a.moves c) (peer_at m c) awake (s.at c)))
  where
    go : (t : Option Settings) → a.settings c ≡ t → IsPeerOf {H = H} hub t (a.moves c) (Some p) → HasPeer {H = H} hub a c p
    go None f x = absurd x
    go (Some t) f x = record { settings = t; are = f; stands = x }

-- this is the peer of the connection, which is awake
pub is_its_peer : {H Job : Type 0} (hub : Hub Job) (m : Machine H Job) (c : ℕ) (s : Option Settings) (t : Settings) (h : List PeerEvent) (p : Peer H Job)
    → idle_peer_at m c ≡ None → s ≡ Some t → peer_at m c ≡ Some p → Stands {H = H} hub t p h
    → IsKeptAs {H = H} hub m.idle_set.clock (idle_peer_at m c) s h (peer_at m c)
is_its_peer {H} {Job} hub m c s t h p awake e f x =
    is_awake {H = H} hub m.idle_set.clock (idle_peer_at m c) s h (peer_at m c) awake
    (subst (λ (o : Option Settings). IsPeerOf {H = H} hub o h (peer_at m c)) (sym e)
    (subst (λ (q : Option (Peer H Job)). IsPeerOf {H = H} hub (Some t) h q) (sym f) x))

-- ---- what it did

-- the move is the latest of its connection
pub moved_here : (c : ℕ) (m : PeerEvent) (a : MachineView) → (moved c m a).moves c ≡ m ∷ a.moves c
moved_here c m a = ap (λ (b : Bool). if b then m ∷ a.moves c else a.moves c) (eq-eqb c c refl)

-- and no other has it
pub moved_elsewhere : (c : ℕ) (m : PeerEvent) (a : MachineView) (k : ℕ) → (c == k) ≡ false → (moved c m a).moves k ≡ a.moves k
moved_elsewhere c m a k e = ap (λ (b : Bool). if b then m ∷ a.moves k else a.moves k) e

-- but for its own moves, and the lists, all is as it was
pub changes_here : (c : ℕ) (m : PeerEvent) (a : MachineView) (l : Lists) → ChangesAt c a (with_lists l (moved c m a))
changes_here c m a l = record { settings = λ k. refl; others = moved_elsewhere c m a }

-- so it is where the lists alone change
changes_nothing : (c : ℕ) (a : MachineView) (l : Lists) → ChangesAt c a (with_lists l a)
changes_nothing c a l = record { settings = λ k. refl; others = λ k e. refl }

-- ---- the notice is sent

-- what was sent might be sent
may_send : {H Job : Type 0} (hub : Hub Job) (t : Settings) (p : Peer H Job) (h : List PeerEvent) (call : Invoked) → Stands {H = H} hub t p (Calls None 0 call ∷ h)
    → MaySend t.limits (sizes_of t.wire) t.config (steps t h) (message_of call)
may_send hub t p h call s =
    subst (λ (l : Limits). MaySend l (sizes_of t.wire) t.config (steps t h) (message_of call)) (sym s.limits) s.end.history.1

-- by how the connection was begun
answered_at : (s : Option Settings) (t : Settings) (m : Message) (r : Option SendError) (h after : List PeerEvent) → s ≡ Some t → IsAnswered (Some t) m r h after
    → IsAnswered s m r h after
answered_at s t m r h after e x = subst (λ (o : Option Settings). IsAnswered o m r h after) (sym e) x

pub sent : {H Job : Type 0} (hub : Hub Job) (old new : Machine H Job) (c : ℕ) (p q : Peer H Job) (m : Message) (call : Invoked) (number : ℕ)
    → idle_peer_at old c ≡ None → KeepsIdleSet {H = H} old new → Some p ≡ peer_at old c → PutsPeer {H = H} old new c q → new.registry ≡ old.registry
    → IsNotice m call
    → ((t : Settings) (h : List PeerEvent) → Stands {H = H} hub t p h → HasNotified {H = H} hub t h q call number)
    → (a : MachineView) → StandsFor {H = H} hub old a → (b : MachineView) × HasSent c m None a b × StandsFor {H = H} hub new b
sent {H} {Job} hub old new c p q m call number awake keeps was puts same notice notified a s =
    let x = has_peer {H = H} hub old a c p s awake (sym was) in
    let t = x.settings in
    let here = Calls None 0 (heard t (a.moves c) call) in
    let b = moved c here a in
    let stands = (notified t (a.moves c) x.stands).stands in (
      b,
      record {
        at = changes_here c here a a.lists;
        answered = answered_at (a.settings c) t m None (a.moves c) (b.moves c) x.are
            (record { call = call; notice = notice; may = may_send {H = H} hub t q (a.moves c) (heard t (a.moves c) call) stands; is = moved_here c here a });
        lists = refl;
      },
      stands_at {H = H} hub old new c a b s keeps (changes_here c here a a.lists) puts.others
          (is_its_peer {H = H} hub new c (b.settings c) t (b.moves c) q (idle_peer_stays {H = H} {Job = Job} old new c keeps.idle_set ∙ awake) x.are puts.at
          (subst (λ (h : List PeerEvent). Stands {H = H} hub t q h) (sym (moved_here c here a)) stands))
          (subst (λ r. StandsRegistry r a.lists) (sym same) s.registry),
    )

-- ---- it is refused

pub unsent : {H Job : Type 0} (hub : Hub Job) (old new : Machine H Job) (c : ℕ) (p q : Peer H Job) (m : Message) (why : SendError)
    → idle_peer_at old c ≡ None → KeepsIdleSet {H = H} old new → Some p ≡ peer_at old c → PutsPeer {H = H} old new c q → new.registry ≡ old.registry
    → Stays {H = H} hub p q
    → ((t : Settings) (h : List PeerEvent) → Stands {H = H} hub t p h → (call : Invoked) → IsNotice m call → IsUnnotified t h call why)
    → (a : MachineView) → StandsFor {H = H} hub old a → (b : MachineView) × HasSent c m (Some why) a b × StandsFor {H = H} hub new b
unsent {H} {Job} hub old new c p q m why awake keeps was puts same stays refused a s =
    let x = has_peer {H = H} hub old a c p s awake (sym was) in
    let t = x.settings in (
      a,
      record {
        at = changes_nothing c a a.lists;
        answered = answered_at (a.settings c) t m (Some why) (a.moves c) (a.moves c) x.are (refused t (a.moves c) x.stands, refl);
        lists = refl;
      },
      stands_at {H = H} hub old new c a a s keeps (changes_nothing c a a.lists) puts.others
          (is_its_peer {H = H} hub new c (a.settings c) t (a.moves c) q (idle_peer_stays {H = H} {Job = Job} old new c keeps.idle_set ∙ awake) x.are puts.at
          (stays t (a.moves c) x.stands))
          (subst (λ r. StandsRegistry r a.lists) (sym same) s.registry),
    )

-- ---- closed as too slow

-- what becomes of the connection's groups and user, where nothing else changed than its peer, which is closed
left_all : {H Job : Type 0} (hub : Hub Job) (old mid new : Machine H Job) (c : ℕ) (q : Peer H Job) (t : Settings) (h : List PeerEvent) (l : Lists)
    → mid.registry ≡ old.registry → ClosesOut {H = H} hub mid new c → peer_at mid c ≡ Some q → Stands {H = H} hub t q h → is_shut t h ≡ true
    → StandsRegistry old.registry l → StandsRegistry new.registry (gone l c)
left_all hub old mid new c q t h l same out e x shut r = out.shut q t h e x shut l (subst (λ (k : Registry). StandsRegistry k l) (sym same) r)

-- each other peer is as it was
as_before : {H Job : Type 0} (hub : Hub Job) (old mid new : Machine H Job) (c : ℕ) → HasClosedPeer {H = H} hub old mid c → ClosesOut {H = H} hub mid new c
    → (k : ℕ) → (c == k) ≡ false → peer_at new k ≡ peer_at old k
as_before hub old mid new c closed out k e = ap (λ peers. get nat_cmp peers k) out.peers ∙ closed.others k e

-- a peer is there if it was
still_there : {H Job : Type 0} (hub : Hub Job) (p q : Option (Peer H Job)) → ClosesSlowAt {H = H} hub p q → is_some q ≡ is_some p
still_there hub None None x = refl
still_there hub None (Some q) x = absurd x
still_there hub (Some p) None x = absurd x
still_there hub (Some p) (Some q) x = refl

-- the same ones sleep
all_keep : {H Job : Type 0} (hub : Hub Job) (old mid new : Machine H Job) (c : ℕ) → HasClosedPeer {H = H} hub old mid c → ClosesOut {H = H} hub mid new c
    → KeepsIdleSet {H = H} old new
all_keep {H} {Job} hub old mid new c closed out = record {
  idle_set = out.idle_set ∙ closed.idle_set;
  count = ap (λ peers. btree_map_len peers) out.peers ∙ closed.count;
  there = everywhere (λ k. is_some (peer_at new k) ≡ is_some (peer_at old k)) c
      (ap (λ peers. is_some (get nat_cmp peers c)) out.peers ∙ still_there {H = H} {Job = Job} hub (peer_at old c) (peer_at mid c) closed.at)
      (λ k e. ap is_some (as_before {H = H} hub old mid new c closed out k e));
}

-- whether it is up
pub is_up : (c : ℕ) (a : MachineView) (t : Settings) → a.settings c ≡ Some t → is_shut t (a.moves c) ≡ false → is_up_in a c ≡ true
is_up c a t e f = ap (λ (o : Option Settings). is_open_at o (a.moves c)) e ∙ ap not f

pub is_down : (c : ℕ) (a : MachineView) (t : Settings) → a.settings c ≡ Some t → is_shut t (a.moves c) ≡ true → is_up_in a c ≡ false
is_down c a t e f = ap (λ (o : Option Settings). is_open_at o (a.moves c)) e ∙ ap not f

-- it is closed as too slow, and the machine stands for that
abbrev LeadsSlow : {H Job : Type 0} → Hub Job → Machine H Job → ℕ → MachineView → Type 0
LeadsSlow hub new c a = (b : MachineView) × HasSlowed c a b × StandsFor hub new b

-- the end was up
slowed_up : {H Job : Type 0} (hub : Hub Job) (old mid new : Machine H Job) (c : ℕ) (a : MachineView) (t : Settings) (q : Peer H Job)
    → idle_peer_at old c ≡ None → HasClosedPeer {H = H} hub old mid c → ClosesOut {H = H} hub mid new c → StandsFor {H = H} hub old a → a.settings c ≡ Some t
    → peer_at mid c ≡ Some q
    → is_shut t (a.moves c) ≡ false → Stands {H = H} hub t q (Plain (Step_of (Closed Slow false)) ∷ a.moves c) → LeadsSlow {H = H} hub new c a
slowed_up {H} {Job} hub old mid new c a t q awake closed out s et eq up x =
    let keeps = all_keep {H = H} {Job = Job} hub old mid new c closed out in
    let here = Plain (Step_of (Closed Slow false)) in
    let l = gone a.lists c in
    let b = with_lists l (moved c here a) in (
      b,
      record {
        at = changes_here c here a l;
        closed = λ e. moved_here c here a;
        kept = λ e. absurd (true≢false (sym (is_up c a t et up) ∙ e));
        lists = ap (λ (o : Option Settings). if is_some o then l else a.lists) (sym et);
      },
      stands_at {H = H} hub old new c a b s keeps (changes_here c here a l) (as_before {H = H} hub old mid new c closed out)
          (is_its_peer {H = H} hub new c (b.settings c) t (b.moves c) q (idle_peer_stays {H = H} {Job = Job} old new c keeps.idle_set ∙ awake) et
          (ap (λ peers. get nat_cmp peers c) out.peers ∙ eq)
          (subst (λ (h : List PeerEvent). Stands {H = H} hub t q h) (sym (moved_here c here a)) x))
          (left_all {H = H} hub old mid new c q t (here ∷ a.moves c) a.lists closed.registry out eq x refl s.registry),
    )

-- the end was closed before
slowed_shut : {H Job : Type 0} (hub : Hub Job) (old mid new : Machine H Job) (c : ℕ) (a : MachineView) (t : Settings) (q : Peer H Job)
    → idle_peer_at old c ≡ None → HasClosedPeer {H = H} hub old mid c → ClosesOut {H = H} hub mid new c → StandsFor {H = H} hub old a → a.settings c ≡ Some t
    → peer_at mid c ≡ Some q
    → is_shut t (a.moves c) ≡ true → Stands {H = H} hub t q (a.moves c) → LeadsSlow {H = H} hub new c a
slowed_shut {H} {Job} hub old mid new c a t q awake closed out s et eq shut x =
    let keeps = all_keep {H = H} {Job = Job} hub old mid new c closed out in
    let l = gone a.lists c in
    let b = with_lists l a in (
      b,
      record {
        at = changes_nothing c a l;
        closed = λ e. absurd (true≢false (sym e ∙ is_down c a t et shut));
        kept = λ e. refl;
        lists = ap (λ (o : Option Settings). if is_some o then l else a.lists) (sym et);
      },
      stands_at {H = H} hub old new c a b s keeps (changes_nothing c a l) (as_before {H = H} hub old mid new c closed out)
          (is_its_peer {H = H} hub new c (b.settings c) t (a.moves c) q (idle_peer_stays {H = H} {Job = Job} old new c keeps.idle_set ∙ awake) et
          (ap (λ peers. get nat_cmp peers c) out.peers ∙ eq) x)
          (left_all {H = H} hub old mid new c q t (a.moves c) a.lists closed.registry out eq x shut s.registry),
    )

-- there is no such connection
slowed_none : {H Job : Type 0} (hub : Hub Job) (old mid new : Machine H Job) (c : ℕ) (a : MachineView)
    → HasClosedPeer {H = H} hub old mid c → ClosesOut {H = H} hub mid new c → StandsFor {H = H} hub old a → a.settings c ≡ None → peer_at old c ≡ None
    → peer_at mid c ≡ None → LeadsSlow {H = H} hub new c a
slowed_none {H} {Job} hub old mid new c a closed out s et eo em = (
  a,
  record {
    at = changes_nothing c a a.lists;
    closed = λ e. absurd (true≢false (sym e ∙ ap (λ (o : Option Settings). is_open_at o (a.moves c)) et));
    kept = λ e. refl;
    lists = ap (λ (o : Option Settings). if is_some o then gone a.lists c else a.lists) (sym et);
  },
  stands_at {H = H} hub old new c a a s (all_keep {H = H} {Job = Job} hub old mid new c closed out) (changes_nothing c a a.lists)
      (as_before {H = H} hub old mid new c closed out)
      (kept_stays {H = H} hub old new c (a.settings c) (a.moves c) (out.idle_set ∙ closed.idle_set)
      (ap (λ peers. get nat_cmp peers c) out.peers ∙ em ∙ sym eo) (s.at c))
      (subst (λ (k : Registry). StandsRegistry k a.lists) (sym (out.absent em ∙ closed.registry)) s.registry),
)

none_is : {A : Type 0} (o : Option A) → is_some o ≡ false → o ≡ None
none_is None e = refl
none_is (Some x) e = absurd (true≢false e)

-- whatever it was, if it is awake
pub slowed : {H Job : Type 0} (hub : Hub Job) (old mid new : Machine H Job) (c : ℕ) → (idle_peer_at old c ≡ None) ⊎ (peer_at old c ≡ None)
    → HasClosedPeer {H = H} hub old mid c → ClosesOut {H = H} hub mid new c → (a : MachineView) → StandsFor {H = H} hub old a → LeadsSlow {H = H} hub new c a
slowed {H} {Job} hub old mid new c awake closed out a s = go (peer_at old c) (peer_at mid c) refl refl closed.at
  where
    shuts : (t : Settings) (p q : Peer H Job) → idle_peer_at old c ≡ None → a.settings c ≡ Some t → peer_at mid c ≡ Some q → Stands {H = H} hub t p (a.moves c)
        → ClosesSlow {H = H} hub p q → (b : Bool) → is_shut t (a.moves c) ≡ b → LeadsSlow {H = H} hub new c a
    shuts t p q up et eq x f true e = slowed_shut {H = H} {Job = Job} hub old mid new c a t q up closed out s et eq e ((f t (a.moves c) x).1 e)
    shuts t p q up et eq x f false e = slowed_up {H = H} {Job = Job} hub old mid new c a t q up closed out s et eq e ((f t (a.moves c) x).0 e)

    go : (p q : Option (Peer H Job)) → peer_at old c ≡ p → peer_at mid c ≡ q → ClosesSlowAt {H = H} hub p q → LeadsSlow {H = H} hub new c a
    go None None ep eq f =
        slowed_none {H = H} {Job = Job} hub old mid new c a closed out s
        (none_is (a.settings c)
        (kept_there {H = H} {Job = Job} hub old.idle_set.clock (idle_peer_at old c) (a.settings c) (a.moves c) (peer_at old c) (s.at c) ∙ ap is_some ep)) ep eq
    go None (Some q) ep eq f = absurd f
    go (Some p) None ep eq f = absurd f
    go (Some p) (Some q) ep eq f =
        let up = awake_now {H = H} {Job = Job} old c p awake (sym ep) in
        let x = has_peer {H = H} {Job = Job} hub old a c p s up ep in
        shuts x.settings p q up x.are eq x.stands f (is_shut x.settings (a.moves c)) refl

-- one that was up is in no group now
pub slowed_lists : (c : ℕ) (a b : MachineView) → HasSlowed c a b → is_up_in a c ≡ true → b.lists ≡ gone a.lists c
slowed_lists c a b s up = s.lists ∙ go (a.settings c) up
  where
    go : (o : Option Settings) → is_open_at o (a.moves c) ≡ true → (if is_some o then gone a.lists c else a.lists) ≡ gone a.lists c
    go None e = absurd (true≢false (sym e))
    go (Some t) e = refl

-- ---- codecs

-- an end has a codec exactly if it has shaken hands or is a client's, and it is the one of its history
end_codec : (agreed : Option Agreed) (side : Side) (codec : Codec) (c : Config) (k : List EndEvent) → Agrees agreed c k → side ≡ c.side → codec ≡ codec_of c k
    → (if is_some agreed || is_client side then Some codec else None) ≡ (if is_shaken k || is_client c.side then Some (codec_of c k) else None)
end_codec None side codec c k a e f =
    ap (λ (s : Side). if is_client s then Some codec else None) e ∙ ap (λ (x : Codec). if is_client c.side then Some x else None) f
    ∙ ap (λ (b : Bool). if b || is_client c.side then Some (codec_of c k) else None) (sym a.0)
end_codec (Some x) side codec c k a e f =
    ap Some f ∙ ap (λ (b : Bool). if b || is_client c.side then Some (codec_of c k) else None) (sym a.0)

-- a peer is spoken to as the moves of its connection tell, whether it sleeps or not
pub kept_codec : {H Job : Type 0} (hub : Hub Job) (clock : IdleClock) (idle_peer : Option IdlePeer) (o : Option Settings) (h : List PeerEvent) (p : Option (Peer H Job))
    → IsKeptAs {H = H} hub clock idle_peer o h p → codec_of_peer {H = H} p ≡ spoken_to o h
kept_codec {H} {Job} hub clock idle_peer o h p =
    kept_either {H = H} {Job = Job} hub clock (λ o p. codec_of_peer {H = H} p ≡ spoken_to o h) idle_peer o h p refl (λ t q x.
    let s = q.end.session in
    let is = x.stands.end.remembers in
    end_codec s.agreed s.side s.codec t.config (steps t x.before) is.agreed is.side is.codec
    ∙ ap (λ (b : Bool). if b || is_client t.config.side then Some (codec t x.before) else None) (sym x.same.shaken)
    ∙ ap (λ (k : Codec). if is_shaken (steps t h) || is_client t.config.side then Some k else None) (sym x.same.coded))

-- what is spoken to in no codec hasn't shaken hands
no_codec : (shaken at_client : Bool) (codec : Codec) → (if shaken || at_client then Some codec else None) ≡ None → shaken ≡ false
no_codec true at_client codec e = absurd (let z : ◌≡◌ {A = Option Codec} (Some codec) None = e in cc)
no_codec false at_client codec e = refl

-- a connection whose peer has no codec yet hasn't shaken hands
pub codec_none : {H Job : Type 0} (hub : Hub Job) (m : Machine H Job) (a : MachineView) (c : ℕ) (t : Settings) → StandsFor {H = H} hub m a → a.settings c ≡ Some t
    → codec_at {H = H} m c ≡ None → is_shaken (steps t (a.moves c)) ≡ false
codec_none {H} {Job} hub m a c t s e none =
    no_codec (is_shaken (steps t (a.moves c))) (is_client t.config.side) (codec t (a.moves c))
    (ap (λ (o : Option Settings). spoken_to o (a.moves c)) (sym e)
    ∙ sym (kept_codec {H = H} {Job = Job} hub m.idle_set.clock (idle_peer_at m c) (a.settings c) (a.moves c) (peer_at m c) (s.at c)) ∙ none)
