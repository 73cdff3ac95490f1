-- What a new connection changes in what the machine stands for.
use Rattle.std.proofs.Common.{◌≡◌, ◌<◌, ◌≤◌, ◌+◌, ℕ, ◌==◌, Bool, true, false, not, ◌&&◌, ◌||◌, List, [], ◌∷◌, ◌++◌, filter, length, Option}
use Rattle.std.proofs.Common.{Some, None}
use Rattle.std.proofs.Common.{refl, sym, ap, subst, ◌∙◌, arith}
use Rattle.std.specs.Prelude.{if◌then◌else◌}
use Rattle.std.specs.Ordering.{nat_cmp}
use Rattle.std.specs.BTreeMap.{BTreeMap, btree_map_len, Updates}
use Rattle.std.proofs.lemmas.Bool.{eqb-true, eq-eqb, cond-true, cond-false, cond_both, or_parts}
use Rattle.std.proofs.lemmas.List.Elements.{filter-append}
use Rattle.hd_calls.specs.Hubs.{Hub}
use Rattle.hd_calls.specs.Peers.{PeerEvent, Settings}
use Rattle.hd_calls.specs.Rules.{IsPeer}
use Rattle.hd_rooms.specs.Registry.{Pair, Lists, has, named, same_pair, same_text, with_pair, without}
use Rattle.hg_groups.specs.Standing.{StandsRegistry}
use Rattle.hd_server.specs.Machine.{MachineEvent, Connects, Does, Rounds, Carries, Goes}
use Rattle.hd_server.specs.Machine.{has_gone, is_open, joined, moves, of_open, registry, settings_of, user_pairs}
use Rattle.hp_peer.specs.declared.peer.Peer.{Peer}
use Rattle.hp_peer.specs.Stands.{Stands}
use Rattle.hg_groups.specs.declared.registry.Registry.{Registry}
use Rattle.hub_machine.specs.declared.machine.Machine.{Machine}
use Rattle.hub_machine.specs.declared.idle_set.IdleClock.{IdleClock}
use Rattle.hub_machine.specs.declared.idle_set.IdlePeer.{IdlePeer}
use Rattle.hub_machine.specs.declared.idle_set.IdleSet.{IdleSet}
use Rattle.hub_machine.specs.Machines.{IsKeptAs, IsPeerOf, IsStranger, SaysAsSent, StandsMachine, idle_peer_at, peer_at, settings_there}
use Rattle.hub_machine.specs.IdleSet.{Changes}
use Rattle.hub_machine.proofs.Awake.{AddsOne, each_kept, has_room, index_new, one_more, room_for_all}
use Rattle.hub_machine.proofs.Open.{OthersOpen, filter_goes, filter_stays, lists_agree, of_open_unpaired}
use Rattle.hub_machine.proofs.Doing.{PutsPeer, apart, open_by, peer_is}
use Rattle.hub_machine.proofs.Ends as ends

-- ---- its peer

pub put : {H Job : Type 0} (old new : Machine H Job) (c : ℕ) (p : Peer H Job) → Updates nat_cmp old.peers new.peers c (Some p) → PutsPeer {H = H} old new c p
put old new c p updates = record { at = updates.1; others = λ k e. updates.2 k (ends.apart c k e) }

-- ---- pairs of a connection

-- a list without the connection's pairs has none of it
without_has : (u : List ℕ) (c : ℕ) (ps : List Pair) → has (u, c) (without c ps) ≡ false
without_has u c [] = refl
without_has u c (p ∷ ps) = go (c == p.1) refl (without_has u c ps)
  where
    other : (b : Bool) → (b && false) ≡ false
    other true = refl
    other false = refl

    go : (b : Bool) → (c == p.1) ≡ b → has (u, c) (without c ps) ≡ false → has (u, c) (without c (p ∷ ps)) ≡ false
    go true e ih = ap (has (u, c)) (filter_goes (λ (q : Pair). not (c == q.1)) p ps (ap not e)) ∙ ih
    go false e ih =
        ap (has (u, c)) (filter_stays (λ (q : Pair). not (c == q.1)) p ps (ap not e))
        ∙ ap (λ b. (same_text u p.0 && b) || has (u, c) (without c ps)) e
        ∙ ap (λ b. b || has (u, c) (without c ps)) (other (same_text u p.0))
        ∙ ih

-- nor has one in which some pairs are left out
filter_has : (q : Pair → Bool) (p : Pair) (ps : List Pair) → has p ps ≡ false → has p (filter q ps) ≡ false
filter_has q p [] e = refl
filter_has q p (x ∷ ps) e =
    let parts = or_parts (same_pair p x) (has p ps) e in
    go (q x) refl parts.0 (filter_has q p ps parts.1)
  where
    go : (b : Bool) → q x ≡ b → same_pair p x ≡ false → has p (filter q ps) ≡ false → has p (filter q (x ∷ ps)) ≡ false
    go true e f ih = ap (has p) (filter_stays q x ps e) ∙ ap (λ b. b || has p (filter q ps)) f ∙ ih
    go false e f ih = ap (has p) (filter_goes q x ps e) ∙ ih

-- another connection's pair is put in, and still the connection has none
with_other : (c k : ℕ) (u : List ℕ) (ps : List Pair) → (c == k) ≡ false → without c ps ≡ ps → without c (with_pair (u, k) ps) ≡ with_pair (u, k) ps
with_other c k u ps e ih = cond_both (has (u, k) ps) ps (ps ++ (u, k) ∷ []) (λ xs. without c xs ≡ xs) (λ f. ih)
    (λ f. filter-append (λ (q : Pair). not (c == q.1)) ps ((u, k) ∷ [])
    ∙ ap (λ xs. xs ++ without c ((u, k) ∷ [])) ih
    ∙ ap (λ xs. ps ++ xs) (filter_stays (λ (q : Pair). not (c == q.1)) (u, k) [] (ap not e)))

-- ---- one that didn't connect

-- it isn't the one that did
unconnected : (c k : ℕ) (t : Settings) (o : Option Settings) → (if c == k then Some t else o) ≡ None → ((c == k) ≡ false) × (o ≡ None)
unconnected c k t o e = go (c == k) refl
  where
    go : (b : Bool) → (c == k) ≡ b → ((c == k) ≡ false) × (o ≡ None)
    go true f = absurd (let z : ◌≡◌ {A = Option Settings} (Some t) None = sym (cond-true (c == k) (Some t) o f) ∙ e in cc)
    go false f = (f, sym (cond-false (c == k) (Some t) o f) ∙ e)

-- it is no user's
pub no_user : (c : ℕ) (w : List MachineEvent) → settings_of c w ≡ None → without c (user_pairs w) ≡ user_pairs w
no_user c [] e = refl
no_user c (Connects k t None ∷ w) e = no_user c w (unconnected c k t (settings_of c w) e).1
no_user c (Connects k t (Some u) ∷ w) e =
    let is = unconnected c k t (settings_of c w) e in
    with_other c k u (user_pairs w) is.0 (no_user c w is.1)
no_user c (Does k m ∷ w) e = no_user c w e
no_user c (Rounds now ∷ w) e = no_user c w e
no_user c (Carries k j d fates asked ∷ w) e = no_user c w e
no_user c (Goes k ∷ w) e = no_user c w e

-- one that isn't there doesn't sleep
no_idle_peer : {H Job : Type 0} (hub : Hub Job) (clock : IdleClock) (idle_peer : Option IdlePeer) (t : Option Settings) (h : List PeerEvent) (p : Option (Peer H Job)) → t ≡ None
    → IsKeptAs {H = H} hub clock idle_peer t h p → idle_peer ≡ None
no_idle_peer hub clock None t h p e kept = refl
no_idle_peer hub clock (Some idle_peer) None h p e kept = absurd kept
no_idle_peer hub clock (Some idle_peer) (Some t) h p e kept = absurd (let z : ◌≡◌ {A = Option Settings} (Some t) None = e in cc)

-- ---- what a connection leaves as it was

module _ {H Job : Type 0} (hub : Hub Job) (old new : Machine H Job) (w : List MachineEvent) (c : ℕ) (t : Settings) (user : Option (List ℕ)) (p : Peer H Job)
    (s : StandsMachine {H = H} hub old w) (fresh : settings_of c w ≡ None) (from_one : 0 < c) (puts : PutsPeer {H = H} old new c p)
    (taken : IdleSet) (adds : AddsOne old.idle_set taken new.idle_set (btree_map_len old.peers) (btree_map_len new.peers) c)
    (stands : Stands {H = H} hub t p []) where
  abbrev after : List MachineEvent
  after = Connects c t user ∷ w

  stranger : IsStranger c w
  stranger = s.strangers c fresh

  -- its own settings
  own : settings_of c after ≡ Some t
  own = cond-true (c == c) (Some t) (settings_of c w) (eq-eqb c c refl)

  -- those of others
  others : (k : ℕ) → (c == k) ≡ false → settings_of k after ≡ settings_of k w
  others k e = cond-false (k == c) (Some t) (settings_of k w) (apart c k e)

  -- it didn't sleep, since it wasn't there
  unnapped : idle_peer_at old c ≡ None
  unnapped = no_idle_peer {H = H} {Job = Job} hub old.idle_set.clock (idle_peer_at old c) (settings_there c w) (moves c w) (peer_at old c)
      (cond-false (has_gone c w) None (settings_of c w) stranger.unknown ∙ fresh) (s.at c)

  few : length old.idle_set.awake.numbers.items ≤ btree_map_len old.peers
  few = has_room {H = H} {Job = Job} old s.index

  changed : Changes old.idle_set new.idle_set c None true
  changed = one_more old.idle_set taken new.idle_set (btree_map_len old.peers) (btree_map_len new.peers) c adds s.index.kept few unnapped

  here : IsPeerOf {H = H} hub (settings_there c after) (moves c after) (Some p)
  here =
      subst (λ o. IsPeerOf {H = H} hub o (moves c after) (Some p))
      (sym (cond-false (has_gone c w) None (settings_of c after) stranger.unknown ∙ own))
      (subst (λ h. IsPeerOf {H = H} hub (Some t) h (Some p)) (sym stranger.unmoved) stands)

  others_kept : (k : ℕ) → (c == k) ≡ false
      → IsKeptAs {H = H} hub old.idle_set.clock (idle_peer_at old k) (settings_there k after) (moves k w) (peer_at old k)
  others_kept k e =
      subst (λ o. IsKeptAs {H = H} hub old.idle_set.clock (idle_peer_at old k) o (moves k w) (peer_at old k))
      (ap (λ o. if has_gone k w then None else o) (sym (others k e))) (s.at k)

  peers_each : (k : ℕ) (o : Settings) → settings_of k after ≡ Some o → (b : Bool) → (c == k) ≡ b → IsPeer hub o (moves k after)
  peers_each k o e true f =
      let one : ◌≡◌ {A = Option Settings} (Some t) (Some o) = sym own ∙ ap (λ n. settings_of n after) (eqb-true c k f) ∙ e in
      let same : t ≡ o = cc in
      subst (λ n. IsPeer hub o (moves n w)) (eqb-true c k f)
      (subst (λ h. IsPeer hub o h) (sym stranger.unmoved) (subst (λ x. IsPeer hub x []) same (peer_is {H = H} hub t p [] stands)))
  peers_each k o e false f = s.peers k o (sym (others k f) ∙ e)

  said_each : (k : ℕ) (o : Settings) → settings_of k after ≡ Some o → (b : Bool) → (c == k) ≡ b → SaysAsSent o (moves k after)
  said_each k o e true f =
      let one : ◌≡◌ {A = Option Settings} (Some t) (Some o) = sym own ∙ ap (λ n. settings_of n after) (eqb-true c k f) ∙ e in
      let same : t ≡ o = cc in
      subst (λ n. SaysAsSent o (moves n w)) (eqb-true c k f)
      (subst (λ h. SaysAsSent o h) (sym stranger.unmoved) (subst (λ x. SaysAsSent x []) same stands.end.said))
  said_each k o e false f = s.said k o (sym (others k f) ∙ e)

  strangers_each : (k : ℕ) → settings_of k after ≡ None → IsStranger k after
  strangers_each k e =
      let was = s.strangers k (unconnected k c t (settings_of k w) e).1 in
      record { unknown = was.unknown; unmoved = was.unmoved; in_no_group = was.in_no_group }

  -- ---- the registry

  is_open_now : is_open c after ≡ true
  is_open_now = open_by (has_gone c w) false (settings_of c after) (Some t) (moves c w) [] stranger.unknown own stranger.unmoved

  others_open : OthersOpen c w after
  others_open k e = open_by (has_gone k w) (has_gone k w) (settings_of k after) (settings_of k w) (moves k w) (moves k w) refl (others k e) refl

  groups_same : of_open after (joined w) ≡ of_open w (joined w)
  groups_same = of_open_unpaired c w after (joined w) stranger.in_no_group others_open

  users_same : of_open after (user_pairs w) ≡ of_open w (user_pairs w)
  users_same = of_open_unpaired c w after (user_pairs w) (no_user c w fresh) others_open

  -- the machine stands for the connection too, if its registry does
  stands_with : StandsRegistry new.registry (registry after) → StandsMachine {H = H} hub new after
  stands_with lists = record {
    at = each_kept {H = H} {Job = Job} hub old new c (Some p) None true changed puts.at puts.others (λ k. settings_there k after)
        (λ k. moves k after) others_kept here;
    index = index_new {H = H} {Job = Job} old new c p s.index changed puts
        (room_for_all old.idle_set taken new.idle_set (btree_map_len old.peers) (btree_map_len new.peers) c adds s.index.kept few unnapped);
    rounds = ap (λ (k : IdleClock). k.rounds) changed.clock ∙ s.rounds;
    registry = lists;
    peers = λ k o e. peers_each k o e (c == k) refl;
    said = λ k o e. said_each k o e (c == k) refl;
    strangers = strangers_each;
    from_one = others 0 (go (c == 0) refl) ∙ s.from_one;
  }
    where
      go : (b : Bool) → (c == 0) ≡ b → (c == 0) ≡ false
      go true e = let z : c ≡ 0 = eqb-true c 0 e in absurd (omega (arith, from_one, z))
      go false e = e

-- a user's pair goes last
pub user_joins : (w after : List MachineEvent) (c : ℕ) (u : List ℕ) → is_open c after ≡ true → without c (user_pairs w) ≡ user_pairs w
    → of_open after (user_pairs w) ≡ of_open w (user_pairs w) → of_open after (with_pair (u, c) (user_pairs w)) ≡ with_pair (u, c) (of_open w (user_pairs w))
user_joins w after c u up none same =
    let new : has (u, c) (user_pairs w) ≡ false = ap (has (u, c)) (sym none) ∙ without_has u c (user_pairs w) in
    ap (of_open after) (cond-false (has (u, c) (user_pairs w)) (user_pairs w) (user_pairs w ++ (u, c) ∷ []) new)
    ∙ filter-append (λ (q : Pair). is_open q.1 after) (user_pairs w) ((u, c) ∷ [])
    ∙ ap (λ xs. xs ++ of_open after ((u, c) ∷ [])) same
    ∙ ap (λ xs. of_open w (user_pairs w) ++ xs) (filter_stays (λ (q : Pair). is_open q.1 after) (u, c) [] up)
    ∙ sym (cond-false (has (u, c) (of_open w (user_pairs w))) (of_open w (user_pairs w)) (of_open w (user_pairs w) ++ (u, c) ∷ [])
    (filter_has (λ q. is_open q.1 w) (u, c) (user_pairs w) new))

-- the connection is named as the user's, if there is one
abbrev pub NamesIn : {H Job : Type 0} → Machine H Job → Machine H Job → ℕ → Option (List ℕ) → Type 0
NamesIn old new c None = new.registry ≡ old.registry
NamesIn old new c (Some u) = (l : Lists) → StandsRegistry old.registry l → StandsRegistry new.registry (named l u c)

-- a new connection has its peer, and is its user's
pub connects : {H Job : Type 0} (hub : Hub Job) (old new : Machine H Job) (w : List MachineEvent) (c : ℕ) (t : Settings) (user : Option (List ℕ)) (p : Peer H Job)
    → StandsMachine {H = H} hub old w → settings_of c w ≡ None → 0 < c → PutsPeer {H = H} old new c p
    → (taken : IdleSet) → AddsOne old.idle_set taken new.idle_set (btree_map_len old.peers) (btree_map_len new.peers) c → Stands {H = H} hub t p []
    → NamesIn {H = H} {Job = Job} old new c user → StandsMachine {H = H} hub new (Connects c t user ∷ w)
connects {H} {Job} hub old new w c t None p s fresh from_one puts taken adds stands kept =
    stands_with {H = H} {Job = Job} hub old new w c t None p s fresh from_one puts taken adds stands
    (subst (λ l. StandsRegistry new.registry l)
    (sym (lists_agree (registry (Connects c t None ∷ w)) (registry w)
    (groups_same {H = H} {Job = Job} hub old new w c t None p s fresh from_one puts taken adds stands)
    (users_same {H = H} {Job = Job} hub old new w c t None p s fresh from_one puts taken adds stands)))
    (subst (λ r. StandsRegistry r (registry w)) (sym kept) s.registry))
connects {H} {Job} hub old new w c t (Some u) p s fresh from_one puts taken adds stands names =
    stands_with {H = H} {Job = Job} hub old new w c t (Some u) p s fresh from_one puts taken adds stands
    (subst (λ l. StandsRegistry new.registry l)
    (sym (lists_agree (registry (Connects c t (Some u) ∷ w)) (named (registry w) u c)
    (groups_same {H = H} {Job = Job} hub old new w c t (Some u) p s fresh from_one puts taken adds stands)
    (user_joins w (Connects c t (Some u) ∷ w) c u
    (is_open_now {H = H} {Job = Job} hub old new w c t (Some u) p s fresh from_one puts taken adds stands) (no_user c w fresh)
    (users_same {H = H} {Job = Job} hub old new w c t (Some u) p s fresh from_one puts taken adds stands))))
    (names (registry w) s.registry))

-- an insertion makes one more at most
pub at_most_one : (b : Bool) (m n : ℕ) → n ≡ m + (if b then 0 else 1) → n ≤ m + 1
at_most_one true m n e = omega (arith, e)
at_most_one false m n e = omega (arith, e)

-- the same of a machine that names the user first, takes room, and then puts the peer in
pub begins : {H Job : Type 0} (hub : Hub Job) (old mid : Machine H Job) (r : Registry) (taken now : IdleSet)
    (ps : BTreeMap ℕ (Peer H Job)) (w : List MachineEvent) (c : ℕ) (t : Settings) (user : Option (List ℕ)) (p : Peer H Job)
    → StandsMachine {H = H} hub old w → settings_of c w ≡ None → 0 < c → mid ≡ record old { registry = r } → Updates nat_cmp mid.peers ps c (Some p)
    → AddsOne mid.idle_set taken now (btree_map_len mid.peers) (btree_map_len ps) c → Stands {H = H} hub t p []
    → NamesIn {H = H} {Job = Job} old mid c user
    → StandsMachine {H = H} hub (record mid { peers = ps; idle_set = now }) (Connects c t user ∷ w)
begins {H} {Job} hub old mid r taken now ps w c t user p s fresh from_one kept updates adds stands names =
    let new : Machine H Job = record mid { peers = ps; idle_set = now } in
    connects {H = H} {Job = Job} hub old new w c t user p s fresh from_one
    (put old new c p (subst (λ m. Updates nat_cmp m.peers ps c (Some p)) kept updates)) taken
    (subst (λ m. AddsOne m.idle_set taken now (btree_map_len m.peers) (btree_map_len ps) c) kept adds) stands (renames user names)
  where
    renames : (o : Option (List ℕ)) → NamesIn {H = H} {Job = Job} old mid c o
        → NamesIn {H = H} {Job = Job} old (record mid { peers = ps; idle_set = now }) c o
    renames None e = e
    renames (Some u) e = e
