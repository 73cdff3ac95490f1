-- Calls of one connection's end: its peer changes in the machine, and one whose end is closed leaves everything.
use Rattle.std.proofs.Common.{◌≡◌, ℕ, ◌==◌, Bool, true, false, List, ◌++◌, Option, Some, None, is_some, refl, sym, ap, subst, ◌∙◌, ◌⊎◌, inl, inr}
use Rattle.std.proofs.lemmas.Bool.{eqb-true}
use Rattle.std.specs.Prelude.{if◌then◌else◌, nat_lt}
use Rattle.std.proofs.Common.{Less, Equal, Greater}
use Rattle.std.specs.Ordering.{is_eq, nat_cmp}
use Rattle.std.specs.BTreeMap.{BTreeMap, btree_map_len, get, is_at, WritesThrough}
use Rattle.hd_calls.specs.Hubs.{Hub}
use Rattle.hd_calls.specs.Peers.{PeerEvent, Settings, is_shut}
use Rattle.hg_groups.specs.Standing.{StandsRegistry}
use Rattle.hd_server.specs.Machine.{MachineEvent, moves, registry}
use Rattle.hp_peer.specs.declared.peer.Peer.{Peer}
use Rattle.hp_peer.specs.Stands.{OfEach, Stands}
use Rattle.hub_machine.specs.declared.machine.Machine.{Machine}
use Rattle.hub_machine.specs.declared.idle_set.IdlePeer.{IdlePeer}
use Rattle.hub_machine.specs.declared.idle_set.IdleSet.{IdleSet}
use Rattle.hub_machine.specs.Machines.{IsAsItWas, IsKeptAs, IsPeerOf, StandsMachine, idle_peer_at, peer_at, settings_there}
use Rattle.hub_machine.specs.Calls.{ClosesOut, ClosesOutIf, doing}
use Rattle.hub_machine.proofs.Doing.{KeepsIdleSet, PutsPeer, awake_is, index_stays, kept_stays, stands_closing, stands_on}

-- ---- a peer that is lent

-- the order of numbers finds no other
pub apart : (c k : ℕ) → (c == k) ≡ false → is_at (nat_cmp c) k ≡ false
apart c k e = ap (λ b. is_eq (if nat_lt c k then Less else (if b then Equal else Greater))) e ∙ either (nat_lt c k)
  where
    either : (b : Bool) → is_eq (if b then Less else Greater) ≡ false
    either true = refl
    either false = refl

-- what was lent was written
pub written : {H Job : Type 0} (old new : Machine H Job) (c : ℕ) (p q : Peer H Job) → Some p ≡ peer_at old c
    → WritesThrough nat_cmp (nat_cmp c) old.peers q new.peers → PutsPeer {H = H} old new c q
written old new c p q at through =
    let updates = through.3 (sym (ap is_some at)) in
    record { at = updates.1; others = λ k e. updates.2 k (apart c k e) }

-- whoever has a peer had one, and sleeps if it slept
pub keeps : {H Job : Type 0} (old new : Machine H Job) (c : ℕ) (p q : Peer H Job) → Some p ≡ peer_at old c
    → WritesThrough nat_cmp (nat_cmp c) old.peers q new.peers → new.idle_set ≡ old.idle_set → KeepsIdleSet {H = H} old new
keeps {H} {Job} old new c p q at through same = record { idle_set = same; count = through.2; there = λ k. go k (c == k) refl }
  where
    puts : PutsPeer {H = H} old new c q
    puts = written {H = H} {Job = Job} old new c p q at through

    go : (k : ℕ) (b : Bool) → (c == k) ≡ b → is_some (peer_at new k) ≡ is_some (peer_at old k)
    go k true e = subst (λ n. is_some (peer_at new n) ≡ is_some (peer_at old n)) (eqb-true c k e) (ap is_some puts.at ∙ ap is_some at)
    go k false e = ap is_some (puts.others k e)

-- ---- one that is there

-- its peer stands for what it did, if it is awake
pub stood : {H Job : Type 0} (hub : Hub Job) (m : Machine H Job) (w : List MachineEvent) (c : ℕ) (t : Settings) (p : Peer H Job)
    → StandsMachine {H = H} hub m w → settings_there c w ≡ Some t → Some p ≡ peer_at m c → idle_peer_at m c ≡ None → Stands {H = H} hub t p (moves c w)
stood {H} {Job} hub m w c t p s there at awake =
    subst (λ o. IsPeerOf {H = H} hub o (moves c w) (Some p)) there
    (subst (λ q. IsPeerOf {H = H} hub (settings_there c w) (moves c w) q) (sym at)
    (awake_is {H = H} hub m.idle_set.clock (idle_peer_at m c) (settings_there c w) (moves c w) (peer_at m c) awake (s.at c)))

-- it has a peer
pub unstood : {H Job : Type 0} (hub : Hub Job) (m : Machine H Job) (w : List MachineEvent) (c : ℕ) (t : Settings)
    → StandsMachine {H = H} hub m w → settings_there c w ≡ Some t → None ≡ peer_at m c → ⊥
unstood {H} {Job} hub m w c t s there at =
    by (idle_peer_at m c)
    (subst (λ o. IsKeptAs {H = H} hub m.idle_set.clock (idle_peer_at m c) o (moves c w) None) there
    (subst (λ q. IsKeptAs {H = H} hub m.idle_set.clock (idle_peer_at m c) (settings_there c w) (moves c w) q) (sym at) (s.at c)))
  where
    by : (idle_peer : Option IdlePeer) → IsKeptAs {H = H} {Job = Job} hub m.idle_set.clock idle_peer (Some t) (moves c w) None → ⊥
    by None kept = kept
    by (Some idle_peer) kept = kept

-- ---- a call of its end

-- it leaves everything if its end is closed, since this says whether
pub closes_if : {H Job : Type 0} (hub : Hub Job) (old : Machine H Job) (c : ℕ) (was p : Peer H Job) → Some was ≡ peer_at old c
    → (ps : BTreeMap ℕ (Peer H Job)) → WritesThrough nat_cmp (nat_cmp c) old.peers p ps → (new : Machine H Job) (over : Bool)
    → ClosesOutIf {H = H} hub (record old { peers = ps }) new c over → OfEach {H = H} hub p (λ t h. over ≡ is_shut t h)
    → ClosesOut {H = H} hub (record old { peers = ps }) new c
closes_if {H} {Job} hub old c was p at ps through new over out says =
    out p (written {H = H} {Job = Job} old (record old { peers = ps }) c was p at through).at says

module _ {H Job : Type 0} (hub : Hub Job) (old : Machine H Job) (w : List MachineEvent) (c : ℕ) (t : Settings) (was p : Peer H Job) (ms : List PeerEvent)
    (s : StandsMachine {H = H} hub old w) (there : settings_there c w ≡ Some t) (at : Some was ≡ peer_at old c) (awake : idle_peer_at old c ≡ None)
    (ps : BTreeMap ℕ (Peer H Job)) (through : WritesThrough nat_cmp (nat_cmp c) old.peers p ps)
    (does : Stands {H = H} hub t was (moves c w) → Stands {H = H} hub t p (ms ++ moves c w)) where
  now : Stands {H = H} hub t p (ms ++ moves c w)
  now = does (stood {H = H} {Job = Job} hub old w c t was s there at awake)

  -- it left everything if its end is closed now, and only then
  pub closes_out : (mid new : Machine H Job) → mid ≡ record old { peers = ps } → ClosesOut {H = H} hub mid new c
      → StandsMachine {H = H} hub new (doing c ms w)
  closes_out mid new is out =
      let wrote = subst (λ m. WritesThrough nat_cmp (nat_cmp c) old.peers p m) (sym (ap (λ m. m.peers) is)) through in
      let puts = written {H = H} {Job = Job} old mid c was p at wrote in
      let kept : mid.registry ≡ old.registry = ap (λ m. m.registry) is in
      let same : mid.idle_set ≡ old.idle_set = ap (λ m. m.idle_set) is in
      let mids = keeps {H = H} {Job = Job} old mid c was p at wrote same in
      stands_closing {H = H} {Job = Job} hub old new w c t p ms s there awake
      (record {
        idle_set = out.idle_set ∙ same;
        count = ap (λ m. btree_map_len m) out.peers ∙ mids.count;
        there = λ k. ap (λ m. is_some (get nat_cmp m k)) out.peers ∙ mids.there k;
      })
      (record {
        at = ap (λ m. get nat_cmp m c) out.peers ∙ puts.at;
        others = λ k e. ap (λ m. get nat_cmp m k) out.peers ∙ puts.others k e;
      })
      now
      (λ e. out.unshut p t (ms ++ moves c w) puts.at now e ∙ kept)
      (λ e l r. out.shut p t (ms ++ moves c w) puts.at now e l (subst (λ x. StandsRegistry x l) (sym kept) r))

  -- the same where this says whether its end is closed
  pub closes_out_if : (new : Machine H Job) (over : Bool) → ClosesOutIf {H = H} hub (record old { peers = ps }) new c over
      → OfEach {H = H} hub p (λ t h. over ≡ is_shut t h) → StandsMachine {H = H} hub new (doing c ms w)
  closes_out_if new over out says =
      closes_out (record old { peers = ps }) new refl (closes_if {H = H} {Job = Job} hub old c was p at ps through new over out says)

  -- it is as closed as it was
  pub goes_on : is_shut t (ms ++ moves c w) ≡ is_shut t (moves c w) → StandsMachine {H = H} hub (record old { peers = ps }) (doing c ms w)
  goes_on same =
      stands_on {H = H} {Job = Job} hub old (record old { peers = ps }) w c t p ms s there awake
      (keeps {H = H} {Job = Job} old (record old { peers = ps }) c was p at through refl)
      (written {H = H} {Job = Job} old (record old { peers = ps }) c was p at through)
      now same refl

-- ---- a call that changes nothing

-- the peers, the registry and the sleepers are what they were
pub unchanged : {H Job : Type 0} (hub : Hub Job) (old new : Machine H Job) → ((c : ℕ) → peer_at new c ≡ peer_at old c) → KeepsIdleSet {H = H} old new
    → new.registry ≡ old.registry → IsAsItWas {H = H} hub old new
unchanged {H} hub old new peers keeps kept = record {
  registry = kept;
  stands = λ w s. record {
    at = λ c. kept_stays {H = H} hub old new c (settings_there c w) (moves c w) keeps.idle_set (peers c) (s.at c);
    index = index_stays old new keeps s.index;
    rounds = ap (λ (i : IdleSet). i.clock.rounds) keeps.idle_set ∙ s.rounds;
    registry = subst (λ r. StandsRegistry r (registry w)) (sym kept) s.registry;
    peers = s.peers;
    said = s.said;
    strangers = s.strangers;
    from_one = s.from_one;
  };
}

-- nothing but the memory in which JSON is read is other than it was
pub scratched : {H Job : Type 0} (hub : Hub Job) (old new : Machine H Job) → new.peers ≡ old.peers → new.idle_set ≡ old.idle_set
    → new.registry ≡ old.registry → (w : List MachineEvent) → StandsMachine {H = H} hub old w → StandsMachine {H = H} hub new w
scratched {H} {Job} hub old new peers idle_set kept =
    (unchanged {H = H} {Job = Job} hub old new (λ c. ap (λ m. get nat_cmp m c) peers)
    (record { idle_set = idle_set; count = ap (λ m. btree_map_len m) peers; there = λ k. ap (λ m. is_some (get nat_cmp m k)) peers }) kept).stands

-- the peer that was lent is what it was
pub written_same : {H Job : Type 0} (hub : Hub Job) (old : Machine H Job) (c : ℕ) (was p : Peer H Job) (ps : BTreeMap ℕ (Peer H Job))
    → Some was ≡ peer_at old c → WritesThrough nat_cmp (nat_cmp c) old.peers p ps → p ≡ was → IsAsItWas {H = H} hub old (record old { peers = ps })
written_same {H} {Job} hub old c was p ps at through same =
    unchanged {H = H} {Job = Job} hub old (record old { peers = ps }) (λ k. go k (c == k) refl)
    (keeps {H = H} {Job = Job} old (record old { peers = ps }) c was p at through refl) refl
  where
    puts : PutsPeer {H = H} old (record old { peers = ps }) c p
    puts = written {H = H} {Job = Job} old (record old { peers = ps }) c was p at through

    go : (k : ℕ) (b : Bool) → (c == k) ≡ b → get nat_cmp ps k ≡ peer_at old k
    go k true e = subst (λ n. get nat_cmp ps n ≡ peer_at old n) (eqb-true c k e) (puts.at ∙ ap Some same ∙ at)
    go k false e = puts.others k e

-- ---- a call that woke the connection first

-- one that is there is awake now
pub awake_now : {H Job : Type 0} (m : Machine H Job) (c : ℕ) (p : Peer H Job) → (idle_peer_at m c ≡ None) ⊎ (peer_at m c ≡ None) → Some p ≡ peer_at m c
    → idle_peer_at m c ≡ None
awake_now m c p (inl e) at = e
awake_now {H} {Job} m c p (inr e) at = absurd (let z : ◌≡◌ {A = Option (Peer H Job)} (Some p) None = at ∙ e in cc)

-- and what was as it was since then is as it was before
pub woken_as_it_was : {H Job : Type 0} (hub : Hub Job) (old mid new : Machine H Job) → mid.registry ≡ old.registry
    → ((w : List MachineEvent) → StandsMachine {H = H} hub old w → StandsMachine {H = H} hub mid w) → IsAsItWas {H = H} hub mid new
    → IsAsItWas {H = H} hub old new
woken_as_it_was hub old mid new same wakes is = record { registry = is.registry ∙ same; stands = λ w s. is.stands w (wakes w s) }
