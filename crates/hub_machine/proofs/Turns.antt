-- Jobs of one connection have turns: what its peer says of them, as happenings of the round.
use Rattle.std.proofs.Common.{◌≡◌, ◌≤◌, ◌<◌, ◌-◌, ℕ, zero, suc, Bool, true, false, List, [], ◌∷◌, ◌++◌, length}
use Rattle.std.proofs.Common.{Option, Some, None, IfSome, refl, sym, ap, ◌∙◌, subst, arith, if◌then◌else◌}
use Rattle.std.specs.Ordering.{nat_cmp}
use Rattle.std.specs.BTreeMap.{BTreeMap, WritesThrough}
use Rattle.hd_calls.specs.declared.vocabulary.Act.TheVariants as act
use Rattle.hd_calls.specs.declared.vocabulary.Deed.{Deed}
use Rattle.hd_calls.specs.Hubs.{Hub}
use Rattle.hd_calls.specs.Peers.{PeerEvent, Calls, Runs, Refuses, Settings, begun}
use Rattle.hd_calls.specs.Rules.{Follows, first_from, is_due, next_job, passed}
use Rattle.hd_server.specs.Laws.{TurnsAreTested}
use Rattle.hd_server.specs.Machine.{MachineEvent, moves}
use Rattle.hp_peer.specs.declared.peer.Peer.{Peer}
use Rattle.hp_peer.specs.Stands.{OfEach, Stands}
use Rattle.hp_peer.specs.Turning.{AfterTurns, AreTurns}
use Rattle.hp_peer.specs.Turning as peer
use Rattle.hub_machine.specs.declared.machine.Machine.{Machine}
use Rattle.hub_machine.specs.declared.idle_set.IdleClock.{IdleClock}
use Rattle.hub_machine.specs.declared.idle_set.IdlePeer.{IdlePeer}
use Rattle.hub_machine.specs.Calls.{ClosesOut, doing}
use Rattle.hub_machine.specs.Machines.{IsKeptAs, IsPeerOf, StandsMachine, idle_peer_at, peer_at, settings_there}
use Rattle.hub_machine.specs.Rounds.{HasHandedUp, HasStepped, InRound, IsCountOfJobs, Steps}
use Rattle.hub_machine.proofs.Doing.{awake_is, moves_done}
use Rattle.hub_machine.proofs.Ends.{closes_out}
use Rattle.hub_machine.proofs.Lags.{kept_either}
use Rattle.hub_machine.proofs.TurnDoing.{goes_doing}
use Rattle.hub_machine.proofs.TurnFirst.{here_of, none_gone}
use Rattle.hub_machine.proofs.TurnRound.{IsOn, either_none, on_deed, on_rest, on_turns, owed_by, up_to}

-- ---- what turns leave as it was, and how far they take the round

-- they begin no job
same_begun : (now : ℕ) (ms h : List PeerEvent) → AreTurns now ms → begun (ms ++ h) ≡ begun h
same_begun now [] h are = refl
same_begun now (Runs j call since turn what ∷ ms) h are = same_begun now ms h are.2
same_begun now (Calls (Some j) n call ∷ ms) h are = same_begun now ms h are
same_begun now (Refuses j ∷ ms) h are = same_begun now ms h are
same_begun now (m ∷ ms) h are = absurd are

-- what is found from a number on is no smaller
next_from : (u k : ℕ) (p : ℕ → Bool) (j : ℕ) → first_from k u p ≡ Some j → k ≤ j
next_from zero k p j e = absurd (let z : ◌≡◌ {A = Option ℕ} None (Some j) = e in cc)
next_from (suc u) k p j e = by (p k) e (next_from u (suc k) p j)
  where
    by : (b : Bool) → (if b then Some k else first_from (suc k) u p) ≡ Some j → (first_from (suc k) u p ≡ Some j → suc k ≤ j) → k ≤ j
    by true f later = let is : k ≡ j = cc in omega (arith, is)
    by false f later = let over = later f in omega (arith, over)

-- the next job is past the last one
next_past : (t : Settings) (h : List PeerEvent) (j : ℕ) → next_job t h ≡ Some j → passed h ≤ j
next_past t h j e = next_from (length (begun h) - passed h) (passed h) (λ i. is_due t i h) j e

-- turns never take the round back
further : {Job : Type 0} (hub : Hub Job) (t : Settings) (now : ℕ) (ms h : List PeerEvent) → AreTurns now ms → Follows hub t (ms ++ h)
    → passed h ≤ passed (ms ++ h)
further hub t now [] h are follows = omega arith
further hub t now (Runs j call since turn what ∷ ms) h are follows =
    let before = further hub t now ms h are.2 follows.0 in
    let past = next_past t (ms ++ h) j follows.1.next in
    omega (arith, before, past)
further hub t now (Calls (Some j) n call ∷ ms) h are follows = further hub t now ms h are follows.0
further hub t now (Refuses j ∷ ms) h are follows = further hub t now ms h are follows.0
further hub t now (m ∷ ms) h are follows = absurd are

-- ---- one connection

-- one that has a peer is there, and its peer stands for what it did
pub record IsStanding {H Job : Type 0} (hub : Hub Job) (p : Peer H Job) (o : Option Settings) (h : List PeerEvent) : Type 0 where
  pub settings : Settings
  pub there : o ≡ Some settings
  pub stands : Stands {H = H} hub settings p h

pub standing_of : {H Job : Type 0} (hub : Hub Job) (p : Peer H Job) (o : Option Settings) (h : List PeerEvent) → IsPeerOf {H = H} hub o h (Some p)
    → IsStanding {H = H} hub p o h
standing_of hub p None h s = absurd s
standing_of hub p (Some t) h s = record { settings = t; there = refl; stands = s }

-- one that has none isn't there
gone_of : (H : Type 0) {Job : Type 0} (hub : Hub Job) (clock : IdleClock) (idle_peer : Option IdlePeer) (o : Option Settings) (h : List PeerEvent)
    → IsKeptAs {H = H} hub clock idle_peer o h None → o ≡ None
gone_of H hub clock idle_peer None h s = refl
gone_of H hub clock None (Some t) h s = absurd s
gone_of H hub clock (Some idle_peer) (Some t) h s = absurd s

module _ {H Job : Type 0} (hub : Hub Job) (tested : TurnsAreTested) (old : Machine H Job) (now c : ℕ) (w r : List MachineEvent)
    (s : StandsMachine {H = H} hub old r) (round : InRound now w r c) where
  -- one that isn't there has no turn
  pub steps_none : None ≡ peer_at old c → HasStepped {H = H} hub old now w r c
  steps_none none = record {
    after = r;
    stands = s;
    in_round = record {
      of_round = round.of_round;
      settled = round.settled;
      last = let last = round.last in omega (arith, last);
      none_before = up_to c r round.none_before (none_gone c r
          (gone_of H hub old.idle_set.clock (idle_peer_at old c) (settings_there c r) (moves c r)
          (subst (λ o. IsKeptAs {H = H} hub old.idle_set.clock (idle_peer_at old c) (settings_there c r) (moves c r) o) (sym none) (s.at c))));
    };
    same_begun = refl;
    goes = λ o. goes_doing o c [] r;
  }

  module _ (p q : Peer H Job) (ps : BTreeMap ℕ (Peer H Job)) (new : Machine H Job) (at : Some p ≡ peer_at old c) (awake : idle_peer_at old c ≡ None)
      (through : WritesThrough nat_cmp (nat_cmp c) old.peers q ps) (out : ClosesOut {H = H} hub (record old { peers = ps }) new c)
      (t : Settings) (there : settings_there c r ≡ Some t) (own : Stands {H = H} hub t p (moves c r)) where
    -- the round is at this connection before they have
    start : IsOn now c t w r (moves c r)
    start = record {
      of_round = round.of_round;
      owes = round.settled ∙ sym (ap (λ o. owed_by c o) own.settled);
      last = round.last;
      before = round.none_before;
      none = s.from_one;
      here = here_of c t r there;
      moves_are = refl;
    }

    -- the machine stands for what the peer does
    stands_after : (ms : List PeerEvent) → Stands {H = H} hub t q (ms ++ moves c r) → StandsMachine {H = H} hub new (doing c ms r)
    stands_after ms st =
        closes_out {H = H} {Job = Job} hub old r c t p q ms s there at awake ps through (λ before. st) (record old { peers = ps }) new refl out

    -- none handed up a deed
    stepped : AfterTurns now (moves c r) (peer.HasNoTurn {H = H} hub t q) → HasStepped {H = H} hub new now w r c
    stepped x =
        let ms = x.turns in
        let st = x.holds.stands in
        record {
          after = doing c ms r;
          stands = stands_after ms st;
          in_round = on_rest hub tested now c t w (doing c ms r) (ms ++ moves c r)
              (on_turns hub tested now c t w r (moves c r) ms start x.are_turns st.follows st.prompt) st.settled x.holds.rests;
          same_begun = ap begun (moves_done c ms r) ∙ same_begun now ms (moves c r) x.are_turns;
          goes = λ o. goes_doing o c ms r;
        }

    -- one did
    handed_up : (number : ℕ) (deed : Deed) → AfterTurns now (moves c r) (peer.HasHandedUp {H = H} hub t q now number deed)
        → HasHandedUp {H = H} hub new now w r c number deed
    handed_up number deed x =
        let ms = x.turns in
        let y = x.holds in
        let ds = Runs y.job y.call y.since y.turn (act.Do deed) ∷ ms in
        let st = y.stands in
        record {
          job = y.job;
          number_is = y.number_is;
          after = doing c ds r;
          stands = stands_after ds st;
          at_deed = on_deed hub tested now c t w (doing c ms r) (ms ++ moves c r)
              (on_turns hub tested now c t w r (moves c r) ms start x.are_turns st.follows.0 st.prompt.0)
              y.job y.call y.since y.turn deed (either_none (ms ++ moves c r) st.prompt.1) y.at st.follows.1;
          further = subst (λ l. passed (moves c r) < passed l) (sym (moves_done c ds r))
              (let up = further hub t now ms (moves c r) x.are_turns st.follows.0 in
              let past = next_past t (ms ++ moves c r) y.job st.follows.1.next in
              omega (arith, up, past));
          same_begun = ap begun (moves_done c ds r) ∙ same_begun now ms (moves c r) x.are_turns;
          goes = λ o. goes_doing o c ds r;
        }

    -- one did or none
    steps : (found : Option (ℕ × Deed)) → peer.Turns {H = H} hub t (moves c r) q now found → Steps {H = H} hub new now w r c found
    steps None x = stepped x
    steps (Some (number, deed)) x = handed_up number deed x

  -- its jobs had turns
  pub steps_some : (p q : Peer H Job) (ps : BTreeMap ℕ (Peer H Job)) (new : Machine H Job) (found : Option (ℕ × Deed)) → Some p ≡ peer_at old c
      → idle_peer_at old c ≡ None → WritesThrough nat_cmp (nat_cmp c) old.peers q ps → ClosesOut {H = H} hub (record old { peers = ps }) new c
      → ((t : Settings) (h : List PeerEvent) → Stands {H = H} hub t p h → peer.Turns {H = H} hub t h q now found) → Steps {H = H} hub new now w r c found
  steps_some p q ps new found at awake through out turns =
      let x = standing_of {H = H} hub p (settings_there c r) (moves c r)
      (subst (λ o. IsPeerOf {H = H} hub (settings_there c r) (moves c r) o) (sym at)
      (awake_is {H = H} hub old.idle_set.clock (idle_peer_at old c) (settings_there c r) (moves c r) (peer_at old c) awake (s.at c))) in
      steps p q ps new at awake through out x.settings x.there x.stands found (turns x.settings (moves c r) x.stands)

-- ---- how many jobs there are

-- the peer of one that sleeps knows it too, since none was begun at it
pub count_is : {H Job : Type 0} (hub : Hub Job) (m : Machine H Job) (c : ℕ) (p : Peer H Job) (n : ℕ) → Some p ≡ peer_at m c
    → OfEach {H = H} hub p (λ t h. n ≡ length (begun h)) → (r : List MachineEvent) → StandsMachine {H = H} hub m r → IsCountOfJobs c r n
count_is {H} {Job} hub m c p n at says r s there =
    kept_either {H = H} {Job = Job} hub m.idle_set.clock
    (λ o q. IfSome q (λ p. OfEach {H = H} hub p (λ t h. n ≡ length (begun h)) → n ≡ length (begun (moves c r)))) (idle_peer_at m c)
    (settings_there c r) (moves c r) (Some p) tt (λ t q x says. says t x.before x.stands ∙ sym (ap length x.same.begins))
    (subst (λ o. IsKeptAs {H = H} hub m.idle_set.clock (idle_peer_at m c) (settings_there c r) (moves c r) o) (sym at) (s.at c)) says
