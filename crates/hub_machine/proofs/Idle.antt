-- Whether a round that begins now would give some job a turn: exactly if the peer of one that is awake says that a job of it is due.
use Rattle.std.proofs.Common.{◌≡◌, ◌⊎◌, ◌↔◌, inl, inr, ℕ, zero, suc, ◌+◌, ◌-◌, ◌<◌, ◌≤◌, Bool, true, false, not, cond, List, [], ◌∷◌, length, get_or}
use Rattle.std.proofs.Common.{Option, Some, None, is_some, IsTrue, refl, sym, ap, subst, ◌∙◌, true≢false, arith, if◌then◌else◌}
use Rattle.std.specs.Prelude.{◌&&◌, ◌||◌, ◌==◌, find, nat_le, nat_lt}
use Rattle.std.specs.Option.{option_or}
use Rattle.std.proofs.lemmas.Bool.{and_from, and_left, and_parts, and_right, both_ways, cases_lt, cond-true, eq-eqb, false_from_ne_true}
use Rattle.std.proofs.lemmas.Bool.{le-leb, leb-false, leb-true, ltb-true}
use Rattle.hd_calls.specs.Hubs.{Hub}
use Rattle.hd_calls.specs.Peers.{PeerEvent, Settings, begun, live_job}
use Rattle.hd_calls.specs.Peers as peers
use Rattle.hd_calls.specs.Rules.{IsPeerDue, first_from, is_due, next_job}
use Rattle.hd_server.specs.Laws.{TurnsAreTested}
use Rattle.hd_server.specs.Lives.{numbers_to}
use Rattle.hd_server.specs.Machine.{MachineEvent, Rounds, first_turn, greatest, is_there, last_turn, may_turn, moves, settings_of, turn_at, turn_with}
use Rattle.hv_value.specs.SortedSet.{is_in}
use Rattle.hp_peer.specs.declared.peer.Peer.{Peer}
use Rattle.hp_peer.specs.Stands.{OfEach}
use Rattle.hub_machine.specs.declared.machine.Machine.{Machine}
use Rattle.hub_machine.specs.declared.idle_set.IdlePeer.{IdlePeer}
use Rattle.hub_machine.specs.Machines.{IsPeerOf, StandsMachine, idle_peer_at, peer_at, settings_there}
use Rattle.hub_machine.specs.Rounds.{has_turn}
use Rattle.hub_machine.specs.Spreads.{is_listed}
use Rattle.hub_machine.proofs.Doing.{awake_is, listed_is_awake}
use Rattle.hub_machine.proofs.Listed.{in_at}
use Rattle.hub_machine.proofs.Numbers.{in_listed, listed_at}
use Rattle.hub_machine.proofs.RoundNumbers.{none_next}
use Rattle.hub_machine.proofs.TurnFirst.{IsHere, find_both, find_last, from_one, here_of, within}
use Rattle.hub_machine.proofs.AsleepHasNoTurn.{holds_of, unawake_idle}
use Rattle.hub_machine.proofs.Turns.{IsStanding, standing_of}

-- ---- jobs

-- a number is found where the test holds of one of them
some_from : (u k j : ℕ) (p : ℕ → Bool) → k ≤ j → j < k + u → p j ≡ true → is_some (first_from k u p) ≡ true
some_from zero k j p from to holds = absurd (omega (arith, from, to))
some_from (suc u) k j p from to holds = by (p k) refl (cases_lt k j) (some_from u (suc k) j p)
  where
    by : (b : Bool) → p k ≡ b → (k < j) ⊎ (j ≤ k) → (suc k ≤ j → j < suc k + u → p j ≡ true → is_some (first_from (suc k) u p) ≡ true)
        → is_some (if b then Some k else first_from (suc k) u p) ≡ true
    by true e order later = refl
    by false e (inl before) later = later (omega (arith, before)) (omega (arith, to)) holds
    by false e (inr after) later = let same : k ≡ j = omega (arith, from, after) in absurd (both_ways (p j) (ap p (sym same) ∙ e) holds)

module _ (tested : TurnsAreTested) (t : Settings) (h : List PeerEvent) where
  -- where a peer's job is due one has a turn, once a round has begun
  turns_if_due : IsPeerDue t h → is_some (turn_with (Some t) (peers.Rounds ∷ h)) ≡ true
  turns_if_due due =
      let j = due.1.0 in
      let live = and_parts (live_job t j h) _ due.1.1 in
      let began = ltb-true j (length (begun h)) (and_parts (nat_lt j (length (begun h))) _ live.0).0 in
      ap (λ b. is_some (if b then next_job t (peers.Rounds ∷ h) else None)) ((tested t h).1 due.0)
      ∙ some_from (length (begun h) - 0) 0 j (λ i. is_due t i h) (omega arith) (omega (arith, began)) due.1.1

  -- where one has a turn a job is due
  due_if_turns : is_some (turn_with (Some t) (peers.Rounds ∷ h)) ≡ true → IsPeerDue t h
  due_if_turns has = by (may_turn t h) refl (next_job t (peers.Rounds ∷ h)) refl has
    where
      by : (b : Bool) → may_turn t h ≡ b → (next : Option ℕ) → next_job t (peers.Rounds ∷ h) ≡ next → is_some (if b then next else None) ≡ true
          → IsPeerDue t h
      by true e (Some j) f has = ((tested t h).0 e, (j, holds_of (length (begun h) - 0) 0 j (λ i. is_due t i h) f))
      by true e None f has = absurd (true≢false (sym has))
      by false e next f has = absurd (true≢false (sym has))

-- ---- connections

-- something is the first of two where one of them is something
some_first : (o q : Option ℕ) → is_some o ≡ true → is_some (option_or o q) ≡ true
some_first (Some k) q e = refl
some_first None q e = absurd (true≢false (sym e))

some_second : (o q : Option ℕ) → is_some q ≡ true → is_some (option_or o q) ≡ true
some_second (Some k) q e = refl
some_second None q e = e

-- of the numbers from 1 one is found where the test holds of one of them
some_to : (p : ℕ → Bool) (n c : ℕ) → 0 < c → c ≤ n → p c ≡ true → is_some (find p (numbers_to n)) ≡ true
some_to p zero c from to holds = absurd (omega (arith, from, to))
some_to p (suc n) c from to holds = ap is_some (find_last p n) ∙ by (nat_le c n) refl (some_to p n c from)
  where
    last : Option ℕ
    last = cond (p (suc n)) (Some (suc n)) None

    by : (b : Bool) → nat_le c n ≡ b → (c ≤ n → p c ≡ true → is_some (find p (numbers_to n)) ≡ true)
        → is_some (option_or (find p (numbers_to n)) last) ≡ true
    by true e further = some_first (find p (numbers_to n)) last (further (leb-true c n e) holds)
    by false e further =
        let over = leb-false c n e in
        let is : c ≡ suc n = omega (arith, over, to) in
        some_second (find p (numbers_to n)) last (ap (λ b. is_some (cond b (Some (suc n)) None)) (ap p (sym is) ∙ holds))

-- where a connection that is there has a turn in a round that begins now some connection has the first
some_turn : (now c : ℕ) (t : Settings) (w : List MachineEvent) → settings_of 0 w ≡ None → IsHere c t w → is_some (turn_at c (Rounds now ∷ w)) ≡ true
    → is_some (first_turn now w) ≡ true
some_turn now c t w none here turn =
    ap is_some (find_both (λ k. nat_le (last_turn (Rounds now ∷ w)) k && is_some (turn_at k (Rounds now ∷ w))) (λ k. is_there k w)
    (numbers_to (greatest w)))
    ∙ some_to (λ k. is_there k w && (nat_le (last_turn (Rounds now ∷ w)) k && is_some (turn_at k (Rounds now ∷ w)))) (greatest w) c
    (from_one c t w none here.begun) (within c t w here.begun) (and_from _ _ here.here (and_from _ _ (le-leb 0 c (omega arith)) turn))

-- the turn of a connection that is there, in a round that begins now
turn_there : (now c : ℕ) (t : Settings) (w : List MachineEvent) → IsHere c t w
    → turn_at c (Rounds now ∷ w) ≡ turn_with (Some t) (peers.Rounds ∷ moves c w)
turn_there now c t w here =
    ap (λ o. turn_with o (moves c (Rounds now ∷ w))) here.begun
    ∙ ap (λ h. turn_with (Some t) h) (cond-true (is_there c w) (peers.Rounds ∷ moves c w) (moves c w) here.here)

-- ---- peers

-- whether the peer says so, a job of it is due
abbrev pub SaysDue : {H Job : Type 0} → Hub Job → Peer H Job → Bool → Type 0
SaysDue hub p b = OfEach hub p (λ t h. IsTrue b ↔ IsPeerDue t h)

module _ {H Job : Type 0} (hub : Hub Job) (tested : TurnsAreTested) (m : Machine H Job) (c : ℕ) (w : List MachineEvent) (now : ℕ)
    (s : StandsMachine {H = H} hub m w) where
  -- one without a peer would have no turn
  pub due_none : None ≡ peer_at m c → false ≡ has_turn c (Rounds now ∷ w)
  due_none e = sym (unawake_idle {H = H} {Job = Job} hub tested m w now c s (and_left (is_some (peer_at m c)) _ (ap is_some (sym e))))

  -- one that is awake would have one if its peer says that a job of it is due
  pub due_some : (p : Peer H Job) → Some p ≡ peer_at m c → (b : Bool) → SaysDue {H = H} hub p b → idle_peer_at m c ≡ None → b ≡ has_turn c (Rounds now ∷ w)
  due_some p at b says awake = by b says
    where
      x : IsStanding {H = H} hub p (settings_there c w) (moves c w)
      x = standing_of {H = H} hub p (settings_there c w) (moves c w)
          (subst (λ (o : Option (Peer H Job)). IsPeerOf {H = H} hub (settings_there c w) (moves c w) o) (sym at)
          (awake_is {H = H} hub m.idle_set.clock (idle_peer_at m c) (settings_there c w) (moves c w) (peer_at m c) awake (s.at c)))

      here : IsHere c x.settings w
      here = here_of c x.settings w x.there

      turn : turn_at c (Rounds now ∷ w) ≡ turn_with (Some x.settings) (peers.Rounds ∷ moves c w)
      turn = turn_there now c x.settings w here

      by : (b : Bool) → SaysDue {H = H} hub p b → b ≡ has_turn c (Rounds now ∷ w)
      by true says = sym (and_from _ _ (le-leb 0 c (omega arith)) (and_from _ _ here.here
          (ap is_some turn ∙ turns_if_due tested x.settings (moves c w) ((says x.settings (moves c w) x.stands).0 refl))))
      by false says = sym (and_right (nat_le 0 c) _ (and_right (is_there c w) _ (false_from_ne_true (is_some (turn_at c (Rounds now ∷ w))) (λ has.
          true≢false (sym ((says x.settings (moves c w) x.stands).1 (due_if_turns tested x.settings (moves c w) (sym (ap is_some turn) ∙ has))))))))

-- ---- the loop

-- the connection would have no turn
abbrev pub IsIdleAt : {H Job : Type 0} → Hub Job → Machine H Job → ℕ → Type 0
IsIdleAt hub m c = (w : List MachineEvent) (now : ℕ) → StandsMachine hub m w → has_turn c (Rounds now ∷ w) ≡ false

-- of the connections that are awake the first would have none
abbrev pub AreIdleTo : {H Job : Type 0} → Hub Job → Machine H Job → List ℕ → ℕ → Type 0
AreIdleTo hub m conns i = (k : ℕ) → k < i → IsIdleAt hub m (get_or conns k 0)

-- what is said of one by a test of one that is awake
abbrev pub TellsTurn : {H Job : Type 0} → Hub Job → Machine H Job → ℕ → Bool → Type 0
TellsTurn hub m c b = (w : List MachineEvent) (now : ℕ) → StandsMachine hub m w → idle_peer_at m c ≡ None → b ≡ has_turn c (Rounds now ∷ w)

module _ {H Job : Type 0} (hub : Hub Job) (tested : TurnsAreTested) (m : Machine H Job) (conns : List ℕ)
    (are : conns ≡ m.idle_set.awake.numbers.items) where
  -- each that is listed is awake
  awake_at : (w : List MachineEvent) (i : ℕ) → StandsMachine {H = H} hub m w → i < length conns → idle_peer_at m (get_or conns i 0) ≡ None
  awake_at w i s l =
      listed_is_awake {H = H} {Job = Job} m (get_or conns i 0) s.index (ap (λ cs. is_in (get_or conns i 0) cs) (sym are) ∙ in_at i conns l)

  -- the next one would have none
  pub idle_more : (i : ℕ) (due : Bool) → i < length conns → AreIdleTo {H = H} hub m conns i → TellsTurn {H = H} hub m (get_or conns i 0) due
      → due ≡ false → AreIdleTo {H = H} hub m conns (i + 1)
  idle_more i due l so_far tells none = λ k before. by k before (cases_lt k i)
    where
      by : (k : ℕ) → k < i + 1 → (k < i) ⊎ (i ≤ k) → IsIdleAt {H = H} hub m (get_or conns k 0)
      by k before (inl less) = so_far k less
      by k before (inr from) =
          subst (λ n. IsIdleAt {H = H} hub m (get_or conns n 0)) (omega (arith, before, from))
          (λ w now s. sym (tells w now s (awake_at w i s l)) ∙ none)

  -- it would have one, so a round wouldn't be idle
  pub not_idle : (i : ℕ) (due : Bool) → i < length conns → TellsTurn {H = H} hub m (get_or conns i 0) due → due ≡ true
      → (w : List MachineEvent) (now : ℕ) → StandsMachine {H = H} hub m w → false ≡ not (is_some (first_turn now w))
  not_idle i due l tells is w now s = by (settings_of c w) refl (and_parts _ _ turns.0).0
    where
      c : ℕ
      c = get_or conns i 0

      turns : (is_there c w ≡ true) × (is_some (turn_at c (Rounds now ∷ w)) ≡ true)
      turns = and_parts (is_there c w) _ (and_parts (nat_le 0 c) _ (sym (tells w now s (awake_at w i s l)) ∙ is)).1

      by : (o : Option Settings) → settings_of c w ≡ o → is_some (settings_of c w) ≡ true → false ≡ not (is_some (first_turn now w))
      by (Some t) e f = sym (ap not (some_turn now c t w s.from_one (record { begun = e; here = turns.0 }) turns.1))
      by None e f = absurd (true≢false (sym f ∙ ap is_some e))

  -- none of them would, and no other, so it would
  pub is_idle : (i : ℕ) → length conns ≤ i → AreIdleTo {H = H} hub m conns i → (w : List MachineEvent) (now : ℕ) → StandsMachine {H = H} hub m w
      → true ≡ not (is_some (first_turn now w))
  is_idle i all so_far w now s = sym (ap (λ o. not (is_some o)) (none_next (Rounds now ∷ w) (λ c. by c (is_listed c conns) refl)))
    where
      found : (c : ℕ) → (k : ℕ) × (k < length conns) × (c ≡ get_or conns k 0) → has_turn c (Rounds now ∷ w) ≡ false
      found c at = subst (λ n. has_turn n (Rounds now ∷ w) ≡ false) (sym at.2) (so_far at.0 (omega (arith, at.1, all)) w now s)

      by : (c : ℕ) (b : Bool) → is_listed c conns ≡ b → has_turn c (Rounds now ∷ w) ≡ false
      by c true e = found c (listed_at c conns e)
      by c false e = unawake_idle {H = H} {Job = Job} hub tested m w now c s
          (sym (s.index.awake c) ∙ ap (λ cs. is_in c cs) (sym are) ∙ in_listed c conns ∙ e)
