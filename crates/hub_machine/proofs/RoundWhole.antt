-- A whole round: one connection that is awake after another, until none has a turn left.
use Rattle.std.proofs.Common.{◌≡◌, ℕ, suc, ◌<◌, ◌≤◌, Bool, true, false, List, [], ◌∷◌, ◌++◌, Option, Some, None, refl, sym, ap, subst, ◌∙◌, arith}
use Rattle.std.specs.Prelude.{◌&&◌, is_some, nat_le, not}
use Rattle.std.proofs.lemmas.Bool.{false_from_ne_true, leb-true, leb-false}
use Rattle.hd_calls.specs.Hubs.{Hub}
use Rattle.hd_rooms.specs.KeptLaws.{AnswersJoin}
use Rattle.hd_server.specs.Laws.{TurnsAreTested}
use Rattle.hd_server.specs.Machine.{MachineEvent, Rounds, has_gone, next_turn, owed, settings_of}
use Rattle.hv_value.specs.SortedSet.{IsFirstPast}
use Rattle.hub_machine.specs.declared.machine.Machine.{Machine}
use Rattle.hub_machine.specs.Machines.{StandsMachine}
use Rattle.hub_machine.specs.KeeperState.{KeeperState, HasAnsweredDuring}
use Rattle.hub_machine.specs.Rounds.{HasRound, HasTurned, InRound, has_turn}
use Rattle.hub_machine.specs.IdleSet.{is_awake_in}
use Rattle.hub_machine.proofs.Asks.{goes_join, goes_same}
use Rattle.hub_machine.proofs.RoundNumbers.{none_next}
use Rattle.hub_machine.proofs.RoundTurned.{none_absent}
use Rattle.hub_machine.proofs.AsleepHasNoTurn.{unlisted_turnless}

-- the connections up to this one had their turns, after so many that were awake
pub record HasGone {H Job : Type 0} (hub : Hub Job) (new : Machine H Job) (before after : KeeperState) (now : ℕ) (w : List MachineEvent)
    (passed : ℕ) : Type 0 where
  pub to : List MachineEvent
  pub stands : StandsMachine hub new to
  pub in_round : InRound now w to (suc passed)
  pub goes : HasAnsweredDuring before after w to

-- no connection has the number 0
none_first : (w : List MachineEvent) → settings_of 0 w ≡ None → has_turn 0 w ≡ false
none_first w e = none_absent 0 w (ap (λ o. is_some o && not (has_gone 0 w)) e)

pub none_gone : {H Job : Type 0} (hub : Hub Job) (m : Machine H Job) (o : KeeperState) (now : ℕ) (w : List MachineEvent)
    → StandsMachine {H = H} hub m (Rounds now ∷ w) → HasGone {H = H} hub m o o now w 0
none_gone hub m o now w stands = record {
  to = Rounds now ∷ w;
  stands = stands;
  in_round = record {
    of_round = record { since = []; are = refl; each = tt };
    settled = refl;
    last = omega arith;
    none_before = λ k l.
        let zero_is : 0 ≡ k = omega (arith, l) in
        subst (λ n. has_turn n (Rounds now ∷ w) ≡ false) zero_is (none_first (Rounds now ∷ w) stands.from_one);
  };
  goes = goes_same o w (Rounds now ∷ w) refl refl;
}

-- turns of a connection's jobs lead so from one machine to another
abbrev pub TurnsFrom : {H Job : Type 0} → Hub Job → Machine H Job → Machine H Job → KeeperState → KeeperState → ℕ → List MachineEvent → ℕ → Type 0
TurnsFrom {H} hub old new before after now w c = (r : List MachineEvent) → StandsMachine {H = H} hub old r → InRound now w r c
    → HasTurned {H = H} hub new before after now w r c

-- if the machine stands for anything, this is the first past a number that is awake
abbrev pub IsNextAwake : {H Job : Type 0} → Hub Job → Machine H Job → ℕ → Option ℕ → Type 0
IsNextAwake {H} hub m passed next = (w : List MachineEvent) → StandsMachine {H = H} hub m w → IsFirstPast passed m.idle_set.awake.numbers.items next

-- a number comes before another, or not
by_first : (P : Type 0) (k first : ℕ) → (k < first → P) → (first ≤ k → P) → P
by_first P k first before later = go (nat_le first k) refl
  where
    go : (b : Bool) → nat_le first k ≡ b → P
    go true e = later (leb-true first k e)
    go false e = before (leb-false first k e)

module _ {H Job : Type 0} (hub : Hub Job) (tested : TurnsAreTested) (m : Machine H Job) (before mid : KeeperState) (now : ℕ) (w : List MachineEvent)
    (passed : ℕ) (p : HasGone {H = H} hub m before mid now w passed) where
  -- the round comes to the next connection that is awake: none between has a turn
  comes_to : (c : ℕ) → IsFirstPast passed m.idle_set.awake.numbers.items (Some c) → InRound now w p.to c
  comes_to c first = record {
    of_round = p.in_round.of_round;
    settled = p.in_round.settled;
    last = let last = p.in_round.last in let later = first.1 in omega (arith, last, later);
    none_before = λ k l. by_first (has_turn k p.to ≡ false) k (suc passed) (p.in_round.none_before k)
        (λ past. unlisted_turnless {H = H} {Job = Job} hub tested m p.to k p.stands
        (false_from_ne_true (is_awake_in m.idle_set k) (λ e. let no = first.2 k e (omega (arith, past)) in omega (arith, no, l))));
  }

  -- one more connection's jobs had their turns
  pub one_gone : (new : Machine H Job) (after : KeeperState) (c : ℕ) (next : Option ℕ) → AnswersJoin → IsNextAwake {H = H} hub m passed next → next ≡ Some c
      → TurnsFrom {H = H} hub m new mid after now w c → HasGone {H = H} hub new before after now w c
  one_gone new after c next law is e turns = record {
    to = turned.to;
    stands = turned.stands;
    in_round = turned.in_round;
    goes = goes_join before mid after w p.to turned.to law p.goes turned.goes;
  }
    where
      turned : HasTurned {H = H} hub new mid after now w p.to c
      turned = turns p.to p.stands (comes_to c (subst (λ o. IsFirstPast passed m.idle_set.awake.numbers.items o) e (is p.to p.stands)))

  -- none is awake past the last one, so the round is over
  over : IsFirstPast passed m.idle_set.awake.numbers.items None → HasRound {H = H} hub m before mid now w
  over last = record {
    round = p.in_round.of_round.since;
    is_round = record {
      each = p.in_round.of_round.each;
      settled = ap owed (sym are) ∙ p.in_round.settled;
      over = ap next_turn (sym are) ∙ none_next p.to none;
    };
    stands = subst (λ r. StandsMachine {H = H} hub m r) are p.stands;
    goes = subst (λ r. HasAnsweredDuring before mid w r) are p.goes;
  }
    where
      are : p.to ≡ p.in_round.of_round.since ++ Rounds now ∷ w
      are = p.in_round.of_round.are

      none : (k : ℕ) → has_turn k p.to ≡ false
      none k = by_first (has_turn k p.to ≡ false) k (suc passed) (p.in_round.none_before k)
          (λ past. unlisted_turnless {H = H} {Job = Job} hub tested m p.to k p.stands
          (false_from_ne_true (is_awake_in m.idle_set k) (λ e. let no = last k e in omega (arith, no, past))))

  pub all_gone : (next : Option ℕ) → IsNextAwake {H = H} hub m passed next → next ≡ None → HasRound {H = H} hub m before mid now w
  all_gone next is e = over (subst (λ o. IsFirstPast passed m.idle_set.awake.numbers.items o) e (is p.to p.stands))

  -- it is none that isn't past the last one
  pub none_back : (c : ℕ) (next : Option ℕ) → IsNextAwake {H = H} hub m passed next → next ≡ Some c → (passed < c → ⊥)
      → HasRound {H = H} hub m before mid now w
  none_back c next is e back = absurd (back (subst (λ o. IsFirstPast passed m.idle_set.awake.numbers.items o) e (is p.to p.stands)).1)
