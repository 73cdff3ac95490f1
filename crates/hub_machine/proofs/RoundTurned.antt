-- The turns of one connection's jobs: each deed takes the round past one job more, so after as many as there are jobs none has a turn left.
use Rattle.std.proofs.Common.{◌≡◌, ℕ, suc, ◌+◌, ◌-◌, ◌≤◌, Bool, true, false, List, [], ◌∷◌, ◌++◌, length}
use Rattle.std.proofs.Common.{Option, Some, None, is_some, refl, sym, ap, subst, ◌∙◌, arith, below_more}
use Rattle.std.specs.Prelude.{nat_le, ◌&&◌, if◌then◌else◌}
use Rattle.hd_calls.specs.declared.vocabulary.Deed.{Deed}
use Rattle.hd_calls.specs.Hubs.{Hub}
use Rattle.hd_calls.specs.Peers.{PeerEvent, Settings, begun}
use Rattle.hd_calls.specs.Rules.{first_from, is_due, next_job, passed}
use Rattle.hd_rooms.specs.KeptLaws.{AnswersJoin}
use Rattle.hd_server.specs.Machine.{MachineEvent, Carries, Rounds, Owed, NothingOwed, OwesDeed, OwesCall, GoesOn, MayFollow}
use Rattle.hd_server.specs.Machine.{fates_of, is_there, last_turn, may_turn, moves, owed, settings_of, turn_at, turn_with}
use Rattle.hub_machine.specs.declared.machine.Machine.{Machine}
use Rattle.hub_machine.specs.Machines.{StandsMachine}
use Rattle.hub_machine.specs.KeeperState.{KeeperState, HasAnsweredDuring}
use Rattle.hub_machine.specs.Rounds.{HasHandedUp, HasStepped, HasTurned, InRound, IsCarried, IsCountOfJobs, IsOfRound, Steps, has_turn}
use Rattle.hub_machine.proofs.Carry.{deed_is_there}
use Rattle.hub_machine.proofs.Asks.{goes_join, goes_same}
use Rattle.hub_machine.proofs.RoundCarried.{carried_alike, carried_on}

-- ---- who is there

there_after : (now : ℕ) (o : Owed) (h : List MachineEvent) (x : MachineEvent) (k : ℕ) → MayFollow now o h x → is_there k (x ∷ h) ≡ is_there k h
there_after now (OwesDeed c j d) h x k (asked, is_asked, e) = ap (λ y. is_there k (y ∷ h)) e
there_after now (OwesCall c j) h x k (m, settled, e) = ap (λ y. is_there k (y ∷ h)) e
there_after now NothingOwed h x k (c, j, call, since, turn, what, next, at, told, e) = ap (λ y. is_there k (y ∷ h)) e

there_on : (now : ℕ) (w since : List MachineEvent) (k : ℕ) → GoesOn now since (Rounds now ∷ w) → is_there k (since ++ Rounds now ∷ w) ≡ is_there k w
there_on now w [] k e = refl
there_on now w (x ∷ xs) k e =
    there_after now (owed (xs ++ Rounds now ∷ w)) (xs ++ Rounds now ∷ w) x k e.1 ∙ there_on now w xs k e.0

-- in a round the same connections are there as before
pub same_there : (now : ℕ) (w r : List MachineEvent) (k : ℕ) → IsOfRound now w r → is_there k r ≡ is_there k w
same_there now w r k of = ap (is_there k) of.are ∙ there_on now w of.since k of.each

-- ---- no turn is left

none_past : (t : Option Settings) (h : List PeerEvent) → length (begun h) ≤ passed h → is_some (turn_with t h) ≡ false
none_past None h l = refl
none_past (Some t) h l =
    let none : length (begun h) - passed h ≡ 0 = omega (arith, l) in
    let no_job : next_job t h ≡ None = ap (λ n. first_from (passed h) n (λ j. is_due t j h)) none in
    untested (may_turn t h) (next_job t h) no_job
  where
    untested : (b : Bool) (next : Option ℕ) → next ≡ None → is_some (if b then next else None) ≡ false
    untested true next e = ap is_some e
    untested false next e = refl

turnless : (early there turn : Bool) → (there ≡ true → turn ≡ false) → (early && (there && turn)) ≡ false
turnless false there turn f = refl
turnless true false turn f = refl
turnless true true turn f = f refl

-- all jobs of a connection that is there had their turns
pub none_left : (k : ℕ) (r : List MachineEvent) → (is_there k r ≡ true → length (begun (moves k r)) ≤ passed (moves k r)) → has_turn k r ≡ false
none_left k r all = turnless (nat_le (last_turn r) k) (is_there k r) (is_some (turn_at k r)) (λ e. none_past (settings_of k r) (moves k r) (all e))

-- one that isn't there has none
pub none_absent : (k : ℕ) (r : List MachineEvent) → is_there k r ≡ false → has_turn k r ≡ false
none_absent k r e = turnless (nat_le (last_turn r) k) (is_there k r) (is_some (turn_at k r)) (λ f. absurd (let is : true ≡ false = sym f ∙ e in cc))

-- ---- the loop

-- after so many deeds
pub record HasPassed {H Job : Type 0} (hub : Hub Job) (new : Machine H Job) (before after : KeeperState) (now : ℕ) (w r : List MachineEvent) (c n : ℕ) : Type 0 where
  pub to : List MachineEvent
  pub stands : StandsMachine hub new to
  pub in_round : InRound now w to c
  pub far : n ≤ passed (moves c to)
  pub same_begun : begun (moves c to) ≡ begun (moves c r)
  pub goes : HasAnsweredDuring before after r to

pub none_passed : {H Job : Type 0} (hub : Hub Job) (m : Machine H Job) (o : KeeperState) (now : ℕ) (w r : List MachineEvent) (c : ℕ)
    → StandsMachine {H = H} hub m r → InRound now w r c → HasPassed {H = H} hub m o o now w r c 0
none_passed hub m o now w r c stands in_round = record {
  to = r;
  stands = stands;
  in_round = in_round;
  far = omega arith;
  same_begun = refl;
  goes = goes_same o r r refl refl;
}

-- jobs had turns after so many deeds
abbrev pub StepsFrom : {H Job : Type 0} → Hub Job → Machine H Job → Machine H Job → ℕ → List MachineEvent → ℕ → Option (ℕ × Deed) → Type 0
StepsFrom {H} hub old new now w c found = (r : List MachineEvent) → StandsMachine {H = H} hub old r → InRound now w r c → Steps {H = H} hub new now w r c found

-- a deed that a job of this number handed up was carried out
abbrev pub CarriesOut : {H Job : Type 0} → Hub Job → Machine H Job → Machine H Job → KeeperState → KeeperState → ℕ → ℕ → Deed → Type 0
CarriesOut {H} hub old new before after c number d = (r : List MachineEvent) (j : ℕ) → number ≡ suc j → owed r ≡ OwesDeed c j d → is_there c r ≡ true
    → StandsMachine {H = H} hub old r → IsCarried {H = H} hub new before after r c j d

-- one more deed
pub one_passed : {H Job : Type 0} (hub : Hub Job) (m s new : Machine H Job) (before mid after : KeeperState) (now : ℕ) (w r : List MachineEvent) (c n number : ℕ)
    (d : Deed) (found : Option (ℕ × Deed)) → AnswersJoin → HasPassed {H = H} hub m before mid now w r c n → StepsFrom {H = H} hub m s now w c found
    → found ≡ Some (number, d) → CarriesOut {H = H} hub s new mid after c number d → HasPassed {H = H} hub new before after now w r c (n + 1)
one_passed {H} hub m s new before mid after now w r c n number d found law p steps is carries = record {
  to = to;
  stands = carried.stands;
  in_round = carried_on now w up.after c up.job d carried.asked up.at_deed carried.is_asked;
  far = let far = p.far in let further = up.further in let same = alike.0 in omega (arith, far, further, same);
  same_begun = alike.1 ∙ up.same_begun ∙ p.same_begun;
  goes = goes_join before mid after r up.after to law (goes_join before mid mid r p.to up.after law p.goes (up.goes mid)) carried.goes;
}
  where
    up : HasHandedUp {H = H} hub s now w p.to c number d
    up = subst (λ f. Steps {H = H} hub s now w p.to c f) is (steps p.to p.stands p.in_round)

    carried : IsCarried {H = H} hub new mid after up.after c up.job d
    carried = carries up.after up.job up.number_is up.at_deed.owes (deed_is_there now w up.after c up.job d up.at_deed) up.stands

    to : List MachineEvent
    to = Carries c up.job d (fates_of d up.after) carried.asked ∷ up.after

    alike : (passed (moves c to) ≡ passed (moves c up.after)) × (begun (moves c to) ≡ begun (moves c up.after))
    alike = carried_alike c c up.job d (fates_of d up.after) carried.asked up.after

-- no job handed up a deed
pub stepped_past : {H Job : Type 0} (hub : Hub Job) (m new : Machine H Job) (before after : KeeperState) (now : ℕ) (w r : List MachineEvent) (c n : ℕ)
    (found : Option (ℕ × Deed)) → AnswersJoin → HasPassed {H = H} hub m before after now w r c n → StepsFrom {H = H} hub m new now w c found
    → found ≡ None → HasTurned {H = H} hub new before after now w r c
stepped_past {H} hub m new before after now w r c n found law p steps is = record {
  to = stepped.after;
  stands = stepped.stands;
  in_round = stepped.in_round;
  goes = goes_join before after after r p.to stepped.after law p.goes (stepped.goes after);
}
  where
    stepped : HasStepped {H = H} hub new now w p.to c
    stepped = subst (λ f. Steps {H = H} hub new now w p.to c f) is (steps p.to p.stands p.in_round)

-- as many deeds as there are jobs
pub all_passed : {H Job : Type 0} (hub : Hub Job) (m : Machine H Job) (before after : KeeperState) (now : ℕ) (w r : List MachineEvent) (c n jobs : ℕ)
    → InRound now w r c → IsCountOfJobs c r jobs → jobs ≤ n → HasPassed {H = H} hub m before after now w r c n
    → HasTurned {H = H} hub m before after now w r c
all_passed hub m before after now w r c n jobs began count enough p = record {
  to = p.to;
  stands = p.stands;
  in_round = record {
    of_round = p.in_round.of_round;
    settled = p.in_round.settled;
    last = let last = p.in_round.last in omega (arith, last);
    none_before = λ k l. below_more (λ k. has_turn k p.to ≡ false) c p.in_round.none_before own k (omega (arith, l));
  };
  goes = p.goes;
}
  where
    own : has_turn c p.to ≡ false
    own = none_left c p.to (λ e.
        let there : is_there c r ≡ true = same_there now w r c began.of_round ∙ sym (same_there now w p.to c p.in_round.of_round) ∙ e in
        let is : jobs ≡ length (begun (moves c r)) = count there in
        let same : length (begun (moves c p.to)) ≡ length (begun (moves c r)) = ap length p.same_begun in
        let far = p.far in
        omega (arith, is, same, far, enough))
