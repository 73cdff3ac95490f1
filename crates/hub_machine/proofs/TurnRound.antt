-- A round goes on with the turns of one connection's jobs.
use Rattle.std.proofs.Common.{◌≡◌, ◌⊎◌, inl, inr, ◌≤◌, ◌<◌, ℕ, suc, Bool, true, false, List, [], ◌∷◌, ◌++◌, Option, Some, None, refl, sym, ap, ◌∙◌, subst, arith, if◌then◌else◌}
use Rattle.std.specs.Prelude.{◌==◌, ◌&&◌, is_some, nat_le}
use Rattle.std.proofs.lemmas.Bool.{and_left, and_right, eqb-false, eqb-true, lt-leb, ne_eqb}
use Rattle.hd_calls.specs.declared.vocabulary.Act.{Act}
use Rattle.hd_calls.specs.declared.vocabulary.Act.TheVariants as act
use Rattle.hd_calls.specs.declared.vocabulary.Deed.{Deed}
use Rattle.hd_calls.specs.Hubs.{Hub, Invoked, Turn, Given, Cancelled}
use Rattle.hd_calls.specs.Peers.{PeerEvent, Calls, Runs, Refuses, Settings}
use Rattle.hd_calls.specs.Rules.{Follows, IsAsked, IsPrompt, MayRun, MayTurn, asking, next_job, settles}
use Rattle.hd_server.specs.Laws.{TurnsAreTested}
use Rattle.hd_server.specs.Machine.{MachineEvent, Does, IsAt, MayFollow, NothingOwed, Owed, OwesCall, is_there, last_turn, may_turn, moves, owed, settings_of, turn_at, turn_with}
use Rattle.hp_peer.specs.Turning.{AreTurns, is_deed}
use Rattle.hp_peer.specs.Turning as peer
use Rattle.hub_machine.specs.Calls.{doing}
use Rattle.hub_machine.specs.Rounds.{AtDeed, InRound, IsOfRound, has_turn}
use Rattle.hub_machine.proofs.Doing.{moves_done, moves_stay}
use Rattle.hub_machine.proofs.TurnPrompt.{asked_at_once}
use Rattle.hub_machine.proofs.TurnFirst.{IsHere, next_is}

-- ---- what is owed

-- for an ask of the connection's job, its call
abbrev pub owed_by : ℕ → Option ℕ → Owed
owed_by c None = NothingOwed
owed_by c (Some j) = OwesCall c j

-- a turn at which no deed is handed up owes what its job asks for
owed_after : (c j : ℕ) (call : Invoked) (since : ℕ) (turn : Turn) (what : Act) (w : List MachineEvent) (h : List PeerEvent) → is_deed what ≡ false
    → owed (Does c (Runs j call since turn what) ∷ w) ≡ owed_by c (asking (Runs j call since turn what ∷ h))
owed_after c j call since turn (act.Do deed) w h e = absurd (cc)
owed_after c j call since turn (act.Ask target arguments) w h e = refl
owed_after c j call since turn act.More w h e = refl
owed_after c j call since turn act.Wait w h e = refl
owed_after c j call since turn (act.Item v) w h e = refl
owed_after c j call since turn (act.End v) w h e = refl

-- a turn comes after no ask
pub either_none : (h : List PeerEvent) → (asking h ≡ None) ⊎ (asking h ≡ None) → asking h ≡ None
either_none h (inl e) = e
either_none h (inr e) = e

-- ---- on the way

-- the round is at this connection, whose peer did all these moves
pub record IsOn (now c : ℕ) (t : Settings) (w r : List MachineEvent) (h : List PeerEvent) : Type 0 where
  pub of_round : IsOfRound now w r
  pub owes : owed r ≡ owed_by c (asking h)
  pub last : last_turn r ≤ c
  pub before : (k : ℕ) → k < c → has_turn k r ≡ false
  pub none : settings_of 0 r ≡ None
  pub here : IsHere c t r
  pub moves_are : moves c r ≡ h

-- the round goes on with one happening more
longer : (now : ℕ) (w r : List MachineEvent) (x : MachineEvent) → IsOfRound now w r → MayFollow now (owed r) r x → IsOfRound now w (x ∷ r)
longer now w r x o may = record {
  since = x ∷ o.since;
  are = ap (λ z. x ∷ z) o.are;
  each = (o.each, subst (λ z. MayFollow now (owed z) z x) o.are may);
}

-- a moment that a turn is told
is_at : (now : ℕ) (turn : Turn) → peer.IsAt now turn → IsAt now turn
is_at now (Given i moment) e = e
is_at now Cancelled e = tt

-- a number isn't one below
not_below : (k c : ℕ) → k < c → (c == k) ≡ false
not_below k c e = ne_eqb c k (λ same. omega (arith, e, same))

-- where neither this connection nor one before has a turn
pub up_to : (c : ℕ) (r : List MachineEvent) → ((k : ℕ) → k < c → has_turn k r ≡ false) → has_turn c r ≡ false
    → (k : ℕ) → k < suc c → has_turn k r ≡ false
up_to c r before none k e = by (k == c) refl where
  by : (b : Bool) → (k == c) ≡ b → has_turn k r ≡ false
  by true same = subst (λ n. has_turn n r ≡ false) (sym (eqb-true k c same)) none
  by false other = before k (let apart = eqb-false k c other in omega (arith, e, apart))

-- a move of this connection gives no turn to another
other_turn : (k c : ℕ) (m : PeerEvent) (r : List MachineEvent) → (c == k) ≡ false → last_turn (Does c m ∷ r) ≡ last_turn r
    → has_turn k (Does c m ∷ r) ≡ has_turn k r
other_turn k c m r other last =
    ap (λ n. has n (moves k (Does c m ∷ r))) last ∙ ap (λ h. has (last_turn r) h) (moves_stay c k (m ∷ []) r other)
  where
    has : ℕ → List PeerEvent → Bool
    has n h = nat_le n k && (is_there k r && is_some (turn_with (settings_of k r) h))

-- its peer's moves are one more
moves_more : (c : ℕ) (m : PeerEvent) (r : List MachineEvent) (h : List PeerEvent) → moves c r ≡ h → moves c (Does c m ∷ r) ≡ m ∷ h
moves_more c m r h e = moves_done c (m ∷ []) r ∙ ap (λ l. m ∷ l) e

module _ {Job : Type 0} (hub : Hub Job) (tested : TurnsAreTested) (now c : ℕ) (t : Settings) (w : List MachineEvent) where
  -- a peer that may have a turn has the one of its next job
  turn_is : (h : List PeerEvent) (j : ℕ) → MayTurn t h → next_job t h ≡ Some j → turn_with (Some t) h ≡ Some j
  turn_is h j may next = ap (λ b. if b then next_job t h else None) ((tested t h).1 may) ∙ next

  module _ (r : List MachineEvent) (h : List PeerEvent) (on : IsOn now c t w r h) where
    -- what its peer did says which turn it has
    turn_with_peer : turn_at c r ≡ turn_with (Some t) h
    turn_with_peer = ap (λ o. turn_with o (moves c r)) on.here.begun ∙ ap (λ l. turn_with (Some t) l) on.moves_are

    -- its next turn is the round's next
    turn_follows : (j : ℕ) (call : Invoked) (since : ℕ) (turn : Turn) (what : Act) → asking h ≡ None → peer.IsAt now turn
        → MayRun hub t h j call since turn what → MayFollow now (owed r) r (Does c (Runs j call since turn what))
    turn_follows j call since turn what none at may =
        let turns : turn_at c r ≡ Some j = turn_with_peer ∙ turn_is h j may.may may.next in
        subst (λ o. MayFollow now o r (Does c (Runs j call since turn what))) (sym (on.owes ∙ ap (λ o. owed_by c o) none))
        (c, j, call, since, turn, what, next_is c t r on.none on.here on.last (ap is_some turns) on.before, turns, is_at now turn at, refl)

    -- a turn at which no deed is handed up
    on_turn : (j : ℕ) (call : Invoked) (since : ℕ) (turn : Turn) (what : Act) → asking h ≡ None → peer.IsAt now turn → is_deed what ≡ false
        → MayRun hub t h j call since turn what → IsOn now c t w (Does c (Runs j call since turn what) ∷ r) (Runs j call since turn what ∷ h)
    on_turn j call since turn what none at no_deed may = record {
      of_round = longer now w r _ on.of_round (turn_follows j call since turn what none at may);
      owes = owed_after c j call since turn what r h no_deed;
      last = omega arith;
      before = λ k e. and_left (nat_le c k) _ (lt-leb c k e);
      none = on.none;
      here = record { begun = on.here.begun; here = on.here.here };
      moves_are = moves_more c (Runs j call since turn what) r h on.moves_are;
    }

    -- a turn at which one is
    pub on_deed : (j : ℕ) (call : Invoked) (since : ℕ) (turn : Turn) (deed : Deed) → asking h ≡ None → peer.IsAt now turn
        → MayRun hub t h j call since turn (act.Do deed) → AtDeed now w (Does c (Runs j call since turn (act.Do deed)) ∷ r) c j deed
    on_deed j call since turn deed none at may = record {
      of_round = longer now w r _ on.of_round (turn_follows j call since turn (act.Do deed) none at may);
      owes = refl;
      last = refl;
    }

    -- what settles the ask of the last turn
    on_settled : (j : ℕ) (m : PeerEvent) → asking h ≡ Some j → settles m ≡ Some j → owed (Does c m ∷ r) ≡ NothingOwed → asking (m ∷ h) ≡ None
        → last_turn (Does c m ∷ r) ≡ last_turn r → IsOn now c t w (Does c m ∷ r) (m ∷ h)
    on_settled j m asks settled owes none last = record {
      of_round = longer now w r _ on.of_round
          (subst (λ o. MayFollow now o r (Does c m)) (sym (on.owes ∙ ap (λ o. owed_by c o) asks)) (m, settled, refl));
      owes = owes ∙ sym (ap (λ o. owed_by c o) none);
      last = subst (λ n. n ≤ c) (sym last) on.last;
      before = λ k e. other_turn k c m r (not_below k c e) last ∙ on.before k e;
      none = on.none;
      here = record { begun = on.here.begun; here = on.here.here };
      moves_are = moves_more c m r h on.moves_are;
    }

    -- no turn is left
    pub on_rest : asking h ≡ None → (MayTurn t h → ⊥) ⊎ (next_job t h ≡ None) → InRound now w r (suc c)
    on_rest none rests = record {
      of_round = on.of_round;
      settled = on.owes ∙ ap (λ o. owed_by c o) none;
      last = let last = on.last in omega (arith, last);
      none_before = up_to c r on.before (and_right (nat_le (last_turn r) c) _ (and_right (is_there c r) _ (ap is_some turn_none)));
    }
      where
        -- jobs may have none, or there is no next one
        either : (b : Bool) → may_turn t h ≡ b → (MayTurn t h → ⊥) ⊎ (next_job t h ≡ None) → (if b then next_job t h else None) ≡ None
        either false e o = refl
        either true e (inl n) = absurd (n ((tested t h).0 e))
        either true e (inr o) = o

        turn_none : turn_at c r ≡ None
        turn_none = turn_with_peer ∙ either (may_turn t h) refl rests

  -- what a job asks for it asked for at the last turn
  asked_last : (h : List PeerEvent) (j : ℕ) (call : Invoked) → IsPrompt h → IsAsked t j call h → asking h ≡ Some j
  asked_last h j call prompt x =
      asked_at_once x.target x.arguments j h prompt (record { last = x.last; unmade = x.unmade; unanswered = x.unanswered })

  -- the round goes on with these turns
  pub on_turns : (r : List MachineEvent) (h ms : List PeerEvent) → IsOn now c t w r h → AreTurns now ms → Follows hub t (ms ++ h) → IsPrompt (ms ++ h)
      → IsOn now c t w (doing c ms r) (ms ++ h)
  on_turns r h [] on are follows prompt = on
  on_turns r h (Runs j call since turn what ∷ ms) on are follows prompt =
      on_turn (doing c ms r) (ms ++ h) (on_turns r h ms on are.2 follows.0 prompt.0) j call since turn what
      (either_none (ms ++ h) prompt.1) are.1 are.0 follows.1
  on_turns r h (Calls (Some j) n call ∷ ms) on are follows prompt =
      on_settled (doing c ms r) (ms ++ h) (on_turns r h ms on are follows.0 prompt.0) j (Calls (Some j) n call)
      (asked_last (ms ++ h) j call prompt.0 follows.1.asked) refl refl refl refl
  on_turns r h (Refuses j ∷ ms) on are follows prompt =
      on_settled (doing c ms r) (ms ++ h) (on_turns r h ms on are follows.0 prompt.0) j (Refuses j)
      (asked_last (ms ++ h) j follows.1.call prompt.0 follows.1.asked) refl refl refl refl
  on_turns r h (m ∷ ms) on are follows prompt = absurd are
