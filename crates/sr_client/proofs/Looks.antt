-- What the client's peer tells of itself: where its end stands, whether a job is due, and what it writes.
use Rattle.std.proofs.Common.{◌≡◌, ◌⊎◌, ◌↔◌, inl, inr, ℕ, zero, suc, ◌+◌, ◌-◌, ◌<◌, ◌≤◌, Bool, true, false, not, ◌&&◌, List, ◌∷◌, length}
use Rattle.std.proofs.Common.{Option, Some, None, is_some, IsTrue, refl, sym, ap, subst, ◌∙◌, true≢false, arith, if◌then◌else◌}
use Rattle.std.specs.Prelude.{nat_lt}
use Rattle.std.proofs.lemmas.Bool.{and_parts, both_ways, cases_lt, ltb-true}
use Rattle.hd_delivery.specs.declared.vocabulary.State.{State}
use Rattle.hd_delivery.specs.declared.vocabulary.State.TheVariants as states
use Rattle.hd_delivery.specs.Histories.{Config, EndEvent, is_closed, is_shaken, present_link, state, state_of}
use Rattle.he_end.specs.declared.end.End.{End}
use Rattle.he_end.specs.Stands as of_end
use Rattle.hd_calls.specs.Peers.{PeerEvent, Rounds, Settings, begun, byte_steps, live_job}
use Rattle.hd_calls.specs.Rules.{IsPeerDue, first_from, is_due, next_job}
use Rattle.hd_server.specs.Laws.{TurnsAreTested}
use Rattle.hd_server.specs.Machine.{may_turn, turn_with}
use Rattle.sr_client.specs.declared.peer.ClientPeer.{ClientPeer}
use Rattle.sr_client.specs.Peers.{Plays}

-- ---- the end

-- it stands for what its peer stands for
pub end_stands : (t : Settings) (p : ClientPeer) (h : List PeerEvent) (e : End) → Plays t p h → e ≡ p.peer.end
    → of_end.Stands t.wire t.config e (byte_steps t h)
end_stands t p h e plays is = subst (λ x. of_end.Stands t.wire t.config x (byte_steps t h)) (sym is) plays.on.stands.end

-- the test whether a state is this one
pub record Tells (eq : State → State → Bool) : Type 0 where
  pub closed : eq states.Closed states.Closed ≡ true
  pub opening : eq states.Opening states.Closed ≡ false
  pub away : eq states.Away states.Closed ≡ false
  pub ready : eq states.Ready states.Closed ≡ false

is_closed_by : (eq : State → State → Bool) → Tells eq → (shut shaken : Bool) (l : Option ℕ) → eq (state_of shut shaken l) states.Closed ≡ shut
is_closed_by eq tells true shaken l = tells.closed
is_closed_by eq tells false false l = tells.opening
is_closed_by eq tells false true None = tells.away
is_closed_by eq tells false true (Some l) = tells.ready

-- its state tells whether it is closed
pub closed_by : (eq : State → State → Bool) → Tells eq → (c : Config) (k : List EndEvent) (found : State) → found ≡ state c k
    → eq found states.Closed ≡ is_closed c k
closed_by eq tells c k found is = ap (λ s. eq s states.Closed) is ∙ is_closed_by eq tells (is_closed c k) (is_shaken k) (present_link k)

-- and whether its handshake is complete, while it is open
abbrev pub is_ready : State → Bool
is_ready states.Ready = true
is_ready states.Away = true
is_ready states.Opening = false
is_ready states.Closed = false

ready_of : (shut shaken : Bool) (l : Option ℕ) → is_ready (state_of shut shaken l) ≡ (shaken && not shut)
ready_of true true l = refl
ready_of true false l = refl
ready_of false false l = refl
ready_of false true None = refl
ready_of false true (Some l) = refl

pub ready_by : (c : Config) (k : List EndEvent) (found so : State) → found ≡ state c k → found ≡ so → is_ready so ≡ (is_shaken k && not (is_closed c k))
ready_by c k found so is same = ap is_ready (sym same ∙ is) ∙ ready_of (is_closed c k) (is_shaken k) (present_link k)

-- ---- jobs

-- the test holds of the number that is found
holds_of : (u k j : ℕ) (p : ℕ → Bool) → first_from k u p ≡ Some j → p j ≡ true
holds_of zero k j p e = absurd (let z : ◌≡◌ {A = Option ℕ} None (Some j) = e in cc)
holds_of (suc u) k j p e = by (p k) refl e (holds_of u (suc k) j p)
  where
    by : (b : Bool) → p k ≡ b → (if b then Some k else first_from (suc k) u p) ≡ Some j → (first_from (suc k) u p ≡ Some j → p j ≡ true) → p j ≡ true
    by true f e later = let is : Some k ≡ Some j = e in let same : k ≡ j = cc in ap p (sym same) ∙ f
    by false f e later = later e

-- a number is found where the test holds of one of them
some_from : (u k j : ℕ) (p : ℕ → Bool) → k ≤ j → j < k + u → p j ≡ true → is_some (first_from k u p) ≡ true
some_from zero k j p from to holds = absurd (omega (arith, from, to))
some_from (suc u) k j p from to holds = by (p k) refl (cases_lt k j) (some_from u (suc k) j p)
  where
    by : (b : Bool) → p k ≡ b → (k < j) ⊎ (j ≤ k) → (suc k ≤ j → j < suc k + u → p j ≡ true → is_some (first_from (suc k) u p) ≡ true)
        → is_some (if b then Some k else first_from (suc k) u p) ≡ true
    by true e order later = refl
    by false e (inl before) later = later (omega (arith, before)) (omega (arith, to)) holds
    by false e (inr after) later = let same : k ≡ j = omega (arith, from, after) in absurd (both_ways (p j) (ap p (sym same) ∙ e) holds)

module _ (tested : TurnsAreTested) (t : Settings) (h : List PeerEvent) where
  turns_if_due : IsPeerDue t h → is_some (turn_with (Some t) (Rounds ∷ h)) ≡ true
  turns_if_due due =
      let j = due.1.0 in
      let live = and_parts (live_job t j h) _ due.1.1 in
      let began = ltb-true j (length (begun h)) (and_parts (nat_lt j (length (begun h))) _ live.0).0 in
      ap (λ b. is_some (if b then next_job t (Rounds ∷ h) else None)) ((tested t h).1 due.0)
      ∙ some_from (length (begun h) - 0) 0 j (λ i. is_due t i h) (omega arith) (omega (arith, began)) due.1.1

  due_if_turns : is_some (turn_with (Some t) (Rounds ∷ h)) ≡ true → IsPeerDue t h
  due_if_turns has = by (may_turn t h) refl (next_job t (Rounds ∷ h)) refl has
    where
      by : (b : Bool) → may_turn t h ≡ b → (next : Option ℕ) → next_job t (Rounds ∷ h) ≡ next → is_some (if b then next else None) ≡ true
          → IsPeerDue t h
      by true e (Some j) f has = ((tested t h).0 e, (j, holds_of (length (begun h) - 0) 0 j (λ i. is_due t i h) f))
      by true e None f has = absurd (true≢false (sym has))
      by false e next f has = absurd (true≢false (sym has))

  -- a job of the peer is due exactly if one would have a turn
  pub due_by : (due : Bool) → IsTrue due ↔ IsPeerDue t h → due ≡ is_some (turn_with (Some t) (Rounds ∷ h))
  due_by true is = sym (turns_if_due (is.0 refl))
  due_by false is = not_true (is_some (turn_with (Some t) (Rounds ∷ h))) (λ e. absurd (true≢false (sym (is.1 (due_if_turns e)))))
    where
      not_true : (b : Bool) → (b ≡ true → ⊥) → false ≡ b
      not_true true f = absurd (f refl)
      not_true false f = refl
