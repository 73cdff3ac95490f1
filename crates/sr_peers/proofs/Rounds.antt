-- A round of a peer of a replay, in which each job that is due has a turn.
use Rattle.std.proofs.Common.{◌≡◌, ℕ, false, List, [], ◌∷◌, ◌++◌, Option, Some, None, refl, sym, ap, ◌∙◌, subst, append_assoc}
use Rattle.std.specs.Prelude.{option_map}
use Rattle.hm_message.specs.declared.message.Message.{Message}
use Rattle.hd_delivery.specs.Histories.{Sent, present_link}
use Rattle.hd_delivery.specs.Bytes.{Does, in_frames}
use Rattle.hd_calls.specs.declared.vocabulary.Act.TheVariants as act
use Rattle.hd_calls.specs.declared.vocabulary.Deed.{Deed}
use Rattle.hd_calls.specs.Hubs.{Hub, Invoked, Turn, call_for}
use Rattle.hd_calls.specs.Peers.{PeerEvent, Calls, Runs, Refuses, Rounds, Settings, add, answer_of, byte_steps, codec, hands_up, message_for, steps, turns, waiting}
use Rattle.hd_calls.specs.Rules.{MayRun}
use Rattle.hub_calc.specs.Laws.{HandsUpNothing}
use Rattle.hp_peer.specs.declared.peer.Peer.{Peer}
use Rattle.hp_peer.specs.Turning.{AfterTurns, AreTurns, HasNoTurn, Turns}
use Rattle.sr_peers.specs.declared.party.Party.{Party}
use Rattle.sr_peers.specs.Doings.{IsRound}
use Rattle.sr_peers.specs.Plays.{Plays}
use Rattle.sr_peers.proofs.Chains.{with}

waits_still : (now : ℕ) (k ds : List PeerEvent) → AreTurns now ds → waiting (ds ++ k) ≡ waiting k
waits_still now k [] are = refl
waits_still now k (Runs j c since turn what ∷ ds) are = waits_still now k ds are.2
waits_still now k (Calls (Some j) n c ∷ ds) are = waits_still now k ds are
waits_still now k (Refuses j ∷ ds) are = waits_still now k ds are
waits_still now k (_ ∷ ds) are = absurd are

-- what is said for a job leaves the link
said_there : (t : Settings) (k : List PeerEvent) (o : Option Message)
    → present_link (in_frames t.wire t.config (add (option_map (λ m. Does (Sent m)) o) (byte_steps t k))) ≡ present_link (steps t k)
said_there t k None = refl
said_there t k (Some m) = refl

link_still : (t : Settings) (now : ℕ) (k ds : List PeerEvent) → AreTurns now ds → present_link (steps t (ds ++ k)) ≡ present_link (steps t k)
link_still t now k [] are = refl
link_still t now k (Runs j c since turn what ∷ ds) are =
    said_there t (ds ++ k) (message_for c.way (answer_of t (codec t (ds ++ k)) c.way what)) ∙ link_still t now k ds are.2
link_still t now k (Calls (Some j) n c ∷ ds) are = link_still t now k ds are
link_still t now k (Refuses j ∷ ds) are = link_still t now k ds are
link_still t now k (_ ∷ ds) are = absurd are

-- a job whose hub hands up nothing does no deed at its turn
no_deed : {Job : Type 0} (hub : Hub Job) (t : Settings) (h : List PeerEvent) (j : ℕ) (c : Invoked) (since : ℕ) (turn : Turn) (deed : Deed) → HandsUpNothing hub
    → MayRun hub t h j c since turn (act.Do deed) → ⊥
no_deed hub t h j c since turn deed nothing may =
    let none = nothing (call_for t.who c) since (turns j h) turn in
    let some : hands_up (Some (act.Do deed)) ≡ false = ap (λ a. hands_up (Some a)) may.is ∙ none in
    absurd (cc)

module _ {H Job : Type 0} (hub : Hub Job) (t : Settings) (h : List PeerEvent) (p : Party H Job) (plays : Plays hub t p h) (x : Peer H Job) (now : ℕ) where
  round_over : AfterTurns now (Rounds ∷ h) (HasNoTurn hub t x) → (ds : List PeerEvent) × (IsRound t h now ds × Plays hub t (with p x) (ds ++ h))
  round_over after =
      let same = append_assoc after.turns (Rounds ∷ []) h in
      let over : HasNoTurn hub t x ((after.turns ++ Rounds ∷ []) ++ h) = subst (HasNoTurn hub t x) (sym same) after.holds in (
        after.turns ++ Rounds ∷ [],
        (
          record {
            turns = after.turns;
            are_turns = after.are_turns;
            is = refl;
            settled = over.stands.settled;
            over = over.rests;
          },
          record {
            stands = over.stands;
            side_is = plays.side_is;
            link_is = plays.link_is ∙ sym (ap (λ k. present_link (steps t k)) same ∙ link_still t now (Rounds ∷ h) after.turns after.are_turns);
            handled = ap waiting same ∙ (waits_still now (Rounds ∷ h) after.turns after.are_turns ∙ plays.handled);
          },
        ),
      )

  -- whatever the round handed up, it was nothing
  pub has_round : HandsUpNothing hub → (found : Option (ℕ × Deed)) → Turns hub t (Rounds ∷ h) x now found
      → (ds : List PeerEvent) × (IsRound t h now ds × Plays hub t (with p x) (ds ++ h))
  has_round nothing None after = round_over after
  has_round nothing (Some (number, deed)) after =
      let up = after.holds in
      absurd (no_deed hub t (after.turns ++ Rounds ∷ h) up.job up.call up.since up.turn deed nothing up.stands.follows.1)
