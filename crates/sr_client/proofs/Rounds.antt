-- A round of the client's peer, in which each job that is due has a turn.
use Rattle.std.proofs.Common.{inl, inr, ◌≡◌, ◌⊎◌, ℕ, Bool, true, false, ◌&&◌, List, [], ◌∷◌, ◌++◌, Option, Some, None, refl, sym, ap, ◌∙◌, subst}
use Rattle.std.proofs.Common.{append_assoc, if◌then◌else◌}
use Rattle.std.specs.List.{list_all}
use Rattle.std.proofs.lemmas.List.{append-nil}
use Rattle.hm_message.specs.declared.message.Ending.{Ending}
use Rattle.hd_calls.specs.declared.vocabulary.Act.{Act}
use Rattle.hd_calls.specs.declared.vocabulary.Act.TheVariants as act
use Rattle.hd_calls.specs.declared.vocabulary.Deed.{Deed}
use Rattle.hd_calls.specs.Hubs.{Invoked, Turn, Given, Cancelled, call_for}
use Rattle.hd_calls.specs.Peers.{PeerEvent, Calls, Runs, Refuses, Rounds, Settings, hands_up, turns}
use Rattle.hd_calls.specs.Rules.{MayRun, MayTurn, next_job}
use Rattle.hub_calc.specs.Laws.{HandsUpNothing}
use Rattle.hd_server.specs.Laws.{TurnsAreTested}
use Rattle.hd_server.specs.Machine.{may_turn, turn_with}
use Rattle.hd_server.specs.Machine as machine
use Rattle.hp_peer.specs.declared.peer.Peer.{Peer}
use Rattle.hp_peer.specs.Turning as peer
use Rattle.hp_peer.specs.Turning.{AfterTurns, HasNoTurn, is_deed}
use Rattle.hub_calc.specs.declared.client.ClientHub.{ClientHub}
use Rattle.hub_calc.specs.Client.{client_hub}
use Rattle.hd_client.specs.Setups.{Words}
use Rattle.hd_client.specs.Turns.{AreTurns}
use Rattle.sr_client.specs.declared.peer.ClientPeer.{ClientPeer}
use Rattle.sr_client.specs.Lines.{json_words, lines_of}
use Rattle.sr_client.specs.Peers.{HasRounded, Plays}
use Rattle.sr_client.proofs.Chains.{with_peer}
use Rattle.sr_client.proofs.Quiet.{is_quiet, plays_quiet, quiet_moves, stays_there}

-- ---- turns

hands_none : (what : Act) → is_deed what ≡ false → hands_up (Some what) ≡ false
hands_none (act.Do deed) e = e
hands_none what e = refl

at_once : (now : ℕ) (turn : Turn) → peer.IsAt now turn → machine.IsAt now turn
at_once now Cancelled at = tt
at_once now (Given i moment) at = at

-- as the definitions of a client have them
are_turns : (now : ℕ) (ms : List PeerEvent) → peer.AreTurns now ms → AreTurns now ms
are_turns now [] are = tt
are_turns now (Runs j c since turn what ∷ ms) are = (hands_none what are.0, at_once now turn are.1, are_turns now ms are.2)
are_turns now (Calls (Some j) n c ∷ ms) are = are_turns now ms are
are_turns now (Refuses j ∷ ms) are = are_turns now ms are
are_turns now (_ ∷ ms) are = absurd are

-- they read nothing
turns_quiet : (now : ℕ) (ms : List PeerEvent) → peer.AreTurns now ms → list_all is_quiet (ms ++ Rounds ∷ []) ≡ true
turns_quiet now [] are = refl
turns_quiet now (Runs j c since turn what ∷ ms) are = ap (λ b. true && b) (turns_quiet now ms are.2)
turns_quiet now (Calls (Some j) n c ∷ ms) are = ap (λ b. true && b) (turns_quiet now ms are)
turns_quiet now (Refuses j ∷ ms) are = ap (λ b. true && b) (turns_quiet now ms are)
turns_quiet now (_ ∷ ms) are = absurd are

-- and nothing is printed of them
turns_silent : (w : Words) (t : Settings) (h : List PeerEvent) (now : ℕ) (ms : List PeerEvent) → peer.AreTurns now ms
    → lines_of w t (ms ++ Rounds ∷ []) h ≡ []
turns_silent w t h now [] are = refl
turns_silent w t h now (Runs j c since turn what ∷ ms) are = append-nil (lines_of w t (ms ++ Rounds ∷ []) h) ∙ turns_silent w t h now ms are.2
turns_silent w t h now (Calls (Some j) n c ∷ ms) are = append-nil (lines_of w t (ms ++ Rounds ∷ []) h) ∙ turns_silent w t h now ms are
turns_silent w t h now (Refuses j ∷ ms) are = append-nil (lines_of w t (ms ++ Rounds ∷ []) h) ∙ turns_silent w t h now ms are
turns_silent w t h now (_ ∷ ms) are = absurd are

-- ---- the round

no_turn : TurnsAreTested → (t : Settings) (k : List PeerEvent) → (MayTurn t k → ⊥) ⊎ (next_job t k ≡ None) → turn_with (Some t) k ≡ None
no_turn tested t k rests = by (may_turn t k) refl rests
  where
    by : (b : Bool) → may_turn t k ≡ b → (MayTurn t k → ⊥) ⊎ (next_job t k ≡ None) → (if b then next_job t k else None) ≡ None
    by false e o = refl
    by true e (inl never) = absurd (never ((tested t k).0 e))
    by true e (inr none) = none

-- a job whose hub hands up nothing does no deed at its turn
no_deed : (t : Settings) (h : List PeerEvent) (j : ℕ) (c : Invoked) (since : ℕ) (turn : Turn) (deed : Deed) → HandsUpNothing client_hub
    → MayRun client_hub t h j c since turn (act.Do deed) → ⊥
no_deed t h j c since turn deed nothing may =
    let none = nothing (call_for t.who c) since (turns j h) turn in
    let some : hands_up (Some (act.Do deed)) ≡ false = ap (λ a. hands_up (Some a)) may.is ∙ none in
    absurd (cc)

module _ (tested : TurnsAreTested) (t : Settings) (h : List PeerEvent) (p : ClientPeer) (plays : Plays t p h) (x : Peer ClientHub Ending) (now : ℕ) where
  round_over : AfterTurns now (Rounds ∷ h) (HasNoTurn client_hub t x) → HasRounded t h (with_peer p x) now
  round_over after =
      let ms = after.turns ++ Rounds ∷ [] in
      let same = append_assoc after.turns (Rounds ∷ []) h in
      let over : HasNoTurn client_hub t x (ms ++ h) = subst (HasNoTurn client_hub t x) (sym same) after.holds in
      let quiet = quiet_moves t ms h (turns_quiet now after.turns after.are_turns) in
      record {
        moves = ms;
        round = record {
          turns = after.turns;
          are_turns = are_turns now after.turns after.are_turns;
          is = refl;
          settled = over.stands.settled;
          over = no_turn tested t (ms ++ h) over.rests;
        };
        stays = stays_there t h (ms ++ h) quiet.same;
        silent = turns_silent json_words t h now after.turns after.are_turns;
        plays = plays_quiet t p (with_peer p x) h (ms ++ h) plays over.stands refl quiet;
      }

  -- whatever the round handed up, it was nothing
  pub has_round : HandsUpNothing client_hub → (found : Option (ℕ × Deed)) → peer.Turns client_hub t (Rounds ∷ h) x now found
      → HasRounded t h (with_peer p x) now
  has_round nothing None after = round_over after
  has_round nothing (Some (number, deed)) after =
      let up = after.holds in
      absurd (no_deed t (after.turns ++ Rounds ∷ h) up.job up.call up.since up.turn deed nothing up.stands.follows.1)
