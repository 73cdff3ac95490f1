-- Turns of jobs, one after the other.
use Rattle.std.proofs.Common.{◌≡◌, ◌⊎◌, ◌↔◌, ◌≤◌, inl, inr, ℕ, zero, suc, ◌-◌, ◌+◌, Bool, true, false, IsTrue, List, [], ◌∷◌, ◌++◌, length, Option, Some, None, Result, Ok, Err, OnErr, refl, sym, ap, ◌∙◌, subst, arith, append_assoc}
use Rattle.hd_calls.specs.declared.vocabulary.Act.{Act}
use Rattle.hd_calls.specs.declared.vocabulary.Act.TheVariants as act
use Rattle.hd_calls.specs.declared.vocabulary.Deed.{Deed}
use Rattle.hd_calls.specs.Hubs.{Hub, Invoked, Turn}
use Rattle.hd_calls.specs.Laws.{JobsAgree}
use Rattle.hd_calls.specs.Peers.{PeerEvent, Calls, Runs, Refuses, Settings, add, begun}
use Rattle.hd_calls.specs.Rules.{MayTurn, first_from, is_due, next_job, passed}
use Rattle.hd_calls.specs.Tables.{begun_in, job_happenings, next_job_in}
use Rattle.hj_jobs.specs.Calls.{PreparesOrNot}
use Rattle.hj_jobs.specs.declared.jobs.Jobs.{Jobs}
use Rattle.hj_jobs.specs.declared.live.Stepped.{Stepped}
use Rattle.hp_peer.specs.declared.peer.Peer.{Peer}
use Rattle.hp_peer.specs.Stands.{Stands}
use Rattle.hp_peer.specs.Turning.{AfterTurns, AreTurns, GoesOn, HasHandedUp, HasNoTurn, HasTurned, IsAt, IsCarriedOut, IsPrepared, IsOfAsk, Turns, TurnsSome, turned_with}
use Rattle.hp_peer.proofs.JobMoves.{other_jobs, same_moves}

-- ---- the first half of a turn

-- what holds anyway holds of a failed call
pub on_err_anyway : {T E : Type 0} (r : Result T E) (P : Type 0) → P → OnErr r P
on_err_anyway (Ok x) P p = tt
on_err_anyway (Err e) P p = p

module _ {H Job : Type 0} (hub : Hub Job) (t : Settings) (h : List PeerEvent) (p : Peer H Job) (s : Stands {H = H} hub t p h) (now : ℕ) (jobs : Jobs H Job) (room : Bool) where
  pub no_turn : JobsAgree t h → (IsTrue room ↔ MayTurn t h) → PreparesOrNot {H = H} hub jobs t.who (job_happenings t h) now room None
      → HasNoTurn {H = H} hub t (record p { jobs = jobs }) h
  no_turn agree may (why, stands) = record {
    stands = other_jobs {H = H} hub t h p s jobs stands;
    rests = rests why;
  } where
    rests : (room ≡ false) ⊎ (next_job_in (job_happenings t h) ≡ None) → (MayTurn t h → ⊥) ⊎ (next_job t h ≡ None)
    rests (inl none) = inl (λ m. let given = may.1 m in absurd (cc))
    rests (inr none) = inr (agree.next ∙ none)

  module _ (stepped : Stepped) (x : PreparesOrNot {H = H} hub jobs t.who (job_happenings t h) now room (Some stepped)) where
    pub attempted_stands : Stands {H = H} hub t (record p { jobs = jobs }) h
    attempted_stands = other_jobs {H = H} hub t h p s jobs x.1.stands

    pub prepared : (IsTrue room ↔ MayTurn t h) → IsPrepared {H = H} hub t (record p { jobs = jobs }) h now stepped
    prepared may = record { stands = attempted_stands; may = may.0 x.0; was_prepared = x.1 }

-- ---- one turn

module _ {H Job : Type 0} (hub : Hub Job) (t : Settings) (h : List PeerEvent) (q : Peer H Job) (now : ℕ) where
  goes : (ds : List PeerEvent) (job : ℕ) → AreTurns now ds → passed (ds ++ h) ≡ suc job → passed h ≤ job → Stands {H = H} hub t q (ds ++ h) → GoesOn {H = H} hub t h q now
  goes ds job are at past stands = record { turns = ds; are_turns = are; further = omega (arith, at, past); stands = stands }

  turns_to : (what : Act) (number job : ℕ) (call : Invoked) (since : ℕ) (turn : Turn) (asked : Option PeerEvent) → IsOfAsk job what asked → IsAt now turn → passed h ≤ job → number ≡ suc job
      → Stands {H = H} hub t q (add asked (Runs job call since turn what ∷ h)) → HasTurned {H = H} hub t h q now (turned_with number what)
  turns_to (act.Do deed) number job call since turn None of at past is stands =
      record { job = job; call = call; since = since; turn = turn; number_is = is; at = at; stands = stands }
  turns_to (act.Do deed) number job call since turn (Some d) of at past is stands = absurd of
  turns_to act.More number job call since turn None of at past is stands = goes (Runs job call since turn act.More ∷ []) job (refl, at, tt) refl past stands
  turns_to act.More number job call since turn (Some d) of at past is stands = absurd of
  turns_to act.Wait number job call since turn None of at past is stands = goes (Runs job call since turn act.Wait ∷ []) job (refl, at, tt) refl past stands
  turns_to act.Wait number job call since turn (Some d) of at past is stands = absurd of
  turns_to (act.Item v) number job call since turn None of at past is stands = goes (Runs job call since turn (act.Item v) ∷ []) job (refl, at, tt) refl past stands
  turns_to (act.Item v) number job call since turn (Some d) of at past is stands = absurd of
  turns_to (act.End e) number job call since turn None of at past is stands = goes (Runs job call since turn (act.End e) ∷ []) job (refl, at, tt) refl past stands
  turns_to (act.End e) number job call since turn (Some d) of at past is stands = absurd of
  turns_to (act.Ask u v) number job call since turn None of at past is stands = goes (Runs job call since turn (act.Ask u v) ∷ []) job (refl, at, tt) refl past stands
  turns_to (act.Ask u v) number job call since turn (Some (Calls (Some j) n c)) of at past is stands =
      goes (Calls (Some j) n c ∷ Runs job call since turn (act.Ask u v) ∷ []) job (refl, at, tt) refl past stands
  turns_to (act.Ask u v) number job call since turn (Some (Refuses j)) of at past is stands =
      goes (Refuses j ∷ Runs job call since turn (act.Ask u v) ∷ []) job (refl, at, tt) refl past stands
  turns_to (act.Ask u v) number job call since turn (Some d) of at past is stands = absurd of

  pub turned_out : (s : Stepped) → IsCarriedOut {H = H} hub t h q now s → HasTurned {H = H} hub t h q now (turned_with s.job s.act)
  turned_out s x = turns_to s.act s.job x.job x.call x.since x.turn x.asked x.is_of_ask x.at x.next x.number_is x.stands

-- ---- one turn after others

more_turns : (now : ℕ) (ds es : List PeerEvent) → AreTurns now ds → AreTurns now es → AreTurns now (ds ++ es)
more_turns now [] es x y = y
more_turns now (Runs j c since turn what ∷ ds) es x y = (x.0, x.1, more_turns now ds es x.2 y)
more_turns now (Calls (Some j) n c ∷ ds) es x y = more_turns now ds es x y
more_turns now (Refuses j ∷ ds) es x y = more_turns now ds es x y
more_turns now (_ ∷ ds) es x y = absurd x

pub after_none : (now : ℕ) (h : List PeerEvent) (P : List PeerEvent → Type 0) → P h → AfterTurns now h P
after_none now h P x = record { turns = []; are_turns = tt; holds = x }

pub after_more : (now : ℕ) (h : List PeerEvent) (P Q : List PeerEvent → Type 0) (x : AfterTurns now h P) (es : List PeerEvent) → AreTurns now es → Q (es ++ (x.turns ++ h)) → AfterTurns now h Q
after_more now h P Q x es are holds = record {
  turns = es ++ x.turns;
  are_turns = more_turns now es x.turns are x.are_turns;
  holds = subst Q (sym (append_assoc es x.turns h)) holds;
}

pub after_same : (now : ℕ) (h : List PeerEvent) (P Q : List PeerEvent → Type 0) (x : AfterTurns now h P) → Q (x.turns ++ h) → AfterTurns now h Q
after_same now h P Q x holds = record { turns = x.turns; are_turns = x.are_turns; holds = holds }

-- a turn begins no job
same_begun : (now : ℕ) (ds h : List PeerEvent) → AreTurns now ds → begun (ds ++ h) ≡ begun h
same_begun now [] h x = refl
same_begun now (Runs j c since turn what ∷ ds) h x = same_begun now ds h x.2
same_begun now (Calls (Some j) n c ∷ ds) h x = same_begun now ds h x
same_begun now (Refuses j ∷ ds) h x = same_begun now ds h x
same_begun now (_ ∷ ds) h x = absurd x

none_from : (u k : ℕ) (p : ℕ → Bool) → u ≡ 0 → first_from k u p ≡ None
none_from zero k p e = refl
none_from (suc u) k p e = absurd (omega (arith, e))

-- ---- all turns

-- after so many turns the peer stands for them, and the round is as far on at least
abbrev pub HasHad : {H Job : Type 0} → Hub Job → Settings → List PeerEvent → Peer H Job → ℕ → ℕ → Type 0
HasHad hub t h q now count = AfterTurns now h (λ k. Stands hub t q k × (count ≤ passed k))

pub had_none : {H Job : Type 0} (hub : Hub Job) (t : Settings) (h : List PeerEvent) (now : ℕ) (p : Peer H Job) → Stands {H = H} hub t p h → HasHad {H = H} hub t h p now 0
had_none {H = H} hub t h now p s = after_none now h (λ k. Stands {H = H} hub t p k × (0 ≤ passed k)) (s, omega arith)

module _ {H Job : Type 0} (hub : Hub Job) (t : Settings) (h : List PeerEvent) (now count : ℕ) (p : Peer H Job) (x : HasHad {H = H} hub t h p now count) where
  pub had_more : (q : Peer H Job) → GoesOn {H = H} hub t (x.turns ++ h) q now → HasHad {H = H} hub t h q now (count + 1)
  had_more q g = after_more now h (λ k. Stands {H = H} hub t p k × (count ≤ passed k)) (λ k. Stands {H = H} hub t q k × (count + 1 ≤ passed k)) x g.turns g.are_turns
      (g.stands, (let further = g.further in let past = x.holds.1 in omega (arith, further, past)))

  had_all : (Q : List PeerEvent → Type 0) → Q (x.turns ++ h) → AfterTurns now h Q
  had_all Q holds = after_same now h (λ k. Stands {H = H} hub t p k × (count ≤ passed k)) Q x holds

  pub had_rest : (q : Peer H Job) → HasNoTurn {H = H} hub t q (x.turns ++ h) → Turns {H = H} hub t h q now None
  had_rest q rests = had_all (HasNoTurn {H = H} hub t q) rests

  pub had_deed : (q : Peer H Job) (number : ℕ) (deed : Deed) → HasHandedUp {H = H} hub t q now number deed (x.turns ++ h) → Turns {H = H} hub t h q now (Some (number, deed))
  had_deed q number deed up = had_all (HasHandedUp {H = H} hub t q now number deed) up

  pub had_some : (q : Peer H Job) → Stands {H = H} hub t q (x.turns ++ h) → TurnsSome {H = H} hub t h (record q { stalled = true }) now
  had_some q s = had_all (λ k. Stands {H = H} hub t (record q { stalled = true }) k)
      (same_moves {H = H} hub t (x.turns ++ h) q s (record q { stalled = true }) refl s.end refl refl refl refl (λ n. refl))

  -- with as many turns as there are jobs, none is left in the round
  pub had_each : (jobs : ℕ) → JobsAgree t h → jobs ≡ length (begun_in (job_happenings t h)) → jobs ≤ count → Turns {H = H} hub t h p now None
  had_each jobs agree are enough = had_all (HasNoTurn {H = H} hub t p) (record { stands = x.holds.0; rests = inr none })
    where
      none : next_job t (x.turns ++ h) ≡ None
      none =
          let k = x.turns ++ h in
          let same : length (begun k) ≡ length (begun h) = ap length (same_begun now x.turns h x.are_turns) in
          let in_table : length (begun h) ≡ length (begun_in (job_happenings t h)) = ap length agree.begins in
          let past = x.holds.1 in
          none_from (length (begun k) - passed k) (passed k) (λ j. is_due t j k) (omega (arith, same, in_table, are, past, enough))
