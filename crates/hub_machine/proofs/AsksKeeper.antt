-- A deed for which the keeper is asked: what it answered, what is outside then, and what the job is told.
use Rattle.std.proofs.Common.{◌≡◌, ℕ, Bool, true, false, List, [], ◌∷◌, map, Option, Some, None, IfSome, option_map, refl, sym, ap, subst, ◌∙◌, arith}
use Rattle.std.proofs.lemmas.Bool.{cond-false}
use Rattle.hd_calls.specs.declared.vocabulary.Deed.{Deed}
use Rattle.hd_calls.specs.declared.vocabulary.Deed.TheVariants.{Log, History}
use Rattle.hd_calls.specs.declared.vocabulary.Input.{Input}
use Rattle.hd_calls.specs.Hubs.{Hub}
use Rattle.hd_calls.specs.Peers.{Answers}
use Rattle.hd_calls.specs.Rules.{is_deed_answer}
use Rattle.hd_rooms.specs.declared.vocabulary.Asked.{Asked}
use Rattle.hd_rooms.specs.declared.vocabulary.Asked.TheVariants as keeper
use Rattle.hd_rooms.specs.Kept.{Content, KeeperDid, CountsFault, IsAnswer, kept_after, has_failed, recalled, with_row}
use Rattle.hg_groups.specs.Standing.{StandsRegistry}
use Rattle.hk_keeper.specs.declared.keeper.KeepError.{KeepError}
use Rattle.hk_keeper.specs.declared.keeper.KeepError.TheVariants as keep
use Rattle.hk_keeper.specs.Calls.{Gains, IsCaused, IsErrorNoted}
use Rattle.hd_server.specs.Machine.{MachineEvent, Carries, DeliveryOutcome, IsAskedFor, OwesDeed}
use Rattle.hd_server.specs.Machine.{answer_to, fates_of, has_gone, is_there, owed, registry, settings_of, who_of}
use Rattle.hp_peer.specs.declared.peer.Peer.{Peer}
use Rattle.hp_peer.specs.Stands.{OfEach}
use Rattle.hub_machine.specs.declared.machine.Machine.{Machine}
use Rattle.hub_machine.specs.Machines.{StandsMachine, peer_at, settings_there}
use Rattle.hub_machine.specs.MachineView.{MachineView, StandsFor, machine_view, lists_after, moved, with_lists}
use Rattle.hub_machine.specs.KeeperState.{HasAnsweredDuring, KeeperState, spoken_at}
use Rattle.hub_machine.specs.Rounds.{IsCarried}
use Rattle.hub_machine.specs.Carrying.{AnswersAt}
use Rattle.hub_machine.specs.Spreads.{codecs_among}
use Rattle.hub_machine.proofs.Ends.{unstood}
use Rattle.hub_machine.proofs.Lags.{lags}
use Rattle.hub_machine.proofs.Carry.{IsHere, here, carried_quietly, may_answer}

-- ---- the connection whose job handed it up

-- one that has not gone is there as it was begun
there_so : (c : ℕ) (r : List MachineEvent) (at : IsHere c r) → settings_there c r ≡ Some at.settings
there_so c r at = cond-false (has_gone c r) None (settings_of c r) at.stays ∙ at.begun

-- it has a peer
pub has_its_peer : {H Job : Type 0} (hub : Hub Job) (m : Machine H Job) (r : List MachineEvent) (c : ℕ) → StandsMachine {H = H} hub m r → is_there c r ≡ true
    → None ≡ peer_at m c → ⊥
has_its_peer {H} {Job} hub m r c s there e =
    let at : IsHere c r = here c r there in
    unstood {H = H} {Job = Job} hub m r c at.settings s (there_so c r at) e

-- the name that its peer tells is the one in which the keeper is asked
pub who_is : {H Job : Type 0} (hub : Hub Job) (m : Machine H Job) (r : List MachineEvent) (c : ℕ) (p : Peer H Job) (who : List ℕ) → StandsMachine {H = H} hub m r
    → is_there c r ≡ true → Some p ≡ peer_at m c → OfEach {H = H} hub p (λ t h. who ≡ t.who) → who ≡ who_of (settings_of c r)
who_is {H} {Job} hub m r c p who s there e tells =
    let at : IsHere c r = here c r there in
    let x = lags {H = H} {Job = Job} hub m r c at.settings p s (there_so c r at) e in
    tells at.settings x.before x.stands ∙ ap who_of (sym at.begun)

-- ---- what the keeper did

-- It was asked once: its answer is right, what it keeps, tells and counts goes on by that, and nothing was spelled
pub record WasAsked (before now : KeeperState) (ask : Asked) : Type 0 where
  pub right : IfSome before.holds (λ kept. IsAnswer kept ask)
  pub kept : now.holds ≡ option_map (kept_after ask) before.holds
  pub told : Gains before.answers now.answers ask
  pub counted : CountsFault (has_failed ask) before.faults now.faults
  pub unspelled : now.spelled ≡ before.spelled

-- what changes nothing
same_kept : (h : Option Content) (f : Content → Content) → ((kept : Content) → f kept ≡ kept) → h ≡ option_map f h
same_kept None f e = refl
same_kept (Some kept) f e = ap Some (sym (e kept))

-- nothing is said of it
free : (h : Option Content) (P : Content → Type 0) → ((kept : Content) → P kept) → IfSome h P
free None P p = tt
free (Some kept) P p = p kept

-- the row was added
pub was_logged : (before now : KeeperState) (room who words : List ℕ) → now.holds ≡ option_map (with_row room who words) before.holds
    → Gains before.answers now.answers (keeper.Log room who words true) → now.faults ≡ before.faults → now.spelled ≡ before.spelled
    → WasAsked before now (keeper.Log room who words true)
was_logged before now room who words kept told counted unspelled =
    record { right = free before.holds _ (λ kept. tt); kept = kept; told = told; counted = counted; unspelled = unspelled }

-- it wasn't, since the keeper failed
pub was_unlogged : (before now : KeeperState) (room who words : List ℕ) (why : KeepError) → why ≡ keep.Failed → now.holds ≡ before.holds
    → IsErrorNoted before.answers now.answers (keeper.Log room who words false) why → IsCaused before.faults now.faults why → now.spelled ≡ before.spelled
    → WasAsked before now (keeper.Log room who words false)
was_unlogged before now room who words why is kept told counted unspelled = record {
  right = free before.holds _ (λ kept. tt);
  kept = kept ∙ same_kept before.holds _ (λ kept. refl);
  told = subst (IsErrorNoted before.answers now.answers (keeper.Log room who words false)) is told;
  counted = subst (IsCaused before.faults now.faults) is counted;
  unspelled = unspelled;
}

-- the texts were given
pub was_recalled : (before now : KeeperState) (room : List ℕ) (most : ℕ) (texts : List (List ℕ))
    → IfSome before.holds (λ kept. texts ≡ recalled room most kept.rows) → now.holds ≡ before.holds
    → Gains before.answers now.answers (keeper.History room most (Some texts)) → now.faults ≡ before.faults
    → now.spelled ≡ before.spelled → WasAsked before now (keeper.History room most (Some texts))
was_recalled before now room most texts right kept told counted unspelled =
    record { right = right; kept = kept ∙ same_kept before.holds _ (λ kept. refl); told = told; counted = counted; unspelled = unspelled }

-- they weren't, since the keeper failed
pub was_unrecalled : (before now : KeeperState) (room : List ℕ) (most : ℕ) (why : KeepError) → why ≡ keep.Failed → now.holds ≡ before.holds
    → IsErrorNoted before.answers now.answers (keeper.History room most None) why → IsCaused before.faults now.faults why → now.spelled ≡ before.spelled
    → WasAsked before now (keeper.History room most None)
was_unrecalled before now room most why is kept told counted unspelled = record {
  right = free before.holds _ (λ kept. tt);
  kept = kept ∙ same_kept before.holds _ (λ kept. refl);
  told = subst (IsErrorNoted before.answers now.answers (keeper.History room most None)) is told;
  counted = subst (IsCaused before.faults now.faults) is counted;
  unspelled = unspelled;
}

-- one right answer, and what is kept after it
did_one : (h k : Option Content) (ask : Asked) → IfSome h (λ kept. IsAnswer kept ask) → k ≡ option_map (kept_after ask) h → KeeperDid h (ask ∷ []) k
did_one h k ask right e = subst (λ (o : Option Content). KeeperDid h (ask ∷ []) o) (sym e) (go h right)
  where
    go : (h : Option Content) → IfSome h (λ kept. IsAnswer kept ask) → KeeperDid h (ask ∷ []) (option_map (kept_after ask) h)
    go None p = tt
    go (Some kept) p = (p, refl)

-- the ask was the deed's
goes_asked : (before now : KeeperState) (r : List MachineEvent) (c j : ℕ) (d : Deed) (fates : List (ℕ × DeliveryOutcome)) (ask : Asked) → WasAsked before now ask
    → HasAnsweredDuring before now r (Carries c j d fates (Some ask) ∷ r)
goes_asked before now r c j d fates ask was = record {
  asks = ask ∷ [];
  are = refl;
  most = codecs_among (λ k. spoken_at k r) (map (λ f. f.0) fates);
  count = refl;
  goes = record {
    told = was.told;
    kept = did_one before.holds now.holds ask was.right was.kept;
    counted = (now.faults, was.counted, refl);
    spelled = omega (arith, was.unspelled);
  };
}

-- ---- the deed is carried out

-- the job is told this, if that may be, and nothing else changes
abbrev pub IsTold : {H Job : Type 0} → Hub Job → Machine H Job → Machine H Job → ℕ → ℕ → Input → Type 0
IsTold hub old new c j i = (a : MachineView) → AnswersAt (a.settings c) j i (a.moves c) → StandsFor hub old a → StandsFor hub new (moved c (Answers j i) a)

-- no member is told, no list changes, and the job is told what the keeper answered
carried_asking : {H Job : Type 0} (hub : Hub Job) (new old : Machine H Job) (before now : KeeperState) (r : List MachineEvent) (c j : ℕ) (d : Deed) (ask : Asked)
    → StandsMachine {H = H} hub old r → new.idle_set.clock ≡ old.idle_set.clock → owed r ≡ OwesDeed c j d → is_there c r ≡ true
    → IsAskedFor d (who_of (settings_of c r)) (Some ask)
    → fates_of d r ≡ [] → lists_after d c (registry r) ≡ registry r → is_deed_answer (answer_to c d (Some ask) r) ≡ true → WasAsked before now ask
    → IsTold {H = H} hub old new c j (answer_to c d (Some ask) r) → IsCarried {H = H} hub new before now r c j d
carried_asking {H} {Job} hub new old before now r c j d ask s clock owes there is_asked none same is_answer was told = record {
  asked = Some ask;
  is_asked = is_asked;
  stands = carried_quietly {H = H} {Job = Job} hub new old r c j d (Some ask) s clock owes there is_asked none
      (told (with_lists (lists_after d c (registry r)) (machine_view r)) (may_answer {H = H} {Job = Job} hub old r c j d (answer_to c d (Some ask) r) s owes is_answer)
      (record { at = s.at; index = s.index; registry = subst (λ l. StandsRegistry old.registry l) (sym same) s.registry }));
  goes = goes_asked before now r c j d (fates_of d r) ask was;
}

-- a line is logged, or the keeper fails in that
pub log_carried : {H Job : Type 0} (hub : Hub Job) (new old : Machine H Job) (before now : KeeperState) (r : List MachineEvent) (c j : ℕ) (room who words : List ℕ)
    (is_resumable : Bool) → StandsMachine {H = H} hub old r → new.idle_set.clock ≡ old.idle_set.clock → owed r ≡ OwesDeed c j (Log room words) → is_there c r ≡ true → who ≡ who_of (settings_of c r)
    → WasAsked before now (keeper.Log room who words is_resumable) → IsTold {H = H} hub old new c j (answer_to c (Log room words) (Some (keeper.Log room who words is_resumable)) r)
    → IsCarried {H = H} hub new before now r c j (Log room words)
log_carried {H} {Job} hub new old before now r c j room who words is_resumable s clock owes there named was told =
    carried_asking {H = H} {Job = Job} hub new old before now r c j (Log room words) (keeper.Log room who words is_resumable) s clock owes there
    (is_resumable, ap (λ w. Some (keeper.Log room w words is_resumable)) named) refl refl (answers is_resumable) was told
  where
    answers : (b : Bool) → is_deed_answer (answer_to c (Log room words) (Some (keeper.Log room who words b)) r) ≡ true
    answers true = refl
    answers false = refl

-- rows are given, or the keeper fails in that
pub history_carried : {H Job : Type 0} (hub : Hub Job) (new old : Machine H Job) (before now : KeeperState) (r : List MachineEvent) (c j : ℕ) (room : List ℕ)
    (most : ℕ) (texts : Option (List (List ℕ))) → StandsMachine {H = H} hub old r → new.idle_set.clock ≡ old.idle_set.clock → owed r ≡ OwesDeed c j (History room most) → is_there c r ≡ true
    → WasAsked before now (keeper.History room most texts) → IsTold {H = H} hub old new c j (answer_to c (History room most) (Some (keeper.History room most texts)) r)
    → IsCarried {H = H} hub new before now r c j (History room most)
history_carried {H} {Job} hub new old before now r c j room most texts s clock owes there was told =
    carried_asking {H = H} {Job = Job} hub new old before now r c j (History room most) (keeper.History room most texts) s clock owes there
    (texts, refl) refl refl (answers texts) was told
  where
    answers : (o : Option (List (List ℕ))) → is_deed_answer (answer_to c (History room most) (Some (keeper.History room most o)) r) ≡ true
    answers (Some texts) = refl
    answers None = refl
