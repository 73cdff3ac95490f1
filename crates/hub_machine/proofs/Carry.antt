-- A deed that is carried out, and what the machine stands for then.
use Rattle.std.proofs.Common.{◌≡◌, ℕ, suc, ◌+◌, ◌≤◌, ◌==◌, Bool, true, false, not, ◌&&◌, List, [], ◌∷◌, ◌++◌, map, Option, Some, None, is_some, option_map}
use Rattle.std.proofs.Common.{Result, Ok, Err, OnOk, refl, sym, ap, subst, ◌∙◌}
use Rattle.std.specs.Prelude.{if◌then◌else◌, filter, find, nat_le}
use Rattle.std.proofs.lemmas.Bool.{eqb-true, eq-eqb, cond-false, both_ways, false_from_ne_true, and_left, and_parts, not-true, or_left, or_right}
use Rattle.std.proofs.lemmas.List.{append-nil}
use Rattle.hv_value.specs.Tree.{Tree}
use Rattle.hv_value.specs.declared.value.Value.TheVariants as value
use Rattle.hd_calls.specs.declared.vocabulary.Deed.{Deed}
use Rattle.hd_calls.specs.declared.vocabulary.Deed.TheVariants.{Join, Leave, Post, Tell, Log, History}
use Rattle.hd_calls.specs.declared.vocabulary.Input.{Input}
use Rattle.hd_calls.specs.declared.vocabulary.Input.TheVariants as input
use Rattle.hd_calls.specs.declared.vocabulary.Act.{Act}
use Rattle.hd_calls.specs.declared.vocabulary.Act.TheVariants as act
use Rattle.hd_calls.specs.Hubs.{Hub}
use Rattle.hd_calls.specs.Peers.{PeerEvent, Answers, Runs, Settings}
use Rattle.hd_calls.specs.Rules.{IsPeer, is_deed_answer, settles}
use Rattle.hd_rooms.specs.declared.vocabulary.Asked.{Asked}
use Rattle.hd_rooms.specs.Kept.{Content, KeeperDid}
use Rattle.hd_rooms.specs.Registry.{Pair, Lists, may_join, members, with_member, without, without_pair}
use Rattle.hd_server.specs.Machine.{MachineEvent, Carries, Does, Rounds, DeliveryOutcome, Got, IsAskedFor, Owed, NothingOwed, OwesCall, OwesDeed, GoesOn, MayFollow}
use Rattle.hd_server.specs.Machine.{answer_to, fate_at, outcome_in, fates_among, fates_of, greatest, last_turn, turn_at}
use Rattle.hd_server.specs.Lives.{numbers_to}
use Rattle.hd_server.specs.Machine.{has_gone, is_open, is_open_at, is_there, joined, moves, of_open, owed, registry, settings_of, user_pairs, who_of}
use Rattle.hd_server.specs.Machine.{with_fate}
use Rattle.hg_groups.specs.declared.registry.Registry.{Registry}
use Rattle.hg_groups.specs.Standing.{StandsRegistry}
use Rattle.hub_machine.specs.declared.machine.Machine.{Machine}
use Rattle.hub_machine.specs.declared.idle_set.IdleClock.{IdleClock}
use Rattle.hub_machine.specs.Machines.{IsKeptAs, IsStranger, SaysAsSent, StandsMachine, idle_peer_at, peer_at, settings_there}
use Rattle.hub_machine.specs.MachineView.{MachineView, AreSame, AreUp, StandsFor, machine_view, fates_in, is_up_in, lists_after, moved, told, with_lists, without_slow}
use Rattle.hub_machine.specs.KeeperState.{KeeperState, HasAnsweredDuring, asks_in, keeper_state, spoken_at}
use Rattle.hub_machine.specs.Rounds.{AtDeed, IsCarried}
use Rattle.hub_machine.specs.Carrying.{AnswersAt}
use Rattle.hub_machine.specs.Spreads.{codecs_among, is_listed}
use Rattle.hub_machine.proofs.Open.{filter_goes, filter_stays}
use Rattle.hub_machine.proofs.Doing.{index_stays}
use Rattle.hub_machine.proofs.Lags.{kept_is_peer, kept_says}
use Rattle.hub_machine.proofs.Same.{same_stands}
use Rattle.hub_machine.proofs.CarryLists.{among, among_agree, eqb_swap, fate_found, fates_by, is_slow, kept, kept_member, kept_without, lists_of, lists_same, may_kept}
use Rattle.hub_machine.proofs.CarryLists.{members_pass, slow_among, slow_found, slow_leave}
use Rattle.hub_machine.proofs.CarryMoves.{handed_up, may_answer_at, open_answered, open_by_fate, still_answers, unclosed_at, untold}

-- ---- the connection whose job handed it up

-- it was begun so, and hasn't gone
pub record IsHere (c : ℕ) (r : List MachineEvent) : Type 0 where
  pub settings : Settings
  pub begun : settings_of c r ≡ Some settings
  pub stays : has_gone c r ≡ false

pub here : (c : ℕ) (r : List MachineEvent) → is_there c r ≡ true → IsHere c r
here c r e = go (settings_of c r) refl
  where
    parts : (is_some (settings_of c r) ≡ true) × (not (has_gone c r) ≡ true)
    parts = and_parts (is_some (settings_of c r)) (not (has_gone c r)) e

    go : (o : Option Settings) → settings_of c r ≡ o → IsHere c r
    go None f = absurd (both_ways (is_some (settings_of c r)) (ap is_some f) parts.0)
    go (Some t) f = record { settings = t; begun = f; stays = not-true (has_gone c r) parts.1 }

-- its end isn't closed
pub open_here : {H Job : Type 0} (hub : Hub Job) (m : Machine H Job) (r : List MachineEvent) (c j : ℕ) (d : Deed) → StandsMachine {H = H} hub m r
    → owed r ≡ OwesDeed c j d → is_there c r ≡ true → is_open c r ≡ true
open_here hub m r c j d s e there =
    let at = here c r there in
    ap (λ b. not b && is_open_at (settings_of c r) (moves c r)) at.stays ∙ ap (λ o. is_open_at o (moves c r)) at.begun
    ∙ ap not (unclosed_at hub at.settings j d (moves c r) (handed_up r c j d e) (s.peers c at.settings at.begun))

-- its job may be answered
pub may_answer : {H Job : Type 0} (hub : Hub Job) (m : Machine H Job) (r : List MachineEvent) (c j : ℕ) (d : Deed) (i : Input) → StandsMachine {H = H} hub m r
    → owed r ≡ OwesDeed c j d → is_deed_answer i ≡ true → AnswersAt (settings_there c r) j i (moves c r)
may_answer hub m r c j d i s e f = gone (has_gone c r)
  where
    begun : (o : Option Settings) → settings_of c r ≡ o → AnswersAt o j i (moves c r)
    begun None g = tt
    begun (Some t) g = may_answer_at hub t j d (moves c r) i (handed_up r c j d e) (s.peers c t g) f

    gone : (b : Bool) → AnswersAt (if b then None else settings_of c r) j i (moves c r)
    gone true = tt
    gone false = begun (settings_of c r) refl

-- also once it was told
pub may_answer_told : {H Job : Type 0} (hub : Hub Job) (m : Machine H Job) (r : List MachineEvent) (c j : ℕ) (d : Deed) (i : Input)
    (fates : List (ℕ × DeliveryOutcome)) (b : MachineView) → StandsMachine {H = H} hub m r → owed r ≡ OwesDeed c j d → is_deed_answer i ≡ true
    → AreSame (told d fates (machine_view r)) b
    → AnswersAt (b.settings c) j i (b.moves c)
may_answer_told {H} hub m r c j d i fates b s e f same =
    subst (λ o. AnswersAt o j i (b.moves c)) (same.settings c)
    (subst (λ l. AnswersAt (settings_there c r) j i l) (same.moves c)
    (still_answers (settings_there c r) d j i (outcome_in c fates) (moves c r) (may_answer {H = H} hub m r c j d i s e f)))

-- ---- what becomes of the members

-- each is open, and what becomes of it depends on it alone
pub record AreFates (r : List MachineEvent) (fates : List (ℕ × DeliveryOutcome)) : Type 0 where
  pub fate : ℕ → DeliveryOutcome
  pub to : List ℕ
  pub are : fates ≡ fates_by fate to
  pub open_to : (k : ℕ) → is_listed k to ≡ true → is_open k r ≡ true

nobody : (r : List MachineEvent) → AreFates r []
nobody r = record { fate = λ k. Got; to = []; are = refl; open_to = λ k e. absurd (both_ways false refl e) }

pub are_fates : (d : Deed) (r : List MachineEvent) → AreFates r (fates_of d r)
are_fates (Join group) r = nobody r
are_fates (Leave group) r = nobody r
are_fates (Post group target arguments) r = record {
  fate = λ k. fate_at (settings_of k r) (moves k r) target arguments;
  to = members group (registry r).groups;
  are = refl;
  open_to = members_pass (λ k. is_open k r) group (joined r);
}
are_fates (Tell user target arguments) r = record {
  fate = λ k. fate_at (settings_of k r) (moves k r) target arguments;
  to = members user (registry r).users;
  are = refl;
  open_to = members_pass (λ k. is_open k r) user (user_pairs r);
}
are_fates (Log room text) r = nobody r
are_fates (History room most) r = nobody r

-- one that has gone isn't among them
gone_untold : (r : List MachineEvent) (fates : List (ℕ × DeliveryOutcome)) → AreFates r fates → (k : ℕ) → has_gone k r ≡ true → outcome_in k fates ≡ None
gone_untold r fates f k g =
    ap (outcome_in k) f.are ∙ fate_found f.fate f.to k
    ∙ cond-false (is_listed k f.to) (Some (f.fate k)) None (false_from_ne_true (is_listed k f.to) (λ l.
    both_ways (is_open k r) (and_left (not (has_gone k r)) (is_open_at (settings_of k r) (moves k r)) (ap not g)) (f.open_to k l)))

-- ---- the moves of each

pub moves_carried : (r : List MachineEvent) (c j : ℕ) (d : Deed) (fates : List (ℕ × DeliveryOutcome)) (asked : Option Asked) (l : Lists) → AreFates r fates → (k : ℕ)
    → (moved c (Answers j (answer_to c d asked r)) (told d fates (with_lists l (machine_view r)))).moves k ≡ moves k (Carries c j d fates asked ∷ r)
moves_carried r c j d fates asked l f k = ap (λ (h : List PeerEvent). if c == k then Answers j (answer_to c d asked r) ∷ h else h) (go (has_gone k r) refl)
    ∙ ap (λ b. if b then Answers j (answer_to c d asked r) ∷ with_fate d (settings_of k r) (outcome_in k fates) (moves k r)
    else with_fate d (settings_of k r) (outcome_in k fates) (moves k r)) (eqb_swap c k)
  where
    go : (b : Bool) → has_gone k r ≡ b
        → with_fate d (settings_there k r) (outcome_in k fates) (moves k r) ≡ with_fate d (settings_of k r) (outcome_in k fates) (moves k r)
    go true g =
        let none : outcome_in k fates ≡ None = gone_untold r fates f k g in
        ap (λ x. with_fate d (settings_there k r) x (moves k r)) none ∙ untold d (settings_there k r) (moves k r)
        ∙ sym (untold d (settings_of k r) (moves k r)) ∙ ap (λ x. with_fate d (settings_of k r) x (moves k r)) (sym none)
    go false g = ap (λ o. with_fate d o (outcome_in k fates) (moves k r)) (cond-false (has_gone k r) None (settings_of k r) g)

-- ---- who is open

three : (a b c : Bool) → (a && (b && c)) ≡ ((a && b) && c)
three true b c = refl
three false b c = refl

-- all but those that were too slow
open_carried : (r : List MachineEvent) (c j : ℕ) (d : Deed) (fates : List (ℕ × DeliveryOutcome)) (asked : Option Asked) (k : ℕ)
    → is_open k (Carries c j d fates asked ∷ r) ≡ (is_open k r && not (is_slow (outcome_in k fates)))
open_carried r c j d fates asked k =
    ap (λ b. not (has_gone k r) && b)
    (open_answered (settings_of k r) (k == c) j (answer_to c d asked r) (with_fate d (settings_of k r) (outcome_in k fates) (moves k r))
    ∙ open_by_fate d (settings_of k r) (outcome_in k fates) (moves k r))
    ∙ three (not (has_gone k r)) (is_open_at (settings_of k r) (moves k r)) (not (is_slow (outcome_in k fates)))

-- ---- who is in which group

lists_carried : (r : List MachineEvent) (c j : ℕ) (d : Deed) (fates : List (ℕ × DeliveryOutcome)) (asked : Option Asked) → is_open c r ≡ true
    → among (λ k. is_open k r) (lists_of (joined (Carries c j d fates asked ∷ r)) (user_pairs r)) ≡ lists_after d c (registry r)
lists_carried r c j (Join group) fates asked e =
    lists_same (kept (λ k. is_open k r) (with_member (group, c) (joined r))) (with_member (group, c) (kept (λ k. is_open k r) (joined r)))
    (registry r).users (registry r).users (kept_member (λ k. is_open k r) (group, c) (joined r) e) refl
lists_carried r c j (Leave group) fates asked e =
    lists_same (kept (λ k. is_open k r) (without_pair (group, c) (joined r))) (without_pair (group, c) (kept (λ k. is_open k r) (joined r)))
    (registry r).users (registry r).users (kept_without (λ k. is_open k r) (group, c) (joined r)) refl
lists_carried r c j (Post group target arguments) fates asked e = refl
lists_carried r c j (Tell user target arguments) fates asked e = refl
lists_carried r c j (Log room text) fates asked e = refl
lists_carried r c j (History room most) fates asked e = refl

registry_carried : (r : List MachineEvent) (c j : ℕ) (d : Deed) (fates : List (ℕ × DeliveryOutcome)) (asked : Option Asked) → AreFates r fates → is_open c r ≡ true
    → registry (Carries c j d fates asked ∷ r) ≡ without_slow fates (lists_after d c (registry r))
registry_carried r c j d fates asked f e =
    among_agree (λ k. is_open k (Carries c j d fates asked ∷ r)) (λ k. is_open k r && not (slow_among k fates))
    (lists_of (joined (Carries c j d fates asked ∷ r)) (user_pairs r))
    (λ k. open_carried r c j d fates asked k ∙ ap (λ b. is_open k r && not b) (slow_at k))
    ∙ sym (slow_leave fates (λ k. is_open k r) (lists_of (joined (Carries c j d fates asked ∷ r)) (user_pairs r)))
    ∙ ap (without_slow fates) (lists_carried r c j d fates asked e)
  where
    slow_at : (k : ℕ) → is_slow (outcome_in k fates) ≡ slow_among k fates
    slow_at k = ap (λ fs. is_slow (outcome_in k fs)) f.are ∙ sym (slow_found f.fate f.to k) ∙ ap (slow_among k) (sym f.are)

-- ---- all that is remembered

pub same_affairs : (r : List MachineEvent) (c j : ℕ) (d : Deed) (asked : Option Asked) → is_open c r ≡ true
    → AreSame (moved c (Answers j (answer_to c d asked r)) (told d (fates_of d r) (with_lists (lists_after d c (registry r)) (machine_view r))))
    (machine_view (Carries c j d (fates_of d r) asked ∷ r))
same_affairs r c j d asked e = record {
  settings = λ k. refl;
  moves = moves_carried r c j d (fates_of d r) asked (lists_after d c (registry r)) (are_fates d r);
  lists = sym (registry_carried r c j d (fates_of d r) asked (are_fates d r) e);
}

-- ---- what peers and strangers did

-- the connection is another
apart_from : (r : List MachineEvent) (c k : ℕ) → IsHere c r → settings_of k r ≡ None → (k == c) ≡ false
apart_from r c k at e = false_from_ne_true (k == c) (λ f.
    absurd (let z : ◌≡◌ {A = Option Settings} None (Some at.settings) = sym e ∙ ap (λ n. settings_of n r) (eqb-true k c f) ∙ at.begun in cc))

unjoined : (r : List MachineEvent) (c j k : ℕ) (d : Deed) (fates : List (ℕ × DeliveryOutcome)) (asked : Option Asked) → (k == c) ≡ false → without k (joined r) ≡ joined r
    → without k (joined (Carries c j d fates asked ∷ r)) ≡ joined (Carries c j d fates asked ∷ r)
unjoined r c j k (Join group) fates asked e f = kept_member (λ n. not (k == n)) (group, c) (joined r) (ap not e) ∙ ap (with_member (group, c)) f
unjoined r c j k (Leave group) fates asked e f = kept_without (λ n. not (k == n)) (group, c) (joined r) ∙ ap (without_pair (group, c)) f
unjoined r c j k (Post group target arguments) fates asked e f = f
unjoined r c j k (Tell user target arguments) fates asked e f = f
unjoined r c j k (Log room text) fates asked e f = f
unjoined r c j k (History room most) fates asked e f = f

still_strange : (r : List MachineEvent) (c j k : ℕ) (d : Deed) (fates : List (ℕ × DeliveryOutcome)) (asked : Option Asked) → IsHere c r → settings_of k r ≡ None
    → IsStranger k r → IsStranger k (Carries c j d fates asked ∷ r)
still_strange r c j k d fates asked at e s =
    let other : (k == c) ≡ false = apart_from r c k at e in
    record {
      unknown = s.unknown;
      unmoved = cond-false (k == c) (Answers j (answer_to c d asked r) ∷ with_fate d (settings_of k r) (outcome_in k fates) (moves k r))
          (with_fate d (settings_of k r) (outcome_in k fates) (moves k r)) other
          ∙ ap (λ o. with_fate d o (outcome_in k fates) (moves k r)) e ∙ s.unmoved;
      in_no_group = unjoined r c j k d fates asked other s.in_no_group;
    }

-- what one that has gone did is what it did
gone_unmoved : (r : List MachineEvent) (c j k : ℕ) (d : Deed) (fates : List (ℕ × DeliveryOutcome)) (asked : Option Asked) → IsHere c r → AreFates r fates
    → has_gone k r ≡ true → moves k (Carries c j d fates asked ∷ r) ≡ moves k r
gone_unmoved r c j k d fates asked at f g =
    cond-false (k == c) (Answers j (answer_to c d asked r) ∷ with_fate d (settings_of k r) (outcome_in k fates) (moves k r))
    (with_fate d (settings_of k r) (outcome_in k fates) (moves k r))
    (false_from_ne_true (k == c) (λ e. both_ways (has_gone c r) at.stays (ap (λ n. has_gone n r) (sym (eqb-true k c e)) ∙ g)))
    ∙ ap (λ o. with_fate d (settings_of k r) o (moves k r)) (gone_untold r fates f k g) ∙ untold d (settings_of k r) (moves k r)

-- ---- the machine

-- it stands for what its happenings say of each connection
pub stands_for : {H Job : Type 0} (hub : Hub Job) (m : Machine H Job) (r : List MachineEvent) → StandsMachine {H = H} hub m r
    → StandsFor {H = H} hub m (machine_view r)
stands_for hub m r s = record { at = s.at; index = s.index; registry = s.registry }

-- also with another registry, and what that stands for
pub stands_listed : {H Job : Type 0} (hub : Hub Job) (m : Machine H Job) (r : List MachineEvent) (x : Registry) (l : Lists) → StandsMachine {H = H} hub m r
    → StandsRegistry x l → StandsFor {H = H} hub (record m { registry = x }) (with_lists l (machine_view r))
stands_listed {H} {Job} hub m r x l s lists = record {
  at = s.at;
  index = index_stays {H = H} {Job = Job} m (record m { registry = x }) (record { idle_set = refl; count = refl; there = λ k. refl }) s.index;
  registry = lists;
}

-- it stands for what it did for others, and for what its peers and its registry are now
pub stands_carried : {H Job : Type 0} (hub : Hub Job) (new old : Machine H Job) (r : List MachineEvent) (c j : ℕ) (d : Deed) (fates : List (ℕ × DeliveryOutcome))
    (asked : Option Asked) → StandsMachine {H = H} hub old r → new.idle_set.clock ≡ old.idle_set.clock → IsHere c r → AreFates r fates
    → StandsFor {H = H} hub new (machine_view (Carries c j d fates asked ∷ r)) → StandsMachine {H = H} hub new (Carries c j d fates asked ∷ r)
stands_carried {H} {Job} hub new old r c j d fates asked s clock at f stands = record {
  at = stands.at;
  index = stands.index;
  rounds = ap (λ (k : IdleClock). k.rounds) clock ∙ s.rounds;
  registry = stands.registry;
  peers = λ k t e. each k t e (has_gone k r) refl;
  said = λ k t e. says k t e (has_gone k r) refl;
  strangers = λ k e. still_strange r c j k d fates asked at e (s.strangers k e);
  from_one = s.from_one;
}
  where
    each : (k : ℕ) (t : Settings) → settings_of k r ≡ Some t → (b : Bool) → has_gone k r ≡ b → IsPeer hub t (moves k (Carries c j d fates asked ∷ r))
    each k t e true g = subst (λ h. IsPeer hub t h) (sym (gone_unmoved r c j k d fates asked at f g)) (s.peers k t e)
    each k t e false g = kept_is_peer {H = H} {Job = Job} hub new.idle_set.clock (idle_peer_at new k) t (moves k (Carries c j d fates asked ∷ r)) (peer_at new k)
        (subst (λ o. IsKeptAs {H = H} hub new.idle_set.clock (idle_peer_at new k) o (moves k (Carries c j d fates asked ∷ r)) (peer_at new k))
        (cond-false (has_gone k r) None (settings_of k r) g ∙ e) (stands.at k))

    says : (k : ℕ) (t : Settings) → settings_of k r ≡ Some t → (b : Bool) → has_gone k r ≡ b → SaysAsSent t (moves k (Carries c j d fates asked ∷ r))
    says k t e true g = subst (λ h. SaysAsSent t h) (sym (gone_unmoved r c j k d fates asked at f g)) (s.said k t e)
    says k t e false g = kept_says {H = H} {Job = Job} hub new.idle_set.clock (idle_peer_at new k) t (moves k (Carries c j d fates asked ∷ r)) (peer_at new k)
        (subst (λ o. IsKeptAs {H = H} hub new.idle_set.clock (idle_peer_at new k) o (moves k (Carries c j d fates asked ∷ r)) (peer_at new k))
        (cond-false (has_gone k r) None (settings_of k r) g ∙ e) (stands.at k))

same_back : (a b : MachineView) → AreSame a b → AreSame b a
same_back a b e = record { settings = λ c. sym (e.settings c); moves = λ c. sym (e.moves c); lists = sym e.lists }

-- members were told, and the job is answered
pub carried_stands : {H Job : Type 0} (hub : Hub Job) (new old : Machine H Job) (r : List MachineEvent) (c j : ℕ) (d : Deed) (asked : Option Asked)
    → StandsMachine {H = H} hub old r → new.idle_set.clock ≡ old.idle_set.clock → owed r ≡ OwesDeed c j d → is_there c r ≡ true
    → IsAskedFor d (who_of (settings_of c r)) asked → (b : MachineView)
    → AreSame (moved c (Answers j (answer_to c d asked r)) (told d (fates_of d r) (with_lists (lists_after d c (registry r)) (machine_view r)))) b
    → StandsFor {H = H} hub new b → StandsMachine {H = H} hub new (Carries c j d (fates_of d r) asked ∷ r)
carried_stands {H} {Job} hub new old r c j d asked s clock e there is_asked b same stands =
    let all : MachineView = moved c (Answers j (answer_to c d asked r)) (told d (fates_of d r) (with_lists (lists_after d c (registry r)) (machine_view r))) in
    stands_carried {H = H} {Job = Job} hub new old r c j d (fates_of d r) asked s clock (here c r there) (are_fates d r)
    (same_stands {H = H} {Job = Job} hub new all (machine_view (Carries c j d (fates_of d r) asked ∷ r))
    (same_affairs r c j d asked (open_here {H = H} {Job = Job} hub old r c j d s e there))
    (same_stands {H = H} {Job = Job} hub new b all (same_back all b same) stands))

-- ---- where nobody is told

pub told_nobody : (d : Deed) (a : MachineView) → AreSame (told d [] a) a
told_nobody d a = record { settings = λ k. refl; moves = λ k. untold d (a.settings k) (a.moves k); lists = refl }

pub moved_same : (c : ℕ) (m : PeerEvent) (a b : MachineView) → AreSame a b → AreSame (moved c m a) (moved c m b)
moved_same c m a b e = record {
  settings = e.settings;
  moves = λ k. ap (λ (h : List PeerEvent). if c == k then m ∷ h else h) (e.moves k);
  lists = e.lists;
}

pub carried_quietly : {H Job : Type 0} (hub : Hub Job) (new old : Machine H Job) (r : List MachineEvent) (c j : ℕ) (d : Deed) (asked : Option Asked)
    → StandsMachine {H = H} hub old r → new.idle_set.clock ≡ old.idle_set.clock → owed r ≡ OwesDeed c j d → is_there c r ≡ true
    → IsAskedFor d (who_of (settings_of c r)) asked → fates_of d r ≡ []
    → StandsFor {H = H} hub new (moved c (Answers j (answer_to c d asked r)) (with_lists (lists_after d c (registry r)) (machine_view r)))
    → StandsMachine {H = H} hub new (Carries c j d (fates_of d r) asked ∷ r)
carried_quietly {H} {Job} hub new old r c j d asked s clock e there is_asked none stands =
    let a : MachineView = with_lists (lists_after d c (registry r)) (machine_view r) in
    let m : PeerEvent = Answers j (answer_to c d asked r) in
    carried_stands {H = H} {Job = Job} hub new old r c j d asked s clock e there is_asked (moved c m a)
    (moved_same c m (told d (fates_of d r) a) a (subst (λ fs. AreSame (told d fs a) a) (sym none) (told_nobody d a))) stands

-- whether an open connection may join is read off its registry, and so is what its job is told
pub join_answer : (r : List MachineEvent) (c : ℕ) (group : List ℕ) (may : Bool) → is_open c r ≡ true → may ≡ may_join (group, c) (registry r).groups
    → answer_to c (Join group) None r ≡ (if may then input.Done value.Null else input.Failed)
join_answer r c group may e is =
    ap (λ b. if b then input.Done value.Null else input.Failed) (sym (is ∙ may_kept (λ k. is_open k r) (group, c) (joined r) e))

-- ---- members that are told

pub are_up : (a : MachineView) (cs : List ℕ) → ((k : ℕ) → is_listed k cs ≡ true → is_up_in a k ≡ true) → AreUp a cs
are_up a [] f = tt
are_up a (c ∷ cs) f = (f c (or_left (c == c) (is_listed c cs) (eq-eqb c c refl)), are_up a cs (λ k e. f k (or_right (k == c) (is_listed k cs) e)))

open_is_up : (r : List MachineEvent) (k : ℕ) → is_open k r ≡ true → is_up_in (machine_view r) k ≡ true
open_is_up r k e =
    let parts = and_parts (not (has_gone k r)) (is_open_at (settings_of k r) (moves k r)) e in
    ap (λ b. is_open_at (if b then None else settings_of k r) (moves k r)) (not-true (has_gone k r) parts.0) ∙ parts.1

pub members_up : (r : List MachineEvent) (name : List ℕ) (pairs : List Pair) → AreUp (machine_view r) (members name (of_open r pairs))
members_up r name pairs = are_up (machine_view r) (members name (of_open r pairs)) (λ k e. open_is_up r k (members_pass (λ n. is_open n r) name pairs k e))

pub up_settings : (r : List MachineEvent) (k : ℕ) → is_up_in (machine_view r) k ≡ true → settings_there k r ≡ settings_of k r
up_settings r k e = go (has_gone k r) refl
  where
    go : (b : Bool) → has_gone k r ≡ b → settings_there k r ≡ settings_of k r
    go true g = absurd (both_ways false refl (ap (λ b. is_open_at (if b then None else settings_of k r) (moves k r)) (sym g) ∙ e))
    go false g = cond-false (has_gone k r) None (settings_of k r) g

pub fates_in_are : (r : List MachineEvent) (cs : List ℕ) (target : List ℕ) (arguments : List Tree) → AreUp (machine_view r) cs
    → fates_in (machine_view r) cs target arguments ≡ fates_among cs target arguments r
fates_in_are r [] target arguments u = refl
fates_in_are r (c ∷ cs) target arguments u =
    ap (λ o. (c, fate_at o (moves c r) target arguments) ∷ fates_in (machine_view r) cs target arguments) (up_settings r c u.0)
    ∙ ap (λ fs. (c, fate_at (settings_of c r) (moves c r) target arguments) ∷ fs) (fates_in_are r cs target arguments u.1)

-- a deed that tells members, and changes no group
pub carried_telling : {H Job : Type 0} (hub : Hub Job) (new old : Machine H Job) (r : List MachineEvent) (c j : ℕ) (d : Deed)
    (fates : List (ℕ × DeliveryOutcome)) (b : MachineView) → StandsMachine {H = H} hub old r → new.idle_set.clock ≡ old.idle_set.clock
    → owed r ≡ OwesDeed c j d → is_there c r ≡ true
    → IsAskedFor d (who_of (settings_of c r)) None
    → lists_after d c (registry r) ≡ registry r → AreSame (told d fates (machine_view r)) b → fates ≡ fates_of d r
    → StandsFor {H = H} hub new (moved c (Answers j (answer_to c d None r)) b) → StandsMachine {H = H} hub new (Carries c j d (fates_of d r) None ∷ r)
carried_telling {H} {Job} hub new old r c j d fates b s clock e there is_asked lists same are stands =
    carried_stands {H = H} {Job = Job} hub new old r c j d None s clock e there is_asked (moved c (Answers j (answer_to c d None r)) b)
    (moved_same c (Answers j (answer_to c d None r)) (told d (fates_of d r) (with_lists (lists_after d c (registry r)) (machine_view r))) b
    (subst (λ l. AreSame (told d (fates_of d r) (with_lists l (machine_view r))) b) (sym lists)
    (subst (λ fs. AreSame (told d fs (machine_view r)) b) are same))) stands

-- ---- what is outside

kept_none : (holds : Option Content) → KeeperDid holds [] holds
kept_none None = tt
kept_none (Some content) = refl

told_none : (answers : Option (List Asked)) → answers ≡ option_map (λ (known : List Asked). known ++ []) answers
told_none None = refl
told_none (Some known) = ap Some (sym (append-nil known))

-- the keeper isn't asked, and no more is spelled than once for each codec among the members
pub goes_alone : (holds : Option Content) (answers : Option (List Asked)) (faults before now : ℕ) (r : List MachineEvent) (c j : ℕ) (d : Deed)
    (fates : List (ℕ × DeliveryOutcome)) → now ≤ before + codecs_among (λ k. spoken_at k r) (map (λ f. f.0) fates)
    → HasAnsweredDuring (keeper_state holds answers faults before) (keeper_state holds answers faults now) r (Carries c j d fates None ∷ r)
goes_alone holds answers faults before now r c j d fates e = record {
  asks = [];
  are = sym (append-nil (asks_in r));
  most = codecs_among (λ k. spoken_at k r) (map (λ f. f.0) fates);
  count = refl;
  goes = record { told = told_none answers; kept = kept_none holds; counted = refl; spelled = e };
}

-- ---- a deed by its name

-- if the machine owed the deed at a connection that was there, the deed is carried out
abbrev pub CarriesOut : {H Job : Type 0} → Hub Job → Machine H Job → Machine H Job → KeeperState → KeeperState → ℕ → ℕ → Deed → Type 0
CarriesOut {H} hub old new before now conn job d =
    (r : List MachineEvent) (j : ℕ) → job ≡ suc j → owed r ≡ OwesDeed conn j d → is_there conn r ≡ true → StandsMachine {H = H} hub old r
    → IsCarried {H = H} hub new before now r conn j d

pub named_so : {H Job : Type 0} (hub : Hub Job) (old new : Machine H Job) (before now : KeeperState) (conn job : ℕ) (d e : Deed) → d ≡ e
    → CarriesOut {H = H} hub old new before now conn job e → CarriesOut {H = H} hub old new before now conn job d
named_so {H} hub old new before now conn job d e is f = subst (λ x. CarriesOut {H = H} hub old new before now conn job x) (sym is) f

pub on_ok : {T E P Q : Type 0} (result : Result T E) → OnOk result P → (P → Q) → OnOk result Q
on_ok (Ok v) p f = f p
on_ok (Err e) p f = tt

-- ---- the turn was the round's next

find_kept : (p q : ℕ → Bool) (xs : List ℕ) (c : ℕ) → find p (filter q xs) ≡ Some c → q c ≡ true
find_kept p q [] c e = absurd (cc)
find_kept p q (x ∷ xs) c e = go (q x) refl (find_kept p q xs c)
  where
    found : q x ≡ true → (find p (filter q xs) ≡ Some c → q c ≡ true) → (b : Bool) → (if b then Some x else find p (filter q xs)) ≡ Some c → q c ≡ true
    found f ih true g = let is : x ≡ c = cc in ap q (sym is) ∙ f
    found f ih false g = ih g

    go : (b : Bool) → q x ≡ b → (find p (filter q xs) ≡ Some c → q c ≡ true) → q c ≡ true
    go true f ih = found f ih (p x) (ap (find p) (sym (filter_stays q x xs f)) ∙ e)
    go false f ih = ih (ap (find p) (sym (filter_goes q x xs f)) ∙ e)

no_turn : (h : List MachineEvent) (k i c j : ℕ) (m : PeerEvent) (d : Deed) → settles m ≡ Some i → owed (Does k m ∷ h) ≡ OwesDeed c j d → ⊥
no_turn h k i c j (Runs n call since turn what) d e f = absurd (let z : ◌≡◌ {A = Option ℕ} None (Some i) = e in cc)
no_turn h k i c j m d e f = absurd (cc)

follows_there : (now : ℕ) (o : Owed) (h : List MachineEvent) (x : MachineEvent) (c j : ℕ) (d : Deed) → MayFollow now o h x → owed (x ∷ h) ≡ OwesDeed c j d
    → is_there c (x ∷ h) ≡ true
follows_there now (OwesDeed k i y) h x c j d f e =
    absurd (let z : NothingOwed ≡ OwesDeed c j d = ap (λ v. owed (v ∷ h)) (sym f.2) ∙ e in cc)
follows_there now (OwesCall k i) h x c j d f e = absurd (no_turn h k i c j f.0 d f.1 (ap (λ v. owed (v ∷ h)) (sym f.2) ∙ e))
follows_there now NothingOwed h x c j d (k, i, call, since, turn, what, f, at, is_at, is) e =
    let ran : owed (Does k (Runs i call since turn what) ∷ h) ≡ OwesDeed c j d = ap (λ v. owed (v ∷ h)) (sym is) ∙ e in
    let same : k ≡ c = same_turn what ran in
    ap (λ v. is_there c (v ∷ h)) is ∙ ap (λ n. is_there n h) (sym same)
    ∙ find_kept (λ n. nat_le (last_turn h) n && is_some (turn_at n h)) (λ n. is_there n h) (numbers_to (greatest h)) k f
  where
    same_turn : (y : Act) → owed (Does k (Runs i call since turn y) ∷ h) ≡ OwesDeed c j d → k ≡ c
    same_turn (act.Do y) g = cc
    same_turn y g = absurd (cc)

-- so the connection is there
pub deed_is_there : (now : ℕ) (w r : List MachineEvent) (c j : ℕ) (d : Deed) → AtDeed now w r c j d → is_there c r ≡ true
deed_is_there now w r c j d at = ap (is_there c) at.of_round.are ∙ go at.of_round.since at.of_round.each (ap owed (sym at.of_round.are) ∙ at.owes)
  where
    go : (xs : List MachineEvent) → GoesOn now xs (Rounds now ∷ w) → owed (xs ++ Rounds now ∷ w) ≡ OwesDeed c j d → is_there c (xs ++ Rounds now ∷ w) ≡ true
    go [] g e = absurd (cc)
    go (x ∷ xs) g e = follows_there now (owed (xs ++ Rounds now ∷ w)) (xs ++ Rounds now ∷ w) x c j d g.1 e
