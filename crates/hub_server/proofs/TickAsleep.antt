-- Those that sleep tick all at once, before those that are awake: a server tells nothing else than if all had ticked in order.
use Rattle.std.proofs.Common.{◌≡◌, ◌≤◌, ℕ, ◌==◌, Bool, true, false, not, ◌&&◌, ◌||◌, List, [], ◌∷◌, ◌++◌, Option, Some, None, is_some, filter}
use Rattle.std.proofs.Common.{refl, sym, ap, subst, ◌∙◌, arith, true≢false}
use Rattle.std.specs.Prelude.{if◌then◌else◌}
use Rattle.std.specs.List.{flat_map}
use Rattle.std.proofs.lemmas.Bool.{both_ways, eqb-true, false_from_ne_true}
use Rattle.hd_delivery.specs.Histories as of
use Rattle.hd_delivery.specs.Histories.{Ticked, is_silence, present_link}
use Rattle.hd_delivery.specs.Bytes.{Does as Step_of}
use Rattle.hd_calls.specs.Hubs.{Hub}
use Rattle.hd_calls.specs.Peers.{PeerEvent, Plain, Settings, steps}
use Rattle.hd_server.specs.declared.vocabulary.Said.{Said}
use Rattle.hd_server.specs.Lives.{numbers_to, socket_of}
use Rattle.hd_server.specs.Machine.{MachineEvent, Does, greatest, has_gone, is_there, moves, settings_of}
use Rattle.hd_server.specs.Doings.{ServerEvent, Works, config_of, has_peer, history, moment, notes, peer, work}
use Rattle.hd_server.specs.Plans.{Setup, onto, step}
use Rattle.hd_server.specs.Serves.{silenced, ticking, ticks}
use Rattle.hub_machine.specs.declared.machine.Machine.{Machine}
use Rattle.hub_server.specs.declared.server.Server.{Server}
use Rattle.hub_machine.specs.declared.idle_set.IdlePeer.{IdlePeer}
use Rattle.hub_machine.specs.Laws.{ConnectionsAreNumbered}
use Rattle.hub_machine.specs.Machines.{IsDeadlineOf, StandsMachine, is_awake_at, idle_peer_at, peer_at}
use Rattle.hub_server.specs.Lanes.{Unsettled}
use Rattle.hub_machine.specs.Rounds.{AreNumbers, AreRising}
use Rattle.hub_server.specs.Servers.{IsOrderly, Standing}
use Rattle.hub_machine.specs.IdleSet.{deadline_in}
use Rattle.hub_machine.specs.Sleeping.{AreTimely, HasPassed, NoneRings}
use Rattle.hub_machine.specs.Spreads.{is_listed}
use Rattle.hd_server.specs.Parts.{Each, IsOfAny, IsTick}
use Rattle.hd_server.specs.Laws.{PartsOfTurns}
use Rattle.hub_server.proofs.Agree.{Agree, SameButMoves, agree_onto, agree_past, agree_refl, agree_trans}
use Rattle.hub_server.proofs.Agree.{same_alike, same_but_moves_refl, same_but_moves_trans, standing_same}
use Rattle.hub_server.proofs.Alike.{Alike, alike_does, orderly_alike}
use Rattle.hub_server.proofs.Asleep.{IsAsleep, asleep, awake_are}
use Rattle.hub_server.proofs.Calm.{orderly_ticked}
use Rattle.hub_server.proofs.Conns.{first_is_listed, here_by_peer, later_listed, listed_filter, not_first, rising_rest, rising_to, there_if, there_within}
use Rattle.hub_server.proofs.LaneKept.{same_lane_works}
use Rattle.hub_server.proofs.OntoAlike.{onto_append}
use Rattle.hub_server.proofs.TickSteps.{IsBegun, begun_here}

-- ---- in another order

-- of these numbers those that pass one test do what they do, and some of the others make a move
module _ (t : ℕ → List ServerEvent) (parts : (c : ℕ) → Each (IsTick c) (t c)) (any : (cs : List ℕ) → Each (IsOfAny IsTick) (flat_map t cs))
    (q p r a : ℕ → Bool) (m : PeerEvent)
    (whole : (c : ℕ) → q c ≡ (p c || r c)) (apart : (c : ℕ) → p c ≡ true → r c ≡ false)
    (plain : (c : ℕ) → r c ≡ true → t c ≡ (if a c then Works (Does c m) ∷ [] else [])) where
  abbrev those : (ℕ → Bool) → List ℕ → List ServerEvent
  those x cs = flat_map t (filter x cs)

  -- all these come before what the others do, or after it
  abbrev MayPass : List ServerEvent → List ℕ → Type 0
  MayPass ds cs = (b : List ServerEvent) → Agree (onto (those r cs) (onto ds b)) (onto ds (onto (those r cs) b))

  may_pass : (c : ℕ) (ds : List ServerEvent) → Each (IsTick c) ds → p c ≡ true → (cs : List ℕ) → MayPass ds cs
  may_pass c ds of is [] b = agree_refl (onto ds b)
  may_pass c ds of is (k ∷ cs) b = by (may_pass c ds of is cs) (r k) refl
    where
      after : List ServerEvent
      after = those r cs

      other : r k ≡ true → (c == k) ≡ false
      other e = false_from_ne_true (c == k) (λ f. both_ways (r c) (apart c is) (ap r (eqb-true c k f) ∙ e))

      one : MayPass ds cs → r k ≡ true → (z : Bool)
          → Agree (onto ((if z then Works (Does k m) ∷ [] else []) ++ after) (onto ds b))
          (onto ds (onto ((if z then Works (Does k m) ∷ [] else []) ++ after) b))
      one later e false = later b
      one later e true =
          agree_trans (onto after (Works (Does k m) ∷ onto ds b)) (onto after (onto ds (Works (Does k m) ∷ b)))
          (onto ds (onto after (Works (Does k m) ∷ b)))
          (agree_onto after (Works (Does k m) ∷ onto ds b) (onto ds (Works (Does k m) ∷ b)) (any (filter r cs))
          (agree_past c k m ds b (other e) of))
          (later (Works (Does k m) ∷ b))

      by : MayPass ds cs → (z : Bool) → r k ≡ z
          → Agree (onto (flat_map t (if z then k ∷ filter r cs else filter r cs)) (onto ds b))
          (onto ds (onto (flat_map t (if z then k ∷ filter r cs else filter r cs)) b))
      by later false e = later b
      by later true e =
          subst (λ xs. Agree (onto (xs ++ after) (onto ds b)) (onto ds (onto (xs ++ after) b))) (sym (plain k e)) (one later e (a k))

  -- so it is one list whether each does so in order, or those others first
  abbrev MayComeFirst : List ℕ → Type 0
  MayComeFirst cs = (b : List ServerEvent) → Agree (onto (those q cs) b) (onto (those p cs) (onto (those r cs) b))

  pub may_come_first : (cs : List ℕ) → MayComeFirst cs
  may_come_first [] b = agree_refl b
  may_come_first (c ∷ cs) b =
      subst (λ z. Agree (onto (flat_map t (if z then c ∷ filter q cs else filter q cs)) b)
      (onto (those p (c ∷ cs)) (onto (those r (c ∷ cs)) b))) (sym (whole c))
      (by (may_come_first cs) (p c) refl (r c) refl)
    where
      all : List ServerEvent
      all = those q cs

      first : List ServerEvent
      first = those p cs

      after : List ServerEvent
      after = those r cs

      by : MayComeFirst cs → (y : Bool) → p c ≡ y → (z : Bool) → r c ≡ z
          → Agree (onto (flat_map t (if y || z then c ∷ filter q cs else filter q cs)) b)
          (onto (flat_map t (if y then c ∷ filter p cs else filter p cs)) (onto (flat_map t (if z then c ∷ filter r cs else filter r cs)) b))
      by later true e true f = absurd (both_ways (r c) (apart c e) f)
      by later true e false f =
          subst (λ g. Agree g (onto (t c ++ first) (onto after b))) (sym (onto_append (t c) all b))
          (subst (λ g. Agree (onto all (onto (t c) b)) g) (sym (onto_append (t c) first (onto after b)))
          (agree_trans (onto all (onto (t c) b)) (onto first (onto after (onto (t c) b))) (onto first (onto (t c) (onto after b)))
          (later (onto (t c) b))
          (agree_onto first (onto after (onto (t c) b)) (onto (t c) (onto after b)) (any (filter p cs)) (may_pass c (t c) (parts c) e cs b))))
      by later false e true f =
          subst (λ g. Agree g (onto first (onto (t c ++ after) b))) (sym (onto_append (t c) all b))
          (subst (λ g. Agree (onto all (onto (t c) b)) (onto first g)) (sym (onto_append (t c) after b)) (later (onto (t c) b)))
      by later false e false f = later b

-- ---- only ticks

-- a connection ticks, if it passes the test
abbrev pub resting : (ℕ → Bool) → ℕ → ℕ → List ServerEvent
resting a now c = if a c then step c (Ticked now) ∷ [] else []

-- all connections are in order still
one_rests : (u : Unsettled) (c : ℕ) (h : List ServerEvent) → ((k : ℕ) → IsOrderly u k h) → (k : ℕ) → IsOrderly u k (step c (Ticked (moment h)) ∷ h)
one_rests u c h each k = by (k == c) refl
  where
    no_later : moment h ≤ moment h
    no_later = omega arith

    by : (b : Bool) → (k == c) ≡ b → IsOrderly u k (step c (Ticked (moment h)) ∷ h)
    by true e = subst (λ n. IsOrderly u n (step c (Ticked (moment h)) ∷ h)) (sym (eqb-true k c e)) (orderly_ticked u c h (each c))
    by false e =
        orderly_alike u k (step c (Ticked (moment h)) ∷ h) h (alike_does k c (Plain (Step_of (Ticked (moment h)))) h e) no_later (each k)

-- these ticked, as far as they pass the test, and nothing else has changed
record HaveTicked (u : Unsettled) (a : ℕ → Bool) (now : ℕ) (cs : List ℕ) (g h : List ServerEvent) : Type 0 where
  rest : SameButMoves g h
  orderly : (c : ℕ) → IsOrderly u c g
  moved : (c : ℕ) → moves c (work g) ≡ (if is_listed c cs && a c then Plain (Step_of (Ticked now)) ∷ moves c (work h) else moves c (work h))

rests : (u : Unsettled) (a : ℕ → Bool) (cs : List ℕ) (h : List ServerEvent) → AreRising cs → ((c : ℕ) → IsOrderly u c h)
    → HaveTicked u a (moment h) cs (onto (flat_map (resting a (moment h)) cs) h) h
rests u a [] h rise each = record { rest = same_but_moves_refl h; orderly = each; moved = λ c. refl }
rests u a (k ∷ cs) h rise each =
    by (λ g ordered. rests u a cs g (rising_rest k cs rise) ordered) (a k) refl
  where
    one : SameButMoves (step k (Ticked (moment h)) ∷ h) h
    one = record {
      settings = λ c. refl;
      gone = λ c. refl;
      joins = refl;
      users = refl;
      rounds = refl;
      noted = refl;
      clock = refl;
      words = refl;
      user = λ c. refl;
      lanes = λ l. same_lane_works l (Does k (Plain (Step_of (Ticked (moment h))))) h;
    }

    more : List PeerEvent → List PeerEvent
    more ms = Plain (Step_of (Ticked (moment h))) ∷ ms

    -- one that ticks is none of the others
    moved_on : (c : ℕ) (x y z : Bool) → (x ≡ true → y ≡ false) → (x ≡ true → z ≡ true) → (ms : List PeerEvent)
        → (if y && z then more (if x then more ms else ms) else (if x then more ms else ms)) ≡ (if (x || y) && z then more ms else ms)
    moved_on c true true z f g ms = absurd (true≢false (f refl))
    moved_on c true false true f g ms = refl
    moved_on c true false false f g ms = absurd (true≢false (sym (g refl)))
    moved_on c false y z f g ms = refl

    -- and of one that doesn't nothing is told
    unmoved : (c : ℕ) (x y z : Bool) → (x ≡ true → z ≡ false) → (ms : List PeerEvent)
        → (if y && z then more ms else ms) ≡ (if (x || y) && z then more ms else ms)
    unmoved c true true z f ms = refl
    unmoved c true false true f ms = absurd (true≢false (f refl))
    unmoved c true false false f ms = refl
    unmoved c false y z f ms = refl

    by : ((g : List ServerEvent) → ((c : ℕ) → IsOrderly u c g) → HaveTicked u a (moment g) cs (onto (flat_map (resting a (moment g)) cs) g) g)
        → (b : Bool) → a k ≡ b
        → HaveTicked u a (moment h) (k ∷ cs) (onto ((if b then step k (Ticked (moment h)) ∷ [] else []) ++ flat_map (resting a (moment h)) cs) h) h
    by later true e =
        let g : List ServerEvent = step k (Ticked (moment h)) ∷ h in
        let r : HaveTicked u a (moment h) cs (onto (flat_map (resting a (moment h)) cs) g) g =
        later g (one_rests u k h each) in
        record {
          rest = same_but_moves_trans (onto (flat_map (resting a (moment h)) cs) g) g h r.rest one;
          orderly = r.orderly;
          moved = λ c. r.moved c
              ∙ moved_on c (c == k) (is_listed c cs) (a c)
              (λ f. false_from_ne_true (is_listed c cs) (λ l. both_ways (c == k) (not_first k c cs rise l) f))
              (λ f. ap a (eqb-true c k f) ∙ e) (moves c (work h));
        }
    by later false e =
        let r : HaveTicked u a (moment h) cs (onto (flat_map (resting a (moment h)) cs) h) h = later h each in
        record {
          rest = r.rest;
          orderly = r.orderly;
          moved = λ c. r.moved c
              ∙ unmoved c (c == k) (is_listed c cs) (a c) (λ f. ap a (eqb-true c k f) ∙ e) (moves c (work h));
        }

-- ---- a machine of which those that sleep have passed the moment

-- those that sleep by a machine
abbrev sleeps_at : {H Job : Type 0} → Machine H Job → ℕ → Bool
sleeps_at m c = is_some (idle_peer_at m c)

abbrev rests_at : {H Job : Type 0} → Machine H Job → ℕ → Bool
rests_at m c = is_some (deadline_in (idle_peer_at m c))

-- their ticks are put there first
abbrev pub passed_by : {H Job : Type 0} → Machine H Job → List ServerEvent → List ServerEvent
passed_by {H} m h = onto (flat_map (resting (rests_at {H = H} m) (moment h)) (filter (sleeps_at {H = H} m) (numbers_to (greatest (work h))))) h

module _ {H Job : Type 0} (law : ConnectionsAreNumbered) (hub : Hub Job) (s : Setup) (u : Unsettled) (before : List Said) (v : Server H Job)
    (m now_on : Machine H Job)
    (h : List ServerEvent) (st : Standing {H = H} hub s u before v h) (rung : StandsMachine {H = H} hub m (work h)) (none : NoneRings {H = H} m (moment h))
    (passed : (w z : List MachineEvent) → StandsMachine {H = H} hub m w → NoneRings {H = H} m (moment h) → AreTimely (moment h) w
    → HasPassed {H = H} m (moment h) w z → StandsMachine {H = H} hub now_on z) where
  abbrev numbers : List ℕ
  numbers = numbers_to (greatest (work h))

  timely : AreTimely (moment h) (work h)
  timely c t there =
      let is : IsBegun c h = begun_here c h (there_if (has_gone c (work h)) (settings_of c (work h)) ∙ ap is_some there) in
      let same : is.settings ≡ t = (let e : ◌≡◌ {A = Option Settings} (Some is.settings) (Some t) = sym is.there ∙ there in cc) in
      subst (λ x. of.moment x ≤ moment h) (is.history_is ∙ ap (λ (o : Settings). steps o (peer c h)) same)
      (let o : IsOrderly u c h = st.orderly c in o.timely)

  -- one that sleeps is there, and ticks if it has an alarm
  here : (c : ℕ) → sleeps_at {H = H} m c ≡ true → has_peer c h ≡ true
  here c e =
      let z : IsAsleep {H = H} m c (work h) = asleep {H = H} {Job = Job} hub m (work h) c rung e in
      there_if (has_gone c (work h)) (settings_of c (work h)) ∙ ap is_some z.there

  -- a tick that is unseen is no silence
  no_silence : (a b x : Bool) → ((a && not b) && x) ≡ true → b ≡ false
  no_silence true false x e = refl
  no_silence true true x e = absurd (true≢false (sym e))
  no_silence false b x e = absurd (true≢false (sym e))

  ticks_so : (c : ℕ) → sleeps_at {H = H} m c ≡ true → ticking (moment h) c h ≡ resting (rests_at {H = H} m) (moment h) c
  ticks_so c e = by z.idle_peer.deadline refl
    where
      z : IsAsleep {H = H} m c (work h)
      z = asleep {H = H} {Job = Job} hub m (work h) c rung e

      is : IsBegun c h
      is = begun_here c h (here c e)

      same : is.settings ≡ z.settings
      same = let f : ◌≡◌ {A = Option Settings} (Some is.settings) (Some z.settings) = sym is.there ∙ z.there in cc

      history_so : history c h ≡ steps z.settings (moves c (work h))
      history_so = is.history_is ∙ ap (λ (t : Settings). steps t (moves c (work h))) same

      config_so : config_of c h ≡ z.settings.config
      config_so = is.config_is ∙ ap (λ (t : Settings). t.config) same

      deadline_so : deadline_in (idle_peer_at m c) ≡ z.idle_peer.deadline
      deadline_so = ap deadline_in z.idle_peers

      by : (o : Option ℕ) → z.idle_peer.deadline ≡ o → ticking (moment h) c h ≡ resting (rests_at {H = H} m) (moment h) c
      by None f =
          let off : present_link (steps z.settings (moves c (work h))) ≡ None =
          subst (λ o. IsDeadlineOf m.idle_set.clock.moment o z.settings (moves c (work h))) f (let may = z.may in may.deadline) in
          ap (λ (b : Bool). if b
          then (if is_silence (config_of c h) (moment h) (history c h) then silenced c (socket_of c (notes h)) (moment h) h
          else step c (Ticked (moment h)) ∷ []) else [])
          (ap (λ x. is_some (present_link x)) history_so ∙ ap is_some off)
          ∙ sym (ap (λ (o : Option ℕ). if is_some o then step c (Ticked (moment h)) ∷ [] else []) (deadline_so ∙ f))
      by (Some deadline) f =
          let on : IsDeadlineOf m.idle_set.clock.moment (Some deadline) z.settings (moves c (work h)) =
          subst (λ o. IsDeadlineOf m.idle_set.clock.moment o z.settings (moves c (work h))) f (let may = z.may in may.deadline) in
          ap (λ (b : Bool). if b
          then (if is_silence (config_of c h) (moment h) (history c h) then silenced c (socket_of c (notes h)) (moment h) h
          else step c (Ticked (moment h)) ∷ []) else [])
          (ap (λ x. is_some (present_link x)) history_so ∙ on.0)
          ∙ ap (λ (b : Bool). if b then silenced c (socket_of c (notes h)) (moment h) h else step c (Ticked (moment h)) ∷ [])
          (ap (λ k. is_silence k (moment h) (history c h)) config_so
          ∙ ap (λ x. is_silence z.settings.config (moment h) x) history_so
          ∙ no_silence _ _ _ (on.3 (moment h) (none c deadline (deadline_so ∙ f))))
          ∙ sym (ap (λ (o : Option ℕ). if is_some o then step c (Ticked (moment h)) ∷ [] else []) (deadline_so ∙ f))

  have : HaveTicked u (rests_at {H = H} m) (moment h) (filter (sleeps_at {H = H} m) numbers) (passed_by {H = H} m h) h
  have = rests u (rests_at {H = H} m) (filter (sleeps_at {H = H} m) numbers) h (rising_to (sleeps_at {H = H} m) (greatest (work h))) st.orderly

  -- whoever has an alarm is among them
  among : (c : ℕ) → (is_listed c (filter (sleeps_at {H = H} m) numbers) && rests_at {H = H} m c) ≡ rests_at {H = H} m c
  among c = by (idle_peer_at m c) refl
    where
      listed : sleeps_at {H = H} m c ≡ true → is_listed c (filter (sleeps_at {H = H} m) numbers) ≡ true
      listed e =
          listed_filter (sleeps_at {H = H} m) c numbers
          ∙ ap (λ (b : Bool). b && is_listed c numbers) (e ∙ sym (here c e)) ∙ there_within law (work h) rung.from_one c ∙ here c e

      by : (o : Option IdlePeer) → idle_peer_at m c ≡ o → (is_listed c (filter (sleeps_at {H = H} m) numbers) && rests_at {H = H} m c) ≡ rests_at {H = H} m c
      by None e =
          ap (λ (o : Option IdlePeer). is_listed c (filter (sleeps_at {H = H} m) numbers) && is_some (deadline_in o)) e
          ∙ and_false (is_listed c (filter (sleeps_at {H = H} m) numbers)) ∙ sym (ap (λ (o : Option IdlePeer). is_some (deadline_in o)) e)
        where
          and_false : (b : Bool) → (b && false) ≡ false
          and_false true = refl
          and_false false = refl
      by (Some idle_peer) e = ap (λ (b : Bool). b && rests_at {H = H} m c) (listed (ap is_some e))

  moved_so : (c : ℕ) → moves c (work (passed_by {H = H} m h))
      ≡ (if rests_at {H = H} m c then Plain (Step_of (Ticked (moment h))) ∷ moves c (work h) else moves c (work h))
  moved_so c = have.moved c
      ∙ ap (λ (b : Bool). if b then Plain (Step_of (Ticked (moment h))) ∷ moves c (work h) else moves c (work h)) (among c)

  pub same_passed : SameButMoves (passed_by {H = H} m h) h
  same_passed = have.rest

  pub standing_passed : Standing {H = H} hub s u before (record v { machine = now_on }) (passed_by {H = H} m h)
  standing_passed =
      standing_same {H = H} {Job = Job} hub s u before v now_on (passed_by {H = H} m h) h same_passed
      (passed (work h) (work (passed_by {H = H} m h)) rung none timely (record {
        settings = same_passed.settings;
        gone = same_passed.gone;
        moved = moved_so;
        joins = same_passed.joins;
        users = same_passed.users;
        rounds = same_passed.rounds;
      }))
      have.orderly st

  -- one that is awake is as it was
  pub alike_passed : (c : ℕ) → is_awake_at m c ≡ true → Alike c (passed_by {H = H} m h) h
  alike_passed c e = same_alike c (passed_by {H = H} m h) h same_passed
      (moved_so c ∙ ap (λ (o : Option IdlePeer). if is_some (deadline_in o) then Plain (Step_of (Ticked (moment h))) ∷ moves c (work h)
      else moves c (work h)) (no_idle_peer (is_some (peer_at m c)) (idle_peer_at m c) e))
    where
      no_idle_peer : (b : Bool) (o : Option IdlePeer) → (b && not (is_some o)) ≡ true → o ≡ None
      no_idle_peer true None f = refl
      no_idle_peer true (Some idle_peer) f = absurd (true≢false (sym f))
      no_idle_peer false o f = absurd (true≢false (sym f))

  -- once those that are awake have ticked too, all have ticked
  pub all_ticked : PartsOfTurns → (conns : List ℕ) → AreNumbers {H = H} m conns
      → Agree (onto (ticks (moment h) h) h) (onto (flat_map (λ c. ticking (moment h) c h) conns) (passed_by {H = H} m h))
  all_ticked parts conns known =
      subst (λ cs. Agree (onto (ticks (moment h) h) h) (onto (flat_map (λ c. ticking (moment h) c h) cs) (passed_by {H = H} m h)))
      (sym (awake_are {H = H} {Job = Job} law hub m (work h) conns rung known))
      (subst (λ xs. Agree (onto (ticks (moment h) h) h)
      (onto (flat_map (λ c. ticking (moment h) c h) (filter (λ k. is_awake_at m k) numbers)) (onto xs h)))
      (plain_all (filter (sleeps_at {H = H} m) numbers) (λ c l. sleeps_listed c l))
      (may_come_first (λ c. ticking (moment h) c h) (λ c. parts.ticking_is (moment h) c h) (λ cs. parts.ticks_are (moment h) cs h) (λ c. is_there c (work h)) (λ c. is_awake_at m c)
      (sleeps_at {H = H} m) (rests_at {H = H} m) (Plain (Step_of (Ticked (moment h)))) whole apart ticks_so numbers h))
    where
      sleeps_listed : (c : ℕ) → is_listed c (filter (sleeps_at {H = H} m) numbers) ≡ true → sleeps_at {H = H} m c ≡ true
      sleeps_listed c l = first_of (sleeps_at {H = H} m c) (is_listed c numbers) (sym (listed_filter (sleeps_at {H = H} m) c numbers) ∙ l)
        where
          first_of : (a b : Bool) → (a && b) ≡ true → a ≡ true
          first_of true b e = refl
          first_of false b e = e

      plain_all : (cs : List ℕ) → ((c : ℕ) → is_listed c cs ≡ true → sleeps_at {H = H} m c ≡ true)
          → flat_map (λ c. ticking (moment h) c h) cs ≡ flat_map (resting (rests_at {H = H} m) (moment h)) cs
      plain_all [] each = refl
      plain_all (c ∷ cs) each =
          ap (λ (xs : List ServerEvent). xs ++ flat_map (λ c. ticking (moment h) c h) cs) (ticks_so c (each c (first_is_listed c cs)))
          ∙ ap (λ (xs : List ServerEvent). resting (rests_at {H = H} m) (moment h) c ++ xs) (plain_all cs (λ k l. each k (later_listed k c cs l)))

      whole : (c : ℕ) → is_there c (work h) ≡ (is_awake_at m c || sleeps_at {H = H} m c)
      whole c = here_by_peer {H = H} {Job = Job} hub m (work h) rung c
          ∙ either (is_some (peer_at m c)) (sleeps_at {H = H} m c)
          (λ e. sym (here_by_peer {H = H} {Job = Job} hub m (work h) rung c) ∙ here c e)
        where
          either : (a b : Bool) → (b ≡ true → a ≡ true) → a ≡ ((a && not b) || b)
          either true true f = refl
          either true false f = refl
          either false true f = f refl
          either false false f = refl

      apart : (c : ℕ) → is_awake_at m c ≡ true → sleeps_at {H = H} m c ≡ false
      apart c e = by (is_some (peer_at m c)) (sleeps_at {H = H} m c) e
        where
          by : (a b : Bool) → (a && not b) ≡ true → b ≡ false
          by true true f = absurd (true≢false (sym f))
          by true false f = refl
          by false b f = absurd (true≢false (sym f))
