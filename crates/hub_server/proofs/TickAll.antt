-- All connections tick, one after the other: what one of them does changes nothing for the others.
use Rattle.std.proofs.Common.{◌≡◌, ℕ, ◌+◌, ◌<◌, true, List, [], ◌∷◌, length, get_or, drop}
use Rattle.std.proofs.Common.{ap, subst, ◌∙◌}
use Rattle.std.specs.List.{flat_map}
use Rattle.hd_calls.specs.Hubs.{Hub}
use Rattle.hd_server.specs.declared.vocabulary.Said.{Said}
use Rattle.hd_server.specs.Machine.{MachineEvent}
use Rattle.hd_server.specs.Doings.{ServerEvent, work, moment, has_peer}
use Rattle.hd_server.specs.Plans.{Setup, onto}
use Rattle.hd_server.specs.Serves.{ticking, ticks}
use Rattle.hd_server.specs.Laws.{PartsOfTurns}
use Rattle.hub_machine.specs.declared.machine.Machine.{Machine}
use Rattle.hub_server.specs.declared.server.Server.{Server}
use Rattle.hub_machine.specs.Laws.{ConnectionsAreNumbered}
use Rattle.hub_machine.specs.Machines.{StandsMachine}
use Rattle.hub_server.specs.Lanes.{Unsettled, settled}
use Rattle.hub_machine.specs.Rounds.{AreNumbers, AreRising}
use Rattle.hub_server.specs.Servers.{OfEach, Standing}
use Rattle.hub_machine.specs.Sleeping.{AreTimely, HasPassed, NoneRings}
use Rattle.hub_machine.specs.Spreads.{is_listed}
use Rattle.hub_server.proofs.Agree.{Agree, SameButMoves, standing_agrees}
use Rattle.hub_server.proofs.Alike.{Alike, alike_trans, there_alike}
use Rattle.hub_server.proofs.Asleep.{awake_there}
use Rattle.hub_server.proofs.Conns.{first_is_listed, later_listed, not_first, rising_rest}
use Rattle.hub_server.proofs.LaneKept.{SameLane, same_lane_trans}
use Rattle.hub_server.proofs.OntoAlike.{onto_append}
use Rattle.hub_server.proofs.TickAsleep.{alike_passed, all_ticked, passed_by, same_passed, standing_passed}
use Rattle.hub_server.proofs.Rising.{left_at}
use Rattle.hub_server.proofs.TickApart.{Apart, apart_ticking, ticking_same}

-- these, which are awake, are left to tick
pub record TicksSo {H Job : Type 0} (hub : Hub Job) (s : Setup) (u : Unsettled) (before : List Said) (new : Server H Job) (left : List ℕ)
    (h : List ServerEvent) : Type 0 where
  pub so_far : List ServerEvent
  pub stands : Standing hub s u before new so_far
  pub same_moment : moment so_far ≡ moment h
  pub lanes : (lane : ℕ) → SameLane lane so_far h
  pub alike : (k : ℕ) → is_listed k left ≡ true → Alike k so_far h
  pub there : (k : ℕ) → is_listed k left ≡ true → has_peer k h ≡ true
  pub rise : AreRising left
  pub whole : Agree (onto (ticks (moment h) h) h) (onto (flat_map (λ c. ticking (moment h) c h) left) so_far)

module _ {H Job : Type 0} (hub : Hub Job) (old : Server H Job) (conns : List ℕ) where
  -- so it is of all doings for which the server stood
  abbrev pub TickSoFar : Server H Job → ℕ → Type 0
  TickSoFar new i = OfEach {H = H} hub old (λ s u before h. u ≡ settled → TicksSo {H = H} hub s u before new (drop i conns) h)

  -- one more ticks
  one : PartsOfTurns → (mid new : Server H Job) (c : ℕ) (rest : List ℕ) → OfEach {H = H} hub mid (λ s u before h. u ≡ settled → has_peer c h ≡ true →
      Standing {H = H} hub s u before new (onto (ticking (moment h) c h) h))
      → (s : Setup) (u : Unsettled) (before : List Said) (h : List ServerEvent) → u ≡ settled
      → TicksSo {H = H} hub s u before mid (c ∷ rest) h → TicksSo {H = H} hub s u before new rest h
  one parts mid new c rest ticks_one s u before h sound x = record {
    so_far = onto (ticking (moment h) c h) x.so_far;
    stands =
        subst (λ xs. Standing {H = H} hub s u before new (onto xs x.so_far))
        (ap (λ n. ticking n c x.so_far) x.same_moment ∙ ticking_same c (moment h) x.so_far h own x.lanes)
        (ticks_one s u before x.so_far x.stands sound (there_alike c x.so_far h own ∙ x.there c (first_is_listed c rest)));
    same_moment = goes.same_moment ∙ x.same_moment;
    lanes = λ l. same_lane_trans l (onto (ticking (moment h) c h) x.so_far) x.so_far h (goes.lanes l) (x.lanes l);
    alike = λ k e. alike_trans k (onto (ticking (moment h) c h) x.so_far) x.so_far h
        (goes.others k (not_first c k rest x.rise e)) (x.alike k (later_listed k c rest e));
    there = λ k e. x.there k (later_listed k c rest e);
    rise = rising_rest c rest x.rise;
    whole = subst (λ g. Agree (onto (ticks (moment h) h) h) g)
        (onto_append (ticking (moment h) c h) (flat_map (λ k. ticking (moment h) k h) rest) x.so_far) x.whole;
  }
    where
      own : Alike c x.so_far h
      own = x.alike c (first_is_listed c rest)

      goes : Apart c (onto (ticking (moment h) c h) x.so_far) x.so_far
      goes = apart_ticking parts c (moment h) h x.so_far

  pub ticks_on : PartsOfTurns → (mid new : Server H Job) (i : ℕ) → i < length conns
      → OfEach {H = H} hub mid (λ s u before h. u ≡ settled → has_peer (get_or conns i 0) h ≡ true →
      Standing {H = H} hub s u before new (onto (ticking (moment h) (get_or conns i 0) h) h))
      → TickSoFar mid i → TickSoFar new (i + 1)
  ticks_on parts mid new i more ticks_one so = λ s u before h st sound.
      one parts mid new (get_or conns i 0) (drop (i + 1) conns) ticks_one s u before h sound
      (subst (λ cs. TicksSo {H = H} hub s u before mid cs h) (left_at conns i more) (so s u before h st sound))

  -- none is left
  pub ticks_over : (new : Server H Job) (i : ℕ) → drop i conns ≡ [] → TickSoFar new i
      → OfEach {H = H} hub old (λ s u before h. u ≡ settled → Standing {H = H} hub s u before new (onto (ticks (moment h) h) h))
  ticks_over new i none so = λ s u before h st sound.
      let x = so s u before h st sound in
      standing_agrees {H = H} {Job = Job} hub s u before new (onto (ticks (moment h) h) h) x.so_far
      (subst (λ cs. Agree (onto (ticks (moment h) h) h) (onto (flat_map (λ c. ticking (moment h) c h) cs) x.so_far)) none x.whole) x.stands

  -- those that sleep have passed the moment, and those that are awake are left to tick
  module _ (law : ConnectionsAreNumbered) (parts : PartsOfTurns) (m now_on : Machine H Job)
      (rings : (w : List MachineEvent) → StandsMachine {H = H} hub old.machine w → StandsMachine {H = H} hub m w)
      (none : (w : List MachineEvent) → StandsMachine {H = H} hub old.machine w → NoneRings {H = H} m old.moment)
      (known : (w : List MachineEvent) → StandsMachine {H = H} hub m w → AreNumbers {H = H} m conns)
      (passes : (w z : List MachineEvent) → StandsMachine {H = H} hub m w → NoneRings {H = H} m old.moment → AreTimely old.moment w
      → HasPassed {H = H} m old.moment w z → StandsMachine {H = H} hub now_on z) where
    begins : (s : Setup) (u : Unsettled) (before : List Said) (h : List ServerEvent) → Standing {H = H} hub s u before old h
        → TicksSo {H = H} hub s u before (record old { machine = now_on }) conns h
    begins s u before h st = record {
      so_far = passed_by {H = H} m h;
      stands = standing_passed {H = H} {Job = Job} law hub s u before old m now_on h st rung none_now passes_now;
      same_moment = same.clock;
      lanes = same.lanes;
      alike = λ k e. alike_passed {H = H} {Job = Job} law hub s u before old m now_on h st rung none_now passes_now k (numbers.are k ∙ e);
      there = λ k e. awake_there {H = H} {Job = Job} hub m (work h) k rung (numbers.are k ∙ e);
      rise = numbers.rise;
      whole = all_ticked {H = H} {Job = Job} law hub s u before old m now_on h st rung none_now passes_now parts conns numbers;
    }
      where
        rung : StandsMachine {H = H} hub m (work h)
        rung = rings (work h) st.machine

        none_now : NoneRings {H = H} m (moment h)
        none_now = subst (λ n. NoneRings {H = H} m n) st.clock (none (work h) st.machine)

        passes_now : (w z : List MachineEvent) → StandsMachine {H = H} hub m w → NoneRings {H = H} m (moment h) → AreTimely (moment h) w
            → HasPassed {H = H} m (moment h) w z → StandsMachine {H = H} hub now_on z
        passes_now = subst (λ n. (w z : List MachineEvent) → StandsMachine {H = H} hub m w → NoneRings {H = H} m n → AreTimely n w
            → HasPassed {H = H} m n w z → StandsMachine {H = H} hub now_on z) st.clock passes

        numbers : AreNumbers {H = H} m conns
        numbers = known (work h) rung

        same : SameButMoves (passed_by {H = H} m h) h
        same = same_passed {H = H} {Job = Job} law hub s u before old m now_on h st rung none_now passes_now

    pub ticks_begin : TickSoFar (record old { machine = now_on }) 0
    ticks_begin = λ s u before h st sound. begins s u before h st
