use Rattle.std.proofs.Common.{◌≡◌, ◌+◌, true, false, arith, refl, sym, ◌∙◌}
use Rattle.std.proofs.lemmas.Bool.{eq-eqb, ne_eqb}
use Rattle.hd_server.specs.Serving.{all_answered}
use Rattle.hj_jobs.specs.Meaning.{meaning}
use Rattle.hub_server.specs.Steps.{outside}
use Rattle.hub_server.proofs.ServeRun.{caused_same, fault_passed, is_a_fault, served_count, served_none, served_ok, served_then, unok}
use Rattle.hub_server.proofs.serving.serve_turns.Goals as goal

pub loop-turn-init : goal.loop-turn-init
loop-turn-init g c = record {
  served =
      served_none {H = g.row.H.Denot} {Job = g.row.H-Job.Denot} (meaning g.H.Hub.begin_of g.H.Hub.step_of) c.args.server.now
      (outside (g.K.Keeper.holds c.args.keeper.now) (g.K.Keeper.answers c.args.keeper.now) (g.K.Keeper.faults c.args.keeper.now)
      (g.L.Lots.drawn c.args.lots.now) (g.L.Lots.faults c.args.lots.now))
      (λ calls. g.D.Door.Goes c.args.door.now calls c.args.door.now) (g.D.Door.moment c.args.door.now) (g.met.D.Door.stays c.args.door.now);
  ended = λ e. (refl, e);
  unfailed = refl;
}

pub returns-in_err-turn-clause-served : goal.returns-in_err-turn-clause-served
returns-in_err-turn-clause-served g c = (
  c.in_err-turn.ensures.served.0,
  fault_passed c.from_residual.result c.in_err-turn.field-0.0 c.from_residual.ensures.1 ∙ c.in_err-turn.ensures.served.1,
  served_then {H = g.row.H.Denot} {Job = g.row.H-Job.Denot} _ _ _ _ _ _ _ (λ calls. g.D.Door.Goes c.args.door.now calls c.loop-turn.door)
      (λ calls. g.D.Door.Goes c.loop-turn.door calls c.turn.new.door) (λ calls. g.D.Door.Goes c.args.door.now calls c.turn.new.door) _ _ _ c.loop-turn._turn
      c.args.turns c.in_err-turn.ensures.served.0 c.answers_join.ensures (g.met.D.Door.joins c.args.door.now c.loop-turn.door c.turn.new.door)
      (λ e. absurd (is_a_fault c.in_err-turn.ensures.served.0 c.in_err-turn.field-0.0 c.in_err-turn.ensures.served.1 e))
      (let test = c.loop-turn-test.true in omega (arith, test)) (λ e. (c.loop-turn.invariant.ended e).0) c.loop-turn.invariant.served c.in_err-turn.ensures.served.2,
)

pub returns-in_err-turn-clause-ended : goal.returns-in_err-turn-clause-ended
returns-in_err-turn-clause-ended g c = λ e.
    let was = c.loop-turn.invariant.ended e in
    let test = c.loop-turn-test.true in (
      unok c.from_residual.result c.from_residual.ensures.0 ∙ sym (ne_eqb c.args.turns 0 (λ (z : c.args.turns ≡ 0). omega (arith, test, z))),
      (c.turn.ensures.ended was.1).1,
    )

pub returns-in_err-turn-clause-cause : goal.returns-in_err-turn-clause-cause
returns-in_err-turn-clause-cause g c =
    caused_same (g.D.Door.faults c.args.door.now) (g.D.Door.faults c.loop-turn.door) (g.D.Door.faults c.turn.new.door) c.in_err-turn.field-0.0
    c.from_residual.result c.loop-turn.invariant.unfailed c.in_err-turn.ensures.cause c.from_residual.ensures.1

pub loop-turn-preserved : goal.loop-turn-preserved
loop-turn-preserved g c = record {
  served =
      served_then {H = g.row.H.Denot} {Job = g.row.H-Job.Denot} _ _ _ _ _ _ _ (λ calls. g.D.Door.Goes c.args.door.now calls c.loop-turn.door)
      (λ calls. g.D.Door.Goes c.loop-turn.door calls c.turn.new.door) (λ calls. g.D.Door.Goes c.args.door.now calls c.turn.new.door) _ _ _ c.loop-turn._turn
      (c.loop-turn._turn + 1) all_answered c.answers_join.ensures (g.met.D.Door.joins c.args.door.now c.loop-turn.door c.turn.new.door) (λ e. refl) (omega arith) (λ e. (c.loop-turn.invariant.ended e).0) c.loop-turn.invariant.served
      (served_ok c.in_ok-turn.ensures.served.0 c.in_ok-turn.ensures.served.1 c.in_ok-turn.ensures.served.2);
  ended = λ e. absurd (let z : true ≡ false = (c.in_ok-turn.ensures.ended (c.loop-turn.invariant.ended e).1).0 in cc);
  unfailed = c.in_ok-turn.ensures.cause ∙ c.loop-turn.invariant.unfailed;
}

pub returns-clause-served : goal.returns-clause-served
returns-clause-served g c =
    let test = c.loop-turn-test.false in
    let end = c.loop-turn.auto._turn-end in
    let same : c.loop-turn._turn ≡ c.args.turns = omega (arith, test, end) in (
      all_answered,
      refl,
      served_count
          {at = outside (g.K.Keeper.holds c.args.keeper.now) (g.K.Keeper.answers c.args.keeper.now) (g.K.Keeper.faults c.args.keeper.now) (g.L.Lots.drawn c.args.lots.now) (g.L.Lots.faults c.args.lots.now)}
          {since = outside (g.K.Keeper.holds c.loop-turn.keeper) (g.K.Keeper.answers c.loop-turn.keeper) (g.K.Keeper.faults c.loop-turn.keeper) (g.L.Lots.drawn c.loop-turn.lots) (g.L.Lots.faults c.loop-turn.lots)}
          c.loop-turn._turn c.args.turns same c.loop-turn.invariant.served,
    )

pub returns-clause-ended : goal.returns-clause-ended
returns-clause-ended g c = λ e.
    let was = c.loop-turn.invariant.ended e in
    let test = c.loop-turn-test.false in
    let none = was.0 in
    let zero : c.args.turns ≡ 0 = omega (arith, test, none) in
    (sym (eq-eqb c.args.turns 0 zero), was.1)

pub returns-clause-cause : goal.returns-clause-cause
returns-clause-cause g c = c.loop-turn.invariant.unfailed
