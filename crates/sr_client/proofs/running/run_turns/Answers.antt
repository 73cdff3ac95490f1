use Rattle.std.proofs.Common.{◌≡◌, ◌+◌, arith, inl, refl, ◌∙◌}
use Rattle.sr_client.specs.Clients.{Fits, StandsClient}
use Rattle.sr_client.proofs.RunTurns.{caused_by, ran_nothing, ran_on, run_by, run_done, run_failed, run_out}
use Rattle.sr_client.proofs.Touched.{no_fault_before, ok_is_no_fault, touched_more}
use Rattle.sr_client.proofs.running.run_turns.Goals as goal

pub loop-turn-init : goal.loop-turn-init
loop-turn-init g c = record {
  ran = λ s script stands.
      ran_nothing s script (λ calls. g.C.Dialer.Goes c.args.dialer.now calls c.args.dialer.now) _ _ c.args.client.now _ _ (g.met.C.Dialer.stays c.args.dialer.now) stands;
  unfailed = λ s script stands. refl;
  touched = inl refl;
}

pub returns-in_err-done-clause-dials : goal.returns-in_err-done-clause-dials
returns-in_err-done-clause-dials g c = λ s script stands.
    let r = c.loop-turn.invariant.ran s script stands in
    let test = c.loop-turn-test.true in
    run_by s script _ c.args.turns c.in_err-done.field-0.0 c.from_residual.result c.from_residual.ensures.1
    (run_failed s script (λ calls. g.C.Dialer.Goes c.args.dialer.now calls c.loop-turn.dialer) (λ calls. g.C.Dialer.Goes c.loop-turn.dialer calls c.turn.new.dialer)
    (λ calls. g.C.Dialer.Goes c.args.dialer.now calls c.turn.new.dialer) _ _ _ _ _ _ (g.met.C.Dialer.joins c.args.dialer.now c.loop-turn.dialer c.turn.new.dialer)
    (λ after. StandsClient s script c.turn.new.self after × Fits (g.C.Dialer.lanes c.turn.new.dialer) (g.C.Dialer.moment c.turn.new.dialer) after)
    c.in_err-done.field-0.0 c.loop-turn.client _ _ c.loop-turn._turn c.args.turns (omega (arith, test)) r
    (c.in_err-done.ensures.turn s script r.h r.stands r.fits).by)

pub returns-in_err-done-clause-cause : goal.returns-in_err-done-clause-cause
returns-in_err-done-clause-cause g c = λ s script stands.
    let r = c.loop-turn.invariant.ran s script stands in
    caused_by _ _ _ c.in_err-done.field-0.0 c.from_residual.result (c.loop-turn.invariant.unfailed s script stands)
    (c.in_err-done.ensures.cause s script r.h r.stands r.fits) c.from_residual.ensures.1

pub returns-in_err-done-clause-touched : goal.returns-in_err-done-clause-touched
returns-in_err-done-clause-touched g c = λ differ.
    touched_more g.K.Sink.holds c.args.out.now c.loop-turn.out c.turn.new.out c.loop-turn.invariant.touched
    (c.in_err-done.ensures.touched (no_fault_before c.in_err-done.field-0.0 c.from_residual.result c.from_residual.ensures.1 differ))

pub returns-then-done-clause-dials : goal.returns-then-done-clause-dials
returns-then-done-clause-dials g c = λ s script stands.
    let r = c.loop-turn.invariant.ran s script stands in
    let test = c.loop-turn-test.true in
    run_done s script (λ calls. g.C.Dialer.Goes c.args.dialer.now calls c.loop-turn.dialer) (λ calls. g.C.Dialer.Goes c.loop-turn.dialer calls c.turn.new.dialer)
    (λ calls. g.C.Dialer.Goes c.args.dialer.now calls c.turn.new.dialer) _ _ _ _ _ _ (g.met.C.Dialer.joins c.args.dialer.now c.loop-turn.dialer c.turn.new.dialer)
    (λ after. StandsClient s script c.turn.new.self after × Fits (g.C.Dialer.lanes c.turn.new.dialer) (g.C.Dialer.moment c.turn.new.dialer) after)
    c.in_ok-done.done c.if-done.true c.loop-turn.client _ _ c.loop-turn._turn c.args.turns (omega (arith, test)) r
    (c.in_ok-done.ensures.turn s script r.h r.stands r.fits).by

pub returns-then-done-clause-cause : goal.returns-then-done-clause-cause
returns-then-done-clause-cause g c = λ s script stands.
    let r = c.loop-turn.invariant.ran s script stands in
    c.in_ok-done.ensures.cause s script r.h r.stands r.fits ∙ c.loop-turn.invariant.unfailed s script stands

pub returns-then-done-clause-touched : goal.returns-then-done-clause-touched
returns-then-done-clause-touched g c = λ differ.
    touched_more g.K.Sink.holds c.args.out.now c.loop-turn.out c.turn.new.out c.loop-turn.invariant.touched
    (c.in_ok-done.ensures.touched (ok_is_no_fault c.in_ok-done.done))

pub loop-turn-preserved : goal.loop-turn-preserved
loop-turn-preserved g c = record {
  ran = λ s script stands.
      let r = c.loop-turn.invariant.ran s script stands in
      ran_on s script (λ calls. g.C.Dialer.Goes c.args.dialer.now calls c.loop-turn.dialer) (λ calls. g.C.Dialer.Goes c.loop-turn.dialer calls c.turn.new.dialer)
      (λ calls. g.C.Dialer.Goes c.args.dialer.now calls c.turn.new.dialer) _ _ _ _ _ _ (g.met.C.Dialer.joins c.args.dialer.now c.loop-turn.dialer c.turn.new.dialer)
      c.in_ok-done.done c.if-done.false c.loop-turn.client c.turn.new.self _ _ _ _ c.loop-turn._turn (c.loop-turn._turn + 1) (omega arith) r
      (c.in_ok-done.ensures.turn s script r.h r.stands r.fits).by;
  unfailed = λ s script stands.
      let r = c.loop-turn.invariant.ran s script stands in
      c.in_ok-done.ensures.cause s script r.h r.stands r.fits ∙ c.loop-turn.invariant.unfailed s script stands;
  touched = touched_more g.K.Sink.holds c.args.out.now c.loop-turn.out c.turn.new.out c.loop-turn.invariant.touched
      (c.in_ok-done.ensures.touched (ok_is_no_fault c.in_ok-done.done));
}

pub returns-clause-dials : goal.returns-clause-dials
returns-clause-dials g c = λ s script stands.
    let test = c.loop-turn-test.false in
    let end = c.loop-turn.auto._turn-end in
    let same : c.loop-turn._turn ≡ c.args.turns = omega (arith, test, end) in
    run_out s script _ c.loop-turn.client _ _ c.loop-turn._turn c.args.turns same (c.loop-turn.invariant.ran s script stands)

pub returns-clause-cause : goal.returns-clause-cause
returns-clause-cause g c = λ s script stands. c.loop-turn.invariant.unfailed s script stands
