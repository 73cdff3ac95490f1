use Rattle.sr_client.proofs.RunTurns.{run_none, some_setup, is_some_setup}
use Rattle.sr_client.proofs.running.start_and_run.Goals as goal

pub returns-in_err-client-clause-dials : goal.returns-in_err-client-clause-dials
returns-in_err-client-clause-dials g c = λ s is.
    run_none s _ (λ calls. g.C.Dialer.Goes c.args.dialer.now calls c.args.dialer.now) _ _ c.args.turns c.from_residual.result
    (g.met.C.Dialer.stays c.args.dialer.now) c.from_residual.ensures.1

pub returns-clause-dials : goal.returns-clause-dials
returns-clause-dials g c = λ s is. c.run_turns.ensures.dials s _ (c.in_ok-client.ensures s is)

pub returns-clause-cause : goal.returns-clause-cause
returns-clause-cause g c =
    let wire = c.has_wire.ensures c.args.limits.frame in
    let s = some_setup c.args.address.now c.args.codec c.args.limits wire.0 in
    c.run_turns.ensures.cause s _ (c.in_ok-client.ensures s (is_some_setup c.args.address.now c.args.codec c.args.limits wire.0 wire.1))
