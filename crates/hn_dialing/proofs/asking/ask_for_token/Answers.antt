use Rattle.std.proofs.Common.{◌∙◌, refl}
use Rattle.hn_dialing.specs.Stands.{setup_of}
use Rattle.hn_dialing.proofs.Asked.{token_unasked, token_unmade}
use Rattle.hn_dialing.proofs.asking.ask_for_token.Goals as goal

pub returns-in_err-target-clause-asked : goal.returns-in_err-target-clause-asked
returns-in_err-target-clause-asked g c =
    let p = token_unmade (setup_of c.args.setup.now) (λ calls. g.D.Dialer.Goes c.args.dialer.now calls c.args.dialer.now) (g.D.Dialer.lanes c.args.dialer.now) (g.D.Dialer.lanes c.args.dialer.now)
    c.from_residual.result (g.met.D.Dialer.stays c.args.dialer.now) refl c.from_residual.ensures.1 in
    (g.D.Dialer.lanes c.args.dialer.now, p.0, p.1)

pub returns-in_err-lane-clause-asked : goal.returns-in_err-lane-clause-asked
returns-in_err-lane-clause-asked g c =
    let p = token_unasked (setup_of c.args.setup.now) (λ calls. g.D.Dialer.Goes c.args.dialer.now calls c.ask.new.self) (g.D.Dialer.lanes c.args.dialer.now) (g.D.Dialer.lanes c.ask.new.self)
    c.in_err-lane.ensures.given.1 c.as_str.result.now c.in_err-lane.field-0.0 c.from_residual-in_err-lane.result c.in_err-lane.ensures.given.2
    (c.as_str.ensures.value ∙ c.in_ok-target.ensures) c.in_err-lane.ensures.fresh c.from_residual-in_err-lane.ensures.1 in
    (c.in_err-lane.ensures.given.1, p.0, p.1)
