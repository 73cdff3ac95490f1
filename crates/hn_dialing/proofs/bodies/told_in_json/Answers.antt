use Rattle.std.proofs.Common.{Some, None, ap, ◌∙◌}
use Rattle.serde_json.specs.View.{view}
use Rattle.hn_dialing.proofs.Reading.{told_is}
use Rattle.hn_dialing.proofs.bodies.told_in_json.Goals as goal

pub returns-in_ok-token-in-Some : goal.returns-in_ok-token-in-Some
returns-in_ok-token-in-Some c = told_is (view c.args.json.now) (Some c.in_ok-token-in-Some.token) c.is_true_in-reconnect.result
    (ap (λ t. Some t) c.in_ok-token-in-Some.ensures ∙ c.in-Some.ensures) c.is_true_in-reconnect.ensures

pub returns-in-None : goal.returns-in-None
returns-in-None c = told_is (view c.args.json.now) None c.is_true_in-reconnect.result c.in-None.ensures c.is_true_in-reconnect.ensures
