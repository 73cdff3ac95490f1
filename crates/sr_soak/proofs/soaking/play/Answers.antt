use Rattle.std.proofs.Common.{◌≡◌, subst}
use Rattle.sr_soak.specs.Recipe.{most_turns, whole_script}
use Rattle.sr_soak.specs.Steps.{actions_of}
use Rattle.sr_soak.specs.Plays.{IsOver}
use Rattle.sr_soak.proofs.Soaked.{linked, soaked}
use Rattle.sr_soak.proofs.soaking.play.Goals as goal

pub returns : goal.returns
returns c = λ begun.
    let drawn = c.in_ok-draw_all.ensures (c.in_ok-open.ensures begun) in
    let whole = linked c.args.seed c.args.steps c.links.result (actions_of c.new_link.result) c.draw_all.new.peers c.take_step.new.peers c.links.ensures c.new_link.ensures
    c.in_ok-take_step.ensures drawn in
    let steps : c.from.result ≡ c.args.steps = c.from.ensures in
    let over : IsOver (whole_script c.args.seed c.args.steps) (most_turns c.args.steps) c.close.new.peers =
    subst (λ n. IsOver (whole_script c.args.seed c.args.steps) (most_turns n) c.close.new.peers) steps (c.in_ok-close.ensures (whole_script c.args.seed c.args.steps) whole) in
    soaked c.args.seed c.args.steps c.close.new.peers c.totals.result c.calls_once.ensures c.totals.ensures over
