use Rattle.std.proofs.Common.{[], ◌∷◌, sym, subst}
use Rattle.std.specs.Result.{OnOk}
use Rattle.std.proofs.lemmas.Result.{on_ok_weaker}
use Rattle.sr_soak.specs.Steps.{and_then}
use Rattle.sr_soak.specs.Plays.{Adds}
use Rattle.sr_soak.proofs.Stepping.{adds_two}
use Rattle.sr_soak.proofs.soaking.take_step.Goals as goal

pub returns-in-Some : goal.returns-in-Some
returns-in-Some c =
    let first = c.args.step.first in
    let old = c.args.peers.now in
    let new = c.act-in-Some.new.peers in
    subst (λ second. OnOk c.act-in-Some.result (Adds (and_then second (first ∷ [])) old new)) (sym c.in-Some.is)
    (on_ok_weaker c.act-in-Some.result (adds_two old c.act.new.peers new first c.in-Some.action c.in_ok-act.ensures) c.act-in-Some.ensures)
