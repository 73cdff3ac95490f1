use Rattle.std.proofs.Common.{subst}
use Rattle.std.proofs.lemmas.Result.{on_ok_weaker}
use Rattle.sr_soak.specs.Plays.{Adds}
use Rattle.sr_soak.proofs.Stepping.{opens}
use Rattle.sr_soak.proofs.soaking.open.Goals as goal

pub returns : goal.returns
returns c =
    let none = c.args.peers.now in
    let linked = c.take_step.new.peers in
    let link = subst (λ actions. Adds actions none linked) c.new_link.ensures c.in_ok-take_step.ensures in
    on_ok_weaker c.act-4.result (opens none linked c.act.new.peers c.act-2.new.peers c.act-3.new.peers c.act-4.new.peers link
    c.in_ok-act.ensures c.in_ok-act-2.ensures c.in_ok-act-3.ensures) c.act-4.ensures
