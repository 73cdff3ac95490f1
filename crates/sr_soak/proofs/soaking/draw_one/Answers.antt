use Rattle.std.proofs.Common.{◌%◌, sym, subst}
use Rattle.std.specs.List.{All}
use Rattle.std.proofs.lemmas.Result.{on_ok_weaker}
use Rattle.sr_peers.specs.Follows.{IsOfPeers}
use Rattle.sr_soak.specs.Steps.{actions_of}
use Rattle.sr_soak.proofs.InTurn.{drawn_of_peers}
use Rattle.sr_soak.proofs.Stepping.{are_drawn, reaches_drawn}
use Rattle.sr_soak.proofs.soaking.draw_one.Goals as goal

pub take_step-requires : goal.take_step-requires
take_step-requires c = subst (All IsOfPeers) (sym c.in_ok-step.ensures) (drawn_of_peers (c.next-kind.result % 12) c.next-number.result c.links.result)

pub returns : goal.returns
returns c = on_ok_weaker c.take_step.result (λ adds seed n has.
    let kind = c.next-kind in
    let number = c.next-number in
    let drawn =
    are_drawn seed n c.args.draws.now.x kind.new.self.x number.new.self.x kind.result number.result kind.ensures.gives kind.ensures.draws number.ensures.gives number.ensures.draws has.next in
    record {
      next = drawn.next;
      reaches = reaches_drawn seed n kind.result number.result number.new.self.x c.links.result c.args.peers.now c.take_step.new.peers (actions_of c.in_ok-step.step)
          drawn c.links.ensures c.in_ok-step.ensures adds has.reaches;
    }) c.take_step.ensures
