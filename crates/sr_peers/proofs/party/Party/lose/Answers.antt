use Rattle.std.proofs.Common.{◌++◌, refl}
use Rattle.hd_delivery.specs.Histories.{present_link}
use Rattle.hd_calls.specs.Peers.{steps}
use Rattle.sr_peers.specs.Doings.{leaving}
use Rattle.sr_peers.proofs.Chains.{with_losses}
use Rattle.sr_peers.proofs.Links.{leaves}
use Rattle.sr_peers.proofs.party.Party.lose.Goals as goal

pub returns : goal.returns
returns g c = λ t h plays late.
    let left = leaves {H = g.row.H.Denot} _ t h c.args.self.now plays c.detach.new.self c.args.now c.args.report.now.items (present_link (steps t h)) refl
    (λ l at. c.detach.ensures.left t h plays.stands l at late) (c.detach.ensures.none t h plays.stands) in
    with_losses {H = g.row.H.Denot} _ t h _ c.tell_gone.new.self c.args.report.now.items c.args.report.now.items c.tell_gone.new.report.items (leaving t h c.args.now) left
    (c.in_ok-tell_gone.ensures t (leaving t h c.args.now ++ h) left.plays)
