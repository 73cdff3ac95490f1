use Rattle.std.proofs.Common.{codes, refl}
use Rattle.hd_calls.specs.Peers.{Cancels}
use Rattle.hd_calls.specs.Rules.{IsRefusedCancel}
use Rattle.sr_lines.specs.Lines.{counted}
use Rattle.sr_peers.proofs.Calls.{asked, unasked}
use Rattle.sr_peers.proofs.party.Party.cancel.Goals as goal

pub returns-in_ok-push_asked-in-Ok : goal.returns-in_ok-push_asked-in-Ok
returns-in_ok-push_asked-in-Ok g c = λ t h plays.
    asked {H = g.row.H.Denot} _ t h c.args.self.now plays c.cancel.new.self c.args.report.now.items c.push_asked.new.report.items
    (Cancels c.args.call) (counted (codes "cancel") c.args.call) (IsRefusedCancel t h c.args.call)
    (c.in-Ok.ensures.ok t h plays.stands) refl refl refl c.in_ok-push_asked-in-Ok.ensures

pub returns-in_ok-refuse-in-Err : goal.returns-in_ok-refuse-in-Err
returns-in_ok-refuse-in-Err g c = λ t h plays.
    let told = c.asks_are_told.ensures.cancels t h c.args.call c.in-Err.why (c.in-Err.ensures.refused t h plays.stands) in
    unasked {H = g.row.H.Denot} _ t h c.args.self.now plays c.cancel.new.self c.args.report.now.items c.refuse.new.report.items
    (Cancels c.args.call) (IsRefusedCancel t h c.args.call) c.in-Err.why (c.in-Err.ensures.unchanged t h plays.stands)
    c.in_ok-refuse-in-Err.ensures.some told c.in_ok-refuse-in-Err.ensures.told
