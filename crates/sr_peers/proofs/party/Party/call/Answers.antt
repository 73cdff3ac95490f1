use Rattle.std.proofs.Common.{None}
use Rattle.hd_calls.specs.Peers.{Calls, drawn}
use Rattle.hd_calls.specs.Rules.{IsRefusedCall}
use Rattle.hi_calls.specs.Numbering.{number_after}
use Rattle.hp_peer.specs.Calling.{heard_call}
use Rattle.sr_peers.proofs.Calls.{called, unasked}
use Rattle.sr_peers.proofs.party.Party.call.Goals as goal

pub returns-in_ok-push_called-in-Ok : goal.returns-in_ok-push_called-in-Ok
returns-in_ok-push_called-in-Ok g c = λ t h plays.
    called {H = g.row.H.Denot} _ t h c.args.self.now plays c.call.new.self c.args.report.now.items c.push_called.new.report.items
    c.args.kind c.args.target c.args.arguments c.args.uploads c.in-Ok.number (c.in-Ok.ensures.ok t h plays.stands) c.in_ok-push_called-in-Ok.ensures

pub returns-in_ok-refuse-in-Err : goal.returns-in_ok-refuse-in-Err
returns-in_ok-refuse-in-Err g c = λ t h plays.
    let call = heard_call t h c.args.kind c.args.target c.args.arguments c.args.uploads in
    unasked {H = g.row.H.Denot} _ t h c.args.self.now plays c.call.new.self c.args.report.now.items c.refuse.new.report.items
    (Calls None (number_after c.args.kind c.args.uploads (drawn h)) call) (IsRefusedCall t h call) c.in-Err.why (c.in-Err.ensures.unchanged t h plays.stands)
    c.in_ok-refuse-in-Err.ensures.some (c.asks_are_told.ensures.calls t h call c.in-Err.why (c.in-Err.ensures.refused t h plays.stands))
    c.in_ok-refuse-in-Err.ensures.told
