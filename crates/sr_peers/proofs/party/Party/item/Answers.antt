use Rattle.std.proofs.Common.{codes, refl}
use Rattle.hd_calls.specs.Peers.{Uploads}
use Rattle.hd_calls.specs.Rules.{IsRefusedUpload}
use Rattle.hp_peer.specs.Calling.{upload_item}
use Rattle.sr_lines.specs.Lines.{counted}
use Rattle.sr_peers.proofs.Calls.{asked, unasked}
use Rattle.sr_peers.proofs.party.Party.item.Goals as goal

pub returns-in_ok-push_asked-in-Ok : goal.returns-in_ok-push_asked-in-Ok
returns-in_ok-push_asked-in-Ok g c = λ t h plays.
    let item = upload_item t h c.args.value in
    asked {H = g.row.H.Denot} _ t h c.args.self.now plays c.upload_item.new.self c.args.report.now.items c.push_asked.new.report.items
    (Uploads c.args.call 0 item) (counted (codes "item-sent") c.args.call) (IsRefusedUpload t h c.args.call 0 item)
    (c.in-Ok.ensures.ok t h plays.stands) refl refl refl c.in_ok-push_asked-in-Ok.ensures

pub returns-in_ok-refuse-in-Err : goal.returns-in_ok-refuse-in-Err
returns-in_ok-refuse-in-Err g c = λ t h plays.
    let item = upload_item t h c.args.value in
    let told = c.asks_are_told.ensures.uploads t h c.args.call 0 item c.in-Err.why (c.in-Err.ensures.refused t h plays.stands) in
    unasked {H = g.row.H.Denot} _ t h c.args.self.now plays c.upload_item.new.self c.args.report.now.items c.refuse.new.report.items
    (Uploads c.args.call 0 item) (IsRefusedUpload t h c.args.call 0 item) c.in-Err.why (c.in-Err.ensures.unchanged t h plays.stands)
    c.in_ok-refuse-in-Err.ensures.some told c.in_ok-refuse-in-Err.ensures.told
