use Rattle.std.proofs.Common.{refl, arith}
use Rattle.sr_peers.proofs.Attaching.{client_attaches}
use Rattle.sr_peers.proofs.peers.Peers.open.Goals as goal

pub returns : goal.returns
returns c = λ p actions r follows turn.
    let old = c.args.self.now in
    let new = record old { client = c.attach.new.party; lanes = c.push.new.self } in
    client_attaches c.unused_is_untouched.ensures c.what_is_lent_goes_on.ensures p actions r old follows c.unused_is_empty.ensures new c.attach.new.lanes.items _
    c.len-link.result c.in_ok-opened.opened c.args.report.now.items c.attach.new.report.items turn (omega (arith, c.len-link.ensures, follows.holds.is_world.links))
    (c.new.ensures.items, c.new-2.ensures.items, refl) c.in_ok-push.ensures.items refl refl c.in_ok-opened.ensures.tries c.in_ok-opened.ensures.lanes
