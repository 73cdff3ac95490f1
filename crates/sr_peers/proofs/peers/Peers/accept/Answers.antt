use Rattle.std.proofs.Common.{sym, refl, ◌∙◌, arith}
use Rattle.sr_peers.proofs.Lanes.{there}
use Rattle.sr_peers.proofs.Attaching.{server_attaches, server_passes}
use Rattle.sr_peers.proofs.peers.Peers.accept.Goals as goal

pub returns : goal.returns
returns c = λ p actions r follows turn.
    let old = c.args.self.now in
    let new = record old { server = c.attach.new.party; lanes = c.attach.new.lanes } in
    let lane = c.index.result.now in
    let at = there old.lanes.items c.args.link lane (omega (arith, c.if-at-len.false, c.len.ensures)) c.index.ensures in
    let was_opened = sym (follows.holds.is_world.lanes c.args.link lane at).was_opened ∙ c.if-not-index.false in
    server_attaches c.unused_is_untouched.ensures c.what_is_lent_goes_on.ensures p actions r old follows new c.args.link c.in_ok-attach.field-0 c.args.report.now.items
    c.attach.new.report.items turn was_opened refl refl c.in_ok-attach.ensures.tries c.in_ok-attach.ensures.lanes

pub returns-then-at-len : goal.returns-then-at-len
returns-then-at-len c = λ p actions r follows turn. absurd (omega (arith, turn.0, c.if-at-len.true, c.len.ensures, follows.holds.is_world.links))

pub returns-then-not-index : goal.returns-then-not-index
returns-then-not-index c = λ p actions r follows turn.
    let old = c.args.self.now in
    let lane = c.index.result.now in
    let at = there old.lanes.items c.args.link lane (omega (arith, c.if-at-len.false, c.len.ensures)) c.index.ensures in
    let never = sym (follows.holds.is_world.lanes c.args.link lane at).was_opened ∙ c.if-not-index.true in
    server_passes c.unused_is_untouched.ensures c.what_is_lent_goes_on.ensures p actions r old follows c.args.link c.args.report.now.items turn never
