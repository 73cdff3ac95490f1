use Rattle.std.proofs.Common.{◌∙◌, sym}
use Rattle.sr_client.proofs.Links.{left, left_none}
use Rattle.sr_client.proofs.peer.ClientPeer.detach.Goals as goal

pub returns-then-not-is_attached : goal.returns-then-not-is_attached
returns-then-not-is_attached c = λ t h plays late.
    let away = sym c.if-not-is_attached.true ∙ c.is_attached.ensures t h plays in
    (away, left_none t c.args.self.now h plays c.args.now c.args.out.now.items away)

pub returns : goal.returns
returns c = λ t h plays late.
    let there = sym c.if-not-is_attached.false ∙ c.is_attached.ensures t h plays in (
      there,
      left t c.args.self.now h plays c.args.now c.args.out.now.items c.detach.new.self c.push_lost.new.out.items there
          (λ l at. c.detach.ensures.left t h plays.on.stands l at late) c.in_ok-push_lost.ensures,
    )
