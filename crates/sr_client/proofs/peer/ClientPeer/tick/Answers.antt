use Rattle.std.proofs.Common.{◌∙◌, sym}
use Rattle.sr_client.proofs.Links.{silenced, ticked, ticked_none, ticked_so}
use Rattle.sr_client.proofs.peer.ClientPeer.tick.Goals as goal

pub returns-then-not-is_attached : goal.returns-then-not-is_attached
returns-then-not-is_attached c = λ t h plays late.
    ticked_none t c.args.self.now h plays c.args.now c.args.out.now.items (sym c.if-not-is_attached.true ∙ c.is_attached.ensures t h plays)

pub returns-then-not-tick : goal.returns-then-not-tick
returns-then-not-tick c = λ t h plays late.
    ticked t c.args.self.now h plays c.args.now c.args.out.now.items c.tick.new.self (sym c.if-not-is_attached.false ∙ c.is_attached.ensures t h plays)
    (ticked_so t h c.tick.new.self c.args.now _ _ c.if-not-tick.true (c.tick.ensures.ticks t h plays.on.stands late))

pub returns : goal.returns
returns c = λ t h plays late.
    silenced t c.args.self.now h plays c.args.now c.args.out.now.items c.tick.new.self (sym c.if-not-is_attached.false ∙ c.is_attached.ensures t h plays)
    c.push_lost.new.out.items (ticked_so t h c.tick.new.self c.args.now _ _ c.if-not-tick.false (c.tick.ensures.ticks t h plays.on.stands late))
    c.in_ok-push_lost.ensures
