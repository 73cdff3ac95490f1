use Rattle.hd_delivery.specs.Histories.{link_count}
use Rattle.hd_calls.specs.Peers.{steps}
use Rattle.sr_client.proofs.Links.{attached_again, attached_first, not_refused, unused}
use Rattle.sr_client.proofs.peer.ClientPeer.attach.Goals as goal

pub returns-in-Err : goal.returns-in-Err
returns-in-Err c = λ t h plays live away late.
    absurd (not_refused t c.args.self.now h plays _ (λ e. c.in-Err.ensures.closed e t h plays.on.stands)
    (λ e. c.in-Err.ensures.not_granted e t h plays.on.stands) live away)

pub returns-then-not-self : goal.returns-then-not-self
returns-then-not-self c = λ t h plays live away late.
    attached_first t c.args.self.now h plays c.attach.new.self c.args.now c.args.out.now.items c.if-not-self.true
    (c.in-Ok.ensures.ok t h plays.on.stands (link_count (steps t h)) (unused t c.args.self.now h plays) late)

pub returns : goal.returns
returns c = λ t h plays live away late.
    attached_again t c.args.self.now h plays c.attach.new.self c.args.now c.args.out.now.items c.push_again.new.out.items c.if-not-self.false
    (c.in-Ok.ensures.ok t h plays.on.stands (link_count (steps t h)) (unused t c.args.self.now h plays) late) c.in_ok-push_again.ensures
