use Rattle.sr_client.proofs.Said.{says_none, says_one}
use Rattle.sr_client.proofs.peer.ClientPeer.say_one.Goals as goal

pub returns : goal.returns
returns c = λ t h plays.
    says_one t h c.args.self.now plays c.next_out.follows.lender-at-none
    c.args.out.now.items c.in-Some.bytes.now c.extend_from_slice.new.self.items c.in_ok-extend_from_slice.ensures.items
    (c.in-Some.ensures.bytes t h plays.on.stands) (c.next_out.follows.holds-at-none.1 t h plays.on.stands)

pub returns-in_default : goal.returns-in_default
returns-in_default c = λ t h plays.
    says_none t h c.args.self.now plays c.next_out.follows.lender-at-none
    c.args.out.now.items (c.in_default.ensures.bytes t h plays.on.stands) (c.next_out.follows.holds-at-none.1 t h plays.on.stands)
