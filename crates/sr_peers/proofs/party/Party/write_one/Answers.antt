use Rattle.sr_peers.proofs.Going.{wrote_none, wrote_one}
use Rattle.sr_peers.proofs.party.Party.write_one.Goals as goal

pub returns-in_default : goal.returns-in_default
returns-in_default g c = λ t h plays.
    wrote_none {H = g.row.H.Denot} _ t c.args.self.now h plays c.next_out.follows.lender-at-none c.args.lane.now.items
    (c.in_default.ensures.bytes t h plays.stands) c.next_out.follows.holds-at-none.1

pub returns : goal.returns
returns g c = λ t h plays.
    wrote_one {H = g.row.H.Denot} _ t c.args.self.now h plays c.next_out.follows.lender-at-none c.args.lane.now.items c.in-Some.bytes.now
    c.extend_from_slice.new.self.items (c.in-Some.ensures.bytes t h plays.stands) c.next_out.follows.holds-at-none.1 c.in_ok-extend_from_slice.ensures.items
