use Rattle.std.proofs.Common.{refl}
use Rattle.hd_calls.specs.Peers.{is_shut}
use Rattle.sr_peers.proofs.Feeding.{feeds}
use Rattle.sr_peers.proofs.party.Party.feed.Goals as goal

pub returns-clause-fed : goal.returns-clause-fed
returns-clause-fed g c = λ t h plays l all at is none.
    feeds c.taken_has_room.ensures c.wire_is_sound.ensures {H = g.row.H.Denot} _ t h c.args.self.now plays l all c.args.piece.now at is none c.requires
    c.feed.new.self c.feed.result (is_shut t h) refl
    (λ live. c.feed.ensures.count t h plays.stands l at live)
    (λ live. c.feed.ensures.fed t h plays.stands l at live)
    (c.feed.ensures.none t h plays.stands)
