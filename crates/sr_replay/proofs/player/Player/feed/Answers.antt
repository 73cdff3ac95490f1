use Rattle.std.proofs.Common.{refl}
use Rattle.hd_delivery.specs.Histories.{is_closed}
use Rattle.hd_delivery.specs.Bytes.{in_frames}
use Rattle.sr_replay.proofs.Feeding.{feeds}
use Rattle.sr_replay.proofs.player.Player.feed.Goals as goal

pub returns-clause-fed : goal.returns-clause-fed
returns-clause-fed c wire config h plays l all at is none =
    feeds c.taken_has_room.ensures c.wire_is_sound.ensures wire config c.args.self.now h plays l all c.args.piece.now at is none c.requires c.feed.new.self c.feed.result
    (is_closed config (in_frames wire config h)) refl
    (λ live. c.feed.ensures.count wire config h plays.stands l at live)
    (λ live. c.feed.ensures.fed wire config h plays.stands l at live)
    (c.feed.ensures.none wire config h plays.stands)
