use Rattle.std.proofs.Common.{refl}
use Rattle.hd_delivery.specs.Histories.{present_link}
use Rattle.hd_delivery.specs.Bytes.{in_frames}
use Rattle.sr_replay.proofs.Players.{loses}
use Rattle.sr_replay.proofs.player.Player.lose.Goals as goal

pub returns-clause-lost : goal.returns-clause-lost
returns-clause-lost c wire config h plays late =
    loses wire config c.args.self.now h plays c.detach.new.self c.args.now (present_link (in_frames wire config h)) refl
    (λ l at. c.detach.ensures.left wire config h plays.stands l at late) (c.detach.ensures.none wire config h plays.stands)
