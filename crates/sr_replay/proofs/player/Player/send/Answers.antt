use Rattle.std.proofs.lemmas.Result.{IfErr-weaker}
use Rattle.hm_codec.specs.Frames.{said_again}
use Rattle.hd_delivery.specs.Histories.{codec_of}
use Rattle.hd_delivery.specs.Bytes.{in_frames}
use Rattle.sr_replay.specs.Plays.{limits_at}
use Rattle.sr_replay.proofs.Players.{stands_still, why_not}
use Rattle.sr_replay.proofs.player.Player.send.Goals as goal

pub returns-clause-refused : goal.returns-clause-refused
returns-clause-refused c = IfErr-weaker c.send.result _ _
    (λ e refused wire config h plays. (
      why_not (limits_at c.args.self.now) wire config (in_frames wire config h) (said_again (codec_of config (in_frames wire config h)) c.args.message.now) e
          (refused.0 wire config h plays.stands),
      stands_still wire config c.args.self.now h plays c.send.new.self (refused.1 wire config h plays.stands),
    ))
    c.send.ensures.refused
