use Rattle.hp_peer.proofs.JobSaid.{is_said, is_too_deep}
use Rattle.hp_peer.proofs.peer.Peer.say_short.Goals as goal

pub returns-in-Ok-clause-ok : goal.returns-in-Ok-clause-ok
returns-in-Ok-clause-ok g c = λ t h s. is_said {H = g.row.H.Denot} _ c.frames_are_tested.ensures t h c.args.self.now s c.say.new.self c.args.message.now c.in-Ok.ensures.ok

pub returns-in-Err-TooDeep-clause-ok : goal.returns-in-Err-TooDeep-clause-ok
returns-in-Err-TooDeep-clause-ok g c =
    let refused = rw c.in-Err-TooDeep.field-0-is at c.in-Err-TooDeep.ensures.refused in
    λ t h s. is_too_deep {H = g.row.H.Denot} _ c.frames_are_tested.ensures t h c.args.self.now s c.say.new.self c.args.message.now c.message_image_is_as_deep.ensures refused c.in-Err-TooDeep.ensures.unchanged
