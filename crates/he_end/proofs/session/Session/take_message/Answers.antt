use Rattle.std.proofs.Common.{◌∙◌, subst}
use Rattle.hd_delivery.specs.Frames.{frame_of}
use Rattle.he_end.specs.Says.{Awaits}
use Rattle.he_end.proofs.Read.{ping_read, close_read, told_is}
use Rattle.he_end.proofs.session.Session.take_message.Goals as goal

pub returns-in-Sequence-clause-made : goal.returns-in-Sequence-clause-made
returns-in-Sequence-clause-made c cc' k r e a = c.take_sequence.ensures.made c.in-Sequence.received (c.unwrap_or.ensures ∙ told_is c.in-Sequence.received) cc' k r e
    (subst (λ m. Awaits cc' k (frame_of m)) c.in-Sequence.is a)

pub returns-in-Ping-clause-made : goal.returns-in-Ping-clause-made
returns-in-Ping-clause-made c cc' k r e a = ping_read cc' c.args.self.now k r e (subst (λ m. Awaits cc' k (frame_of m)) c.in-Ping.is a)

pub returns-in-Close-clause-made : goal.returns-in-Close-clause-made
returns-in-Close-clause-made c cc' k r e a = close_read cc' c.args.self.now k c.in-Close.error c.in-Close.allow r e (subst (λ m. Awaits cc' k (frame_of m)) c.in-Close.is a)
