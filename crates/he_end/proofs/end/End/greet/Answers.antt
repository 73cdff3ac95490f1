use Rattle.std.proofs.Common.{ap, ◌∙◌}
use Rattle.hm_codec.specs.Frames.{framing_of}
use Rattle.hd_delivery.specs.declared.vocabulary.Side.TheVariants.{Client, Server}
use Rattle.hd_delivery.specs.Frames.{Request, Response}
use Rattle.he_end.proofs.Greets.{framed_so, greeted}
use Rattle.he_end.proofs.end.End.greet.Goals as goal
use Rattle.he_end.proofs.end.End.greet.Goals.{in-Request, in-Response}

pub returns-clause-made : goal.returns-clause-made
returns-clause-made c = elim c.match-handshake.branch [
  | in-Request w ↦ let framing = c.reframe.ensures.reframed ∙ (ap (λ f. framed_so f c.match-handshake.self.splitter) c.framing-framing.ensures ∙ ap (λ x. framed_so (framing_of x.session.codec) x.splitter) w.self-is) in
      rw (w.self-is, w.got-is, w.in-Request.is) (λ wire config h st on one. greeted c.facts_hold.ensures c.wire_is_sound.ensures c.next_is_read.ensures c.unread_moves.ensures c.args.self.now
      w.take_request-got.new.self w.take_request-got.ensures.limits c.pass.new.self c.requires.reading c.requires.unshaken c.pass.ensures.past c.reframe.new.self framing wire config h st
      (Request w.in-Request.shake.codec w.in-Request.shake.version) Server w.in-Request.shake.codec w.in-Request.shake.version w.take_request-got.result w.take_request-got.ensures.value w.take_request-got.ensures.made on one)
  | in-Response w ↦ let framing = c.reframe.ensures.reframed ∙ (ap (λ f. framed_so f c.match-handshake.self.splitter) c.framing-framing.ensures ∙ ap (λ x. framed_so (framing_of x.session.codec) x.splitter) w.self-is) in
      rw (w.self-is, w.got-is, w.in-Response.is) (λ wire config h st on one. greeted c.facts_hold.ensures c.wire_is_sound.ensures c.next_is_read.ensures c.unread_moves.ensures c.args.self.now
      w.take_response-got.new.self w.take_response-got.ensures.limits c.pass.new.self c.requires.reading c.requires.unshaken c.pass.ensures.past c.reframe.new.self framing wire config h st
      Response Client c.args.self.now.session.codec c.args.self.now.session.version w.take_response-got.result w.take_response-got.ensures.value w.take_response-got.ensures.made on one)
]
