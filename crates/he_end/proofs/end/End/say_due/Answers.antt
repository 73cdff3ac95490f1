use Rattle.std.proofs.Common.{refl, ap, ◌∙◌, Some}
use Rattle.he_end.specs.declared.next_frame.NextFrame.TheVariants as kind
use Rattle.hd_delivery.specs.Frames.{Response, Sequence, Ack, Ping}
use Rattle.he_end.specs.Remembers.{close_of}
use Rattle.he_end.proofs.Outs.{lends, spells, spells_request, spells_refusal, lends_message, spells_message}
use Rattle.he_end.proofs.end.End.say_due.Goals as goal

pub returns-in-Message : goal.returns-in-Message
returns-in-Message c = let is = ap Some c.in-Message.is in let said = c.say_message.follows.holds-at-none in (
  (refl, (λ _. tt), (said.0, lends_message c.args.self.now _ (Some c.args.named) c.requires is c.unread_stays.ensures said.0 said.1)),
  record { after = tt; bytes = spells_message c.args.self.now c.say_message.follows.lender-at-none (Some c.args.named) c.requires is _ c.say_message.ensures.bytes },
)

pub returns-in-Request : goal.returns-in-Request
returns-in-Request c = let is = ap Some c.in-Request.is in (
  (refl, (λ _. tt), (c.say_request.ensures.limits, lends c.args.self.now (Some c.args.named) c.requires kind.Request is c.say_request.new.self c.say_request.ensures.said)),
  record { after = tt; bytes = spells_request c.args.self.now (Some c.args.named) c.requires is c.facts_hold.ensures _ (c.bytes.ensures ∙ c.say_request.ensures.control_buffer) },
)

pub returns-in-Response : goal.returns-in-Response
returns-in-Response c = let is = ap Some c.in-Response.is in (
  (refl, (λ _. tt), (c.say.ensures.limits, lends c.args.self.now (Some c.args.named) c.requires kind.Response is c.say.new.self c.say.ensures.said)),
  record { after = tt; bytes = spells c.args.self.now (Some c.args.named) c.requires kind.Response is _ Response c.response.ensures (λ cc' k g h. let q = h in cc) },
)

pub returns-in_ok-answer-in-Refusal : goal.returns-in_ok-answer-in-Refusal
returns-in_ok-answer-in-Refusal c = let is = ap Some c.in-Refusal.is in (
  (refl, (λ _. tt), (c.say-in-Refusal.ensures.limits, lends c.args.self.now (Some c.args.named) c.requires kind.Refusal is c.say-in-Refusal.new.self c.say-in-Refusal.ensures.said)),
  record { after = tt; bytes = spells_refusal c.args.self.now (Some c.args.named) c.requires is c.in_ok-answer-in-Refusal.answer c.in_ok-answer-in-Refusal.was _ c.bytes-in-Refusal.ensures },
)

pub returns-in-Sequence : goal.returns-in-Sequence
returns-in-Sequence c = let is = ap Some c.in-Sequence.is in (
  (refl, (λ _. tt), (c.say_control.ensures.limits, lends c.args.self.now (Some c.args.named) c.requires (kind.Sequence c.in-Sequence.first c.in-Sequence.received) is c.say_control.new.self c.say_control.ensures.said)),
  record { after = tt; bytes = spells c.args.self.now (Some c.args.named) c.requires (kind.Sequence c.in-Sequence.first c.in-Sequence.received) is _ (Sequence c.in-Sequence.first c.in-Sequence.received) (c.bytes-in-Sequence.ensures ∙ c.say_control.ensures.control_buffer) (λ cc' k g h. let q = h in cc) },
)

pub returns-in-Ack : goal.returns-in-Ack
returns-in-Ack c = let is = ap Some c.in-Ack.is in (
  (refl, (λ _. tt), (c.say_control-in-Ack.ensures.limits, lends c.args.self.now (Some c.args.named) c.requires (kind.Ack c.in-Ack.upto) is c.say_control-in-Ack.new.self c.say_control-in-Ack.ensures.said)),
  record { after = tt; bytes = spells c.args.self.now (Some c.args.named) c.requires (kind.Ack c.in-Ack.upto) is _ (Ack c.in-Ack.upto) (c.bytes-in-Ack.ensures ∙ c.say_control-in-Ack.ensures.control_buffer) (λ cc' k g h. let q = h in cc) },
)

pub returns-in-Ping : goal.returns-in-Ping
returns-in-Ping c = let is = ap Some c.in-Ping.is in (
  (refl, (λ _. tt), (c.say_control-in-Ping.ensures.limits, lends c.args.self.now (Some c.args.named) c.requires kind.Ping is c.say_control-in-Ping.new.self c.say_control-in-Ping.ensures.said)),
  record { after = tt; bytes = spells c.args.self.now (Some c.args.named) c.requires kind.Ping is _ Ping (c.bytes-in-Ping.ensures ∙ c.say_control-in-Ping.ensures.control_buffer) (λ cc' k g h. let q = h in cc) },
)

pub returns-in-Close : goal.returns-in-Close
returns-in-Close c = let is = ap Some c.in-Close.is in (
  (refl, (λ _. tt), (c.say_control-in-Close.ensures.limits, lends c.args.self.now (Some c.args.named) c.requires (kind.Close c.in-Close.farewell) is c.say_control-in-Close.new.self c.say_control-in-Close.ensures.said)),
  record { after = tt; bytes = spells c.args.self.now (Some c.args.named) c.requires (kind.Close c.in-Close.farewell) is _ (close_of c.in-Close.farewell) (c.bytes-in-Close.ensures ∙ c.say_control-in-Close.ensures.control_buffer) (λ cc' k g h. let q = h in cc) },
)
