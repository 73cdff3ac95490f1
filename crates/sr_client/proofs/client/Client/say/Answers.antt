use Rattle.std.proofs.Common.{sym, ap, ◌∙◌}
use Rattle.sr_client.proofs.Saying.{says_closed, says_later, says_open}
use Rattle.sr_client.proofs.client.Client.say.Goals as goal

pub returns-then-is_closed-clause-said : goal.returns-then-is_closed-clause-said
returns-then-is_closed-clause-said c = λ s b h x none empty.
    says_closed s b c.say_due.new.self c.leave.new.self c.say_due.new.words c.leave.new.words h (c.in_ok-say_due.ensures.said s b h x none empty)
    (sym (c.is_closed.ensures s h x.standing) ∙ c.if-is_closed.true) (c.leave.ensures.left s b) (ap (λ z. z.lane) c.leave.ensures.words)

pub returns-then-self-clause-said : goal.returns-then-self-clause-said
returns-then-self-clause-said c = λ s b h x none empty.
    says_later s b c.args.self.now c.args.words.now h (sym (c.is_closed.ensures s h x.standing) ∙ c.if-is_closed.false) x c.if-self.true none

pub returns-clause-said : goal.returns-clause-said
returns-clause-said c = λ s b h x none empty.
    says_open s b c.args.self.now c.args.words.now h (sym (c.is_closed.ensures s h x.standing) ∙ c.if-is_closed.false) c.say_due-2.new.self
    c.say_due-2.new.words x c.if-self.false (c.in_ok-say_due-2.ensures.said s b h x none empty)
