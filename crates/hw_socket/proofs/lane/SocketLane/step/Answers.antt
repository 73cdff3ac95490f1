use Rattle.std.proofs.Common.{◌≡◌, None}
use Rattle.hw_socket.specs.Lane.{Lane}
use Rattle.hw_socket.proofs.Takings.{found, Found, sound_after, tells, stepped, all_within, little_left, lost}
use Rattle.hw_socket.proofs.lane.SocketLane.step.Goals as goal

abbrev before : goal.After-self-1 → Lane
before c = record { conn = c.self.inside.context; unread = c.self.inside.inbox; out = c.self.inside.outbox; ending = c.self.inside.ending }

the_frame : (c : goal.After-self-1) → Found (before c) c.read.new.context c.read.new.self c.read.new.outbox c.in-Ok-Complete.field-0-0
the_frame c =
    found (before c) c.read.new.context c.read.new.self c.read.new.outbox c.in-Ok-Complete.field-0-0
    (rw c.in-Ok-Complete.field-0-is at c.in-Ok-Complete.ensures.returns) c.in-Ok-Complete.ensures.leaves (rw c.in-Ok-Complete.field-0-is at c.in-Ok-Complete.ensures.rest)

here : (c : goal.After-self-1) → c.self.inside.ending ≡ None
here c = rw (← c.self.view_is) at c.requires

pub invariant_of-self-in-Ok-Complete : goal.invariant_of-self-in-Ok-Complete
invariant_of-self-in-Ok-Complete c =
    rw c.ending_with-self-inside.ensures
    (sound_after (before c) c.read.new.context c.read.new.self c.read.new.outbox c.in-Ok-Complete.field-0-0 c.answer-answer.result (here c) c.self.invariant (the_frame c)
    (tells _ c.answer-answer.result (rw c.unread.ensures at c.answer-answer.ensures.shown) (rw c.unread.ensures at c.answer-answer.ensures.lost)))

pub returns-in-Ok-Complete-clause-stepped : goal.returns-in-Ok-Complete-clause-stepped
returns-in-Ok-Complete-clause-stepped c =
    rw (← c.self.view_is, c.take.ensures)
    (stepped (before c) c.read.new.context c.read.new.self c.read.new.outbox c.in-Ok-Complete.field-0-0 c.answer-answer.result c.ending_with-self-inside.result c.ending_with-self-inside.ensures (here c) (the_frame c)
    (rw c.unread.ensures at c.answer-answer.ensures.shown))

pub returns-in-Ok-Complete-clause-within : goal.returns-in-Ok-Complete-clause-within
returns-in-Ok-Complete-clause-within c =
    all_within (before c) _ c.answer-answer.result c.self.invariant.config
    (stepped (before c) c.read.new.context c.read.new.self c.read.new.outbox c.in-Ok-Complete.field-0-0 c.answer-answer.result c.ending_with-self-inside.result c.ending_with-self-inside.ensures (here c) (the_frame c)
    (rw c.unread.ensures at c.answer-answer.ensures.shown))

pub returns-in-Ok-Complete-clause-lost : goal.returns-in-Ok-Complete-clause-lost
returns-in-Ok-Complete-clause-lost c =
    rw (← c.self.view_is)
    (lost (before c) c.read.new.context c.read.new.self c.read.new.outbox c.in-Ok-Complete.field-0-0 c.answer-answer.result c.ending_with-self-inside.result (c.self.invariant.active (here c)) c.ending_with-self-inside.ensures (the_frame c)
    (rw c.unread.ensures at c.answer-answer.ensures.lost))

pub returns-in-Ok-Complete-clause-unfinished : goal.returns-in-Ok-Complete-clause-unfinished
returns-in-Ok-Complete-clause-unfinished c = (invariant_of-self-in-Ok-Complete c).within

pub returns-in-Ok-Complete-clause-answered : goal.returns-in-Ok-Complete-clause-answered
returns-in-Ok-Complete-clause-answered c = (invariant_of-self-in-Ok-Complete c).answered

pub returns-in-Ok-Partial-clause-waits : goal.returns-in-Ok-Partial-clause-waits
returns-in-Ok-Partial-clause-waits c =
    little_left c.self.inside.context c.self.inside.inbox c.read.new.self c.in-Ok-Partial.field-0-0 c.self.invariant.config (rw c.in-Ok-Partial.field-0-is at c.in-Ok-Partial.ensures.returns) c.in-Ok-Partial.ensures.len
