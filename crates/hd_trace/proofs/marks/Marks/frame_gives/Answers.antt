use Rattle.std.proofs.Common.{◌≡◌, ℕ, Option, sym, subst}
use Rattle.hm_message.specs.declared.message.Message.{Message}
use Rattle.hd_delivery.specs.Histories.{Config}
use Rattle.hd_trace.specs.declared.given.Given.{Given}
use Rattle.hd_trace.specs.declared.marks.Marks.{Marks}
use Rattle.hd_trace.specs.declared.owed.Owed.{Owed}
use Rattle.hd_trace.specs.ByMarks.{frame_given, next_number_by}
use Rattle.hd_trace.specs.Given.{IsGiven, said_frame}
use Rattle.hd_trace.proofs.marks.Marks.frame_gives.Goals as goal

-- what a frame gives, where it is this one
said_as : (c oc : Config) (msg : Message) (m : Marks) (l : ℕ) (given : Option Given) (s t : Owed) → s ≡ t
    → IsGiven c oc msg given (frame_given m (next_number_by m l) (said_frame oc msg t)) → IsGiven c oc msg given (frame_given m (next_number_by m l) (said_frame oc msg s))
said_as c oc msg m l given s t e i = subst (λ s. IsGiven c oc msg given (frame_given m (next_number_by m l) (said_frame oc msg s))) (sym e) i

pub returns-in-Ack : goal.returns-in-Ack
returns-in-Ack k c oc msg low = said_as c oc msg k.args.self k.args.link k.ack_or_unused.result k.args.said _ k.in-Ack.is (k.ack_or_unused.ensures c oc msg)

pub returns-in-Message : goal.returns-in-Message
returns-in-Message k c oc msg low =
    said_as c oc msg k.args.self k.args.link k.next_message_gives.result k.args.said _ k.in-Message.is (k.next_message_gives.ensures c oc msg low)

pub returns-in-Sequence : goal.returns-in-Sequence
returns-in-Sequence k c oc msg low =
    said_as c oc msg k.args.self k.args.link k.sequence_or_unused.result k.args.said _ k.in-Sequence.is (k.sequence_or_unused.ensures c oc msg low)
