use Rattle.std.proofs.Common.{subst}
use Rattle.hd_trace.specs.ByMarks.{message_given}
use Rattle.hd_trace.specs.Given.{IsGiven}
use Rattle.hd_trace.proofs.marks.Marks.next_message_gives.Goals as goal

pub returns : goal.returns
returns k c oc msg low =
    subst (λ n. IsGiven c oc msg k.message_gives.result (message_given k.args.self.processed n msg)) (k.next_number-number.ensures low) (k.message_gives.ensures c oc msg low)
