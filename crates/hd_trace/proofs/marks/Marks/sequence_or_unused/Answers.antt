use Rattle.std.proofs.Common.{Some, sym, subst}
use Rattle.std.specs.Prelude.{if◌then◌else◌}
use Rattle.hd_delivery.specs.declared.vocabulary.Got.TheVariants.{Skipped}
use Rattle.hd_delivery.specs.declared.vocabulary.Why.TheVariants.{NotUsed}
use Rattle.hd_delivery.specs.Frames.{received_of}
use Rattle.hd_trace.specs.ByMarks.{sequence_given}
use Rattle.hd_trace.specs.Given.{IsGiven}
use Rattle.hd_trace.proofs.Owing.{opened}
use Rattle.hd_trace.proofs.marks.Marks.sequence_or_unused.Goals as goal

pub returns : goal.returns
returns k c oc msg low =
    let m = k.args.self in
    subst (λ b. IsGiven c oc msg k.sequence_gives.result (if b then sequence_given m k.args.first (received_of k.args.received) else Some (Skipped NotUsed)))
    (sym (opened m.resumable k.if-not-self.false))
    (subst (λ n. IsGiven c oc msg k.sequence_gives.result (sequence_given m k.args.first n)) k.received_count-count.ensures (k.sequence_gives.ensures c oc msg low))
