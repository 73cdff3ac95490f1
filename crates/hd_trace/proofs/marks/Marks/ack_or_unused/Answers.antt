use Rattle.std.proofs.Common.{Some, sym, subst}
use Rattle.std.specs.Prelude.{if◌then◌else◌}
use Rattle.hd_delivery.specs.declared.vocabulary.Got.TheVariants.{Skipped}
use Rattle.hd_delivery.specs.declared.vocabulary.Why.TheVariants.{NotUsed}
use Rattle.hd_trace.specs.ByMarks.{ack_given}
use Rattle.hd_trace.specs.Given.{IsGiven}
use Rattle.hd_trace.proofs.Owing.{opened}
use Rattle.hd_trace.proofs.marks.Marks.ack_or_unused.Goals as goal

pub returns : goal.returns
returns k c oc msg =
    subst (λ b. IsGiven c oc msg k.ack_gives.result (if b then ack_given k.args.self k.args.upto else Some (Skipped NotUsed)))
    (sym (opened k.args.self.resumable k.if-not-self.false)) (k.ack_gives.ensures c oc msg)
