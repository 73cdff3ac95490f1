use Rattle.std.proofs.Common.{sym, subst}
use Rattle.std.specs.Prelude.{if◌then◌else◌}
use Rattle.hd_trace.specs.ByMarks.{frame_given, greets_by, next_number_by}
use Rattle.hd_trace.specs.Given.{IsGiven, said_frame}
use Rattle.hd_trace.proofs.Owing.{opened}
use Rattle.hd_trace.proofs.marks.Marks.gives.Goals as goal

pub returns : goal.returns
returns k c oc msg e low =
    let m = k.args.self in
    subst (λ b. IsGiven c oc msg k.frame_gives.result
    (if b then frame_given m (next_number_by m k.args.link) (said_frame oc msg k.args.said) else greets_by c.side c (said_frame oc msg k.args.said)))
    (sym (opened m.shaken k.if-not-self.false)) (k.frame_gives.ensures c oc msg low)
