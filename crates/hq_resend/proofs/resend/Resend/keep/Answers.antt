use Rattle.std.proofs.Common.{ap, ◌∙◌}
use Rattle.hq_resend.specs.Buffers.{Buffer}
use Rattle.hq_resend.proofs.Standing.{keep-Stands}
use Rattle.hq_resend.proofs.resend.Resend.keep.Goals as goal

pub returns-clause-stands : goal.returns-clause-stands
returns-clause-stands c = λ h.
    rw (← c.self.view_is) (keep-Stands c.self.inside c.args.keeps h c.self.invariant (ap (λ (b : Buffer). b.sent) c.self.view_is ∙ c.requires))
