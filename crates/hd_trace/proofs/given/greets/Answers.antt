use Rattle.std.proofs.Common.{sym, ◌∙◌, subst}
use Rattle.hd_trace.specs.ByMarks.{greets_by}
use Rattle.hd_trace.specs.Given.{IsGiven, said_frame}
use Rattle.hd_trace.proofs.given.greets.Goals as goal

pub returns-in-Server : goal.returns-in-Server
returns-in-Server k c oc msg e =
    subst (λ s. IsGiven c oc msg k.server_greets.result (greets_by s c (said_frame oc msg k.args.said))) (sym (e ∙ k.in-Server.is))
    (k.server_greets.ensures c oc msg (e ∙ k.in-Server.is))
