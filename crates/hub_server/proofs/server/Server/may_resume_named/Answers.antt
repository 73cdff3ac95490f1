use Rattle.std.proofs.Common.{sym, ap, ◌∙◌}
use Rattle.hd_server.specs.Plans.{may_resume_some}
use Rattle.hub_server.proofs.server.Server.may_resume_named.Goals as goal

pub returns-in-Some : goal.returns-in-Some
returns-in-Some g c = λ s u before h st.
    c.may_resume.ensures s u before h st ∙ ap (λ named. may_resume_some named h) (sym c.in-Some.is)
