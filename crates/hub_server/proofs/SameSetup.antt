-- A server is begun as it was, as long as its base and what its ends may hold stay.
use Rattle.std.proofs.Common.{◌≡◌, ℕ, List, sym, subst}
use Rattle.hd_server.specs.Plans.{Setup}
use Rattle.hub_server.specs.Resend.{ResendLimits}
use Rattle.hub_server.specs.Servers.{IsSetup}

pub same_setup : (s : Setup) {base base' : List ℕ} {resend resend' : ResendLimits} → base' ≡ base → resend' ≡ resend → IsSetup s base resend s.live
    → IsSetup s base' resend' s.live
same_setup s {base} {base'} {resend} {resend'} at holds is =
    subst (λ r. IsSetup s base' r s.live) (sym holds) (subst (λ b. IsSetup s b resend s.live) (sym at) is)
