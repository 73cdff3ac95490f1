use Rattle.std.proofs.Common.{refl, ◌∙◌}
use Rattle.hd_delivery.specs.Frames.{Request}
use Rattle.he_end.proofs.Taken.{makes}
use Rattle.he_end.proofs.session.Session.take_request.Goals as goal

pub returns-clause-made : goal.returns-clause-made
returns-clause-made c cc' k r e server a = let agrees = c.agree.ensures in
    rw agrees.value (makes cc' k (Request c.args.codec c.args.version) a ∙ rw (e, server) refl, agrees.made cc' k (Request c.args.codec c.args.version) r e a refl)
