use Rattle.std.proofs.Common.{refl, ◌∙◌}
use Rattle.hd_delivery.specs.Frames.{Response}
use Rattle.he_end.proofs.Links.{first_codec}
use Rattle.he_end.proofs.Taken.{makes}
use Rattle.he_end.proofs.session.Session.take_response.Goals as goal

pub returns-clause-made : goal.returns-clause-made
returns-clause-made c cc' k r e client a = let agrees = c.agree.ensures in
    rw agrees.value (makes cc' k Response a ∙ rw (e, client, r.codec, first_codec cc' k e, r.version) refl, agrees.made cc' k Response r e a refl)
