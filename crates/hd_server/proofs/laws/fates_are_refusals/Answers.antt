use Rattle.hd_server.proofs.Tests.{fates_are_refusals}
use Rattle.hd_server.proofs.laws.fates_are_refusals.Goals as goal

pub returns : goal.returns
returns c = fates_are_refusals c.image_is_its_image.ensures
