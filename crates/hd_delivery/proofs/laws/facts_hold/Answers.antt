use Rattle.hd_delivery.specs.Bytes.{sizes_of, in_frames}
use Rattle.hd_delivery.proofs.EndFacts.{known, facts}
use Rattle.hd_delivery.proofs.OneHistory.{in_frames_too}
use Rattle.hd_delivery.proofs.laws.facts_hold.Goals as goal

pub returns : goal.returns
returns c limits wire config h i = facts config (in_frames wire config h) (known limits (sizes_of wire) config (in_frames wire config h) (in_frames_too limits wire config h i))
