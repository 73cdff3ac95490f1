use Rattle.hd_dialing.proofs.Steps.{one_lane_at_most}
use Rattle.hd_dialing.proofs.laws.one_lane_at_most.Goals as goal

pub returns : goal.returns
returns c = one_lane_at_most
