use Rattle.hd_client.proofs.Leaves.{ends_leave_no_lane}
use Rattle.hd_client.proofs.laws.ends_leave_no_lane.Goals as goal

pub returns : goal.returns
returns g c = ends_leave_no_lane
