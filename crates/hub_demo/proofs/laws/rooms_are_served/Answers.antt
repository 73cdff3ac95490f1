use Rattle.hub_demo.proofs.Runs.{rooms_served}
use Rattle.hub_demo.proofs.laws.rooms_are_served.Goals as goal

pub returns : goal.returns
returns c = rooms_served
