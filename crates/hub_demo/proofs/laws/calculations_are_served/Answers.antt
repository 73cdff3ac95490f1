use Rattle.hub_demo.proofs.Runs.{calculations_served}
use Rattle.hub_demo.proofs.laws.calculations_are_served.Goals as goal

pub returns : goal.returns
returns c = calculations_served
