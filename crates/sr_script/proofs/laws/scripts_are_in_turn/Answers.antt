use Rattle.sr_script.proofs.Settled.{in_turn}
use Rattle.sr_script.proofs.laws.scripts_are_in_turn.Goals as goal

pub returns : goal.returns
returns c text p = in_turn text p
