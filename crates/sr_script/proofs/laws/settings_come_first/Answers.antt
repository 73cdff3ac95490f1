use Rattle.sr_script.proofs.First.{first_settings}
use Rattle.sr_script.proofs.laws.settings_come_first.Goals as goal

pub returns : goal.returns
returns c = first_settings
