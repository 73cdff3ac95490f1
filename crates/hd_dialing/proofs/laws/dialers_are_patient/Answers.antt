use Rattle.hd_dialing.proofs.Counts.{dialers_are_patient}
use Rattle.hd_dialing.proofs.laws.dialers_are_patient.Goals as goal

pub returns : goal.returns
returns c = dialers_are_patient
