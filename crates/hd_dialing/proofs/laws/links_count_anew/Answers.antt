use Rattle.hd_dialing.proofs.Counts.{links_count_anew}
use Rattle.hd_dialing.proofs.laws.links_count_anew.Goals as goal

pub returns : goal.returns
returns c = links_count_anew
