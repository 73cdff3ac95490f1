use Rattle.sr_client.proofs.Parsing.{refused_front}
use Rattle.sr_client.proofs.laws.long_scripts_are_refused_by_their_front.Goals as goal

pub returns : goal.returns
returns c = refused_front c.fronts_keep_lines.ensures
