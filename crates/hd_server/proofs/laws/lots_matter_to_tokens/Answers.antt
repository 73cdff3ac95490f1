use Rattle.hd_server.proofs.Rows.{lots_matter_to_tokens}
use Rattle.hd_server.proofs.laws.lots_matter_to_tokens.Goals as goal

pub returns : goal.returns
returns c = lots_matter_to_tokens
