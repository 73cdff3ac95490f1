use Rattle.hd_server.proofs.TokenLetters.{tokens_differ}
use Rattle.hd_server.proofs.laws.tokens_differ.Goals as goal

pub returns : goal.returns
returns c = tokens_differ
