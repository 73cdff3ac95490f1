use Rattle.std.proofs.Common.{refl}
use Rattle.std.specs.Fmt.{digits}
use Rattle.hd_server.proofs.lives.tokens.Goals as goal

pub returns-clause-numbered : goal.returns-clause-numbered
unfolding digits
returns-clause-numbered c = refl

pub returns-clause-sockets_numbered : goal.returns-clause-sockets_numbered
unfolding digits
returns-clause-sockets_numbered c = refl
