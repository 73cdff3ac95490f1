use Rattle.std.proofs.Common.{refl}
use Rattle.hub_server.proofs.words.with_close.Goals as goal

pub returns-clause-is : goal.returns-clause-is
returns-clause-is c = refl

pub returns-clause-sent : goal.returns-clause-sent
returns-clause-sent c = record { status = c.requires.status; accept = c.requires.accept; body = c.requires.body }
