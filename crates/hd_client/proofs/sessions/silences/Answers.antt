use Rattle.std.proofs.Common.{refl}
use Rattle.std.specs.Fmt.{digits}
use Rattle.form_urlencoded.proofs.OnLiterals.{form_urlencoded_on_literals}
use Rattle.hd_client.proofs.sessions.silences.Goals as goal

pub returns-clause-pings : goal.returns-clause-pings
unfolding form_urlencoded_on_literals digits
returns-clause-pings c = refl

pub returns-clause-lost : goal.returns-clause-lost
unfolding form_urlencoded_on_literals digits
returns-clause-lost c = refl
