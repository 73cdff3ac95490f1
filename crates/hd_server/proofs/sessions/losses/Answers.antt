use Rattle.std.proofs.Common.{refl}
use Rattle.std.specs.Fmt.{digits}
use Rattle.form_urlencoded.proofs.OnLiterals.{form_urlencoded_on_literals}
use Rattle.hd_server.proofs.sessions.losses.Goals as goal

pub returns-clause-told : goal.returns-clause-told
unfolding form_urlencoded_on_literals digits
returns-clause-told c = refl

pub returns-clause-too_slow : goal.returns-clause-too_slow
unfolding form_urlencoded_on_literals digits
returns-clause-too_slow c = refl
