use Rattle.std.proofs.Common.{refl}
use Rattle.std.specs.Fmt.{digits}
use Rattle.form_urlencoded.proofs.OnLiterals.{form_urlencoded_on_literals}
use Rattle.hd_client.proofs.sessions.a_link_is_lost.Goals as goal

pub returns-clause-printed : goal.returns-clause-printed
unfolding form_urlencoded_on_literals digits
returns-clause-printed c = refl

pub returns-clause-given : goal.returns-clause-given
unfolding form_urlencoded_on_literals digits
returns-clause-given c = refl

pub returns-clause-done : goal.returns-clause-done
unfolding form_urlencoded_on_literals digits
returns-clause-done c = refl
