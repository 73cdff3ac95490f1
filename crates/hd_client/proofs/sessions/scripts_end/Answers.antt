use Rattle.std.proofs.Common.{refl}
use Rattle.std.specs.Fmt.{digits}
use Rattle.form_urlencoded.proofs.OnLiterals.{form_urlencoded_on_literals}
use Rattle.hd_client.proofs.sessions.scripts_end.Goals as goal

pub returns-clause-before : goal.returns-clause-before
unfolding form_urlencoded_on_literals digits
returns-clause-before c = refl

pub returns-clause-after : goal.returns-clause-after
unfolding form_urlencoded_on_literals digits
returns-clause-after c = refl

pub returns-clause-given : goal.returns-clause-given
unfolding form_urlencoded_on_literals digits
returns-clause-given c = refl

pub returns-clause-lost : goal.returns-clause-lost
unfolding form_urlencoded_on_literals digits
returns-clause-lost c = refl

pub returns-clause-unlinked : goal.returns-clause-unlinked
unfolding form_urlencoded_on_literals digits
returns-clause-unlinked c = refl
