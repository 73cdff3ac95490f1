use Rattle.std.proofs.Common.{refl}
use Rattle.std.specs.Fmt.{digits}
use Rattle.form_urlencoded.proofs.OnLiterals.{form_urlencoded_on_literals}
use Rattle.hd_client.proofs.sessions.ends_that_come.Goals as goal

pub returns-clause-closed : goal.returns-clause-closed
unfolding form_urlencoded_on_literals digits
returns-clause-closed c = refl

pub returns-clause-shut : goal.returns-clause-shut
unfolding form_urlencoded_on_literals digits
returns-clause-shut c = refl

pub returns-clause-refused : goal.returns-clause-refused
unfolding form_urlencoded_on_literals digits
returns-clause-refused c = refl

pub returns-clause-plain : goal.returns-clause-plain
unfolding form_urlencoded_on_literals digits
returns-clause-plain c = refl

pub returns-clause-opening : goal.returns-clause-opening
unfolding form_urlencoded_on_literals digits
returns-clause-opening c = refl

pub returns-clause-unshaken : goal.returns-clause-unshaken
unfolding form_urlencoded_on_literals digits
returns-clause-unshaken c = refl
