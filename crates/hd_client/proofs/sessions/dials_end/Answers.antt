use Rattle.std.proofs.Common.{refl}
use Rattle.std.specs.Fmt.{digits}
use Rattle.form_urlencoded.proofs.OnLiterals.{form_urlencoded_on_literals}
use Rattle.hd_client.proofs.sessions.dials_end.Goals as goal

pub returns-clause-upgrade : goal.returns-clause-upgrade
unfolding form_urlencoded_on_literals digits
returns-clause-upgrade c = refl

pub returns-clause-status : goal.returns-clause-status
unfolding form_urlencoded_on_literals digits
returns-clause-status c = refl

pub returns-clause-body : goal.returns-clause-body
unfolding form_urlencoded_on_literals digits
returns-clause-body c = refl

pub returns-clause-four : goal.returns-clause-four
unfolding form_urlencoded_on_literals digits
returns-clause-four c = refl

pub returns-clause-five : goal.returns-clause-five
unfolding form_urlencoded_on_literals digits
returns-clause-five c = refl

pub returns-clause-waits : goal.returns-clause-waits
unfolding form_urlencoded_on_literals digits
returns-clause-waits c = refl

pub returns-clause-undrawn : goal.returns-clause-undrawn
unfolding form_urlencoded_on_literals digits
returns-clause-undrawn c = refl
