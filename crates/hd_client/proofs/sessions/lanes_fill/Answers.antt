use Rattle.std.proofs.Common.{refl}
use Rattle.std.specs.Fmt.{digits}
use Rattle.form_urlencoded.proofs.OnLiterals.{form_urlencoded_on_literals}
use Rattle.hd_client.proofs.sessions.lanes_fill.Goals as goal

pub returns-clause-room : goal.returns-clause-room
unfolding form_urlencoded_on_literals digits
returns-clause-room c = refl

pub returns-clause-acked : goal.returns-clause-acked
unfolding form_urlencoded_on_literals digits
returns-clause-acked c = refl

pub returns-clause-full : goal.returns-clause-full
unfolding form_urlencoded_on_literals digits
returns-clause-full c = refl

pub returns-clause-drained : goal.returns-clause-drained
unfolding form_urlencoded_on_literals digits
returns-clause-drained c = refl
