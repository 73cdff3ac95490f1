use Rattle.std.proofs.Common.{refl}
use Rattle.std.specs.Fmt.{digits}
use Rattle.form_urlencoded.proofs.OnLiterals.{form_urlencoded_on_literals}
use Rattle.hd_server.proofs.sessions.rooms.Goals as goal

pub returns-clause-posts : goal.returns-clause-posts
unfolding form_urlencoded_on_literals digits
returns-clause-posts c = refl

pub returns-clause-store_fails : goal.returns-clause-store_fails
unfolding form_urlencoded_on_literals digits
returns-clause-store_fails c = refl
