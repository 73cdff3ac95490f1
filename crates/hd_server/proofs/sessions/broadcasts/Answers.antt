use Rattle.std.proofs.Common.{refl}
use Rattle.std.specs.Fmt.{digits}
use Rattle.form_urlencoded.proofs.OnLiterals.{form_urlencoded_on_literals}
use Rattle.hd_server.proofs.sessions.broadcasts.Goals as goal

pub returns : goal.returns
unfolding form_urlencoded_on_literals digits
returns c = refl
