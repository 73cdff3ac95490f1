use Rattle.std.proofs.Common.{refl}
use Rattle.std.specs.Str.{is_utf8, chars}
use Rattle.serde_json.proofs.OnLiterals.{serde_json_on_literals}
use Rattle.hd_dialing.proofs.sessions.bodies.Goals as goal

pub returns-clause-granted : goal.returns-clause-granted
unfolding serde_json_on_literals is_utf8 chars
returns-clause-granted c = refl

pub returns-clause-plain : goal.returns-clause-plain
unfolding serde_json_on_literals is_utf8 chars
returns-clause-plain c = refl

pub returns-clause-last : goal.returns-clause-last
unfolding serde_json_on_literals is_utf8 chars
returns-clause-last c = refl

pub returns-clause-as_asked : goal.returns-clause-as_asked
unfolding serde_json_on_literals is_utf8 chars
returns-clause-as_asked c = refl
