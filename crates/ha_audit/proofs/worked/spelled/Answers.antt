use Rattle.std.proofs.Common.{refl}
use Rattle.std.specs.Fmt.{digits}
use Rattle.hex.specs.Hex.{encode_with}
use Rattle.ha_audit.proofs.worked.spelled.Goals as goal

pub returns-clause-head : goal.returns-clause-head
unfolding digits
returns-clause-head c = refl

pub returns-clause-attach : goal.returns-clause-attach
unfolding digits
returns-clause-attach c = refl

pub returns-clause-fed : goal.returns-clause-fed
unfolding encode_with
returns-clause-fed c = refl

pub returns-clause-lent : goal.returns-clause-lent
unfolding encode_with
returns-clause-lent c = refl

pub returns-clause-tick : goal.returns-clause-tick
unfolding digits
returns-clause-tick c = refl

pub returns-clause-two : goal.returns-clause-two
unfolding digits
returns-clause-two c = refl
