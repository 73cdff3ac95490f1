use Rattle.std.proofs.Common.{List, length}
use Rattle.json.specs.Token.{Token}
use Rattle.hv_value.specs.Tree.{Pair}
use Rattle.hv_json.specs.Members.{Opens, HasRead}
use Rattle.hm_json.specs.Calls.{AreOf}
use Rattle.hm_json.proofs.calls.read_properties.Given as goal

abbrev pub invariant-members : goal.invariant-members
invariant-members l = (all : List Token) × Opens l.frame all × (before : List Pair) × HasRead all l.reader before × AreOf l.properties before

abbrev pub decreases-members : goal.decreases-members
decreases-members l = length l.reader
