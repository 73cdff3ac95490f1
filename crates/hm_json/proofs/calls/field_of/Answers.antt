use Rattle.std.proofs.Common.{arith, rules}
use Rattle.std.specs.Prelude.{codes}
use Rattle.std.proofs.lemmas.Slice.Eq.{text_from_reads}
use Rattle.hm_json.proofs.calls.field_of.Goals as goal

pub returns-in-invocationId : goal.returns-in-invocationId
returns-in-invocationId c = text_from_reads c.args.name.now (codes "invocationId") (omega arith) (search rules, (search rules, (search rules, (search rules, (search rules, (search rules, (search rules, (search rules, (search rules, (search rules, (search rules, (search rules, tt))))))))))))
