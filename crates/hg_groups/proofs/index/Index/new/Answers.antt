use Rattle.hg_groups.proofs.IndexLemmas.{EachOnce-nobody}
use Rattle.hg_groups.proofs.index.Index.new.Goals as goal

pub invariant_of-result-clause-once : goal.invariant_of-result-clause-once
invariant_of-result-clause-once c = EachOnce-nobody c.new.result.by_name c.new.ensures
