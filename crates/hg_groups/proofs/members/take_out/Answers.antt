use Rattle.std.proofs.Common.{ℕ, not, eqb, rules}
use Rattle.std.proofs.lemmas.Fn.{filter_same}
use Rattle.hg_groups.proofs.members.take_out.Goals as goal

pub returns-clause-others : goal.returns-clause-others
returns-clause-others c = filter_same _ (λ (x : ℕ). not (eqb c.args.conn x)) _ (λ x b f' k. search rules) _ _ c.retain.ensures.filtered
