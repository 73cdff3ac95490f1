use Rattle.std.proofs.Common.{rules, ℕ}
use Rattle.std.proofs.lemmas.Fn.{filter_same}
use Rattle.hw_net.specs.Writers.{is_writer_at}
use Rattle.hw_net.proofs.writers.Writers.keep.Goals as goal

pub returns-clause-kept : goal.returns-clause-kept
returns-clause-kept c = filter_same _ (λ (wire : ℕ). is_writer_at wire c.args.lanes.now) _ (λ x b f' k. search rules) _ _ c.retain.ensures.filtered
