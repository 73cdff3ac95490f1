use Rattle.std.proofs.Common.{rules, ◌∙◌}
use Rattle.std.proofs.lemmas.List.Sorted.{answers_always}
use Rattle.hw_net.specs.Lane.{Lane}
use Rattle.hw_net.proofs.Findings.{found}
use Rattle.hw_net.proofs.finding.index_of.Goals as goal

pub returns : goal.returns
returns c =
    let facts = c.binary_search_by_key.ensures in
    let by_wire = facts.position (λ (lane : Lane). lane.wire) (answers_always _ _ _ (λ f a r g called. search rules)) in
    c.ok.ensures.value ∙ found c.args.wire c.requires.0 c.args.lanes.now _ c.requires.1 facts.bound by_wire
