use Rattle.std.proofs.Common.{rules, ◌∙◌}
use Rattle.std.proofs.lemmas.List.Sorted.{answers_always}
use Rattle.hw_net.specs.declared.numbers.LaneWire.{LaneWire}
use Rattle.hw_net.proofs.Findings.{found-by}
use Rattle.hw_net.proofs.numbers.index_of.Goals as goal

pub returns : goal.returns
returns c =
    let facts = c.binary_search_by_key.ensures in
    let by_number = facts.position (λ (number : LaneWire). number.lane) (answers_always _ _ _ (λ f a r g called. search rules)) in
    c.ok.ensures.value ∙ found-by (λ (number : LaneWire). number.lane) c.args.lane c.requires.0 c.args.numbers.now _ c.requires.1 facts.bound by_number
