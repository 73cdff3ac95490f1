use Rattle.std.proofs.Common.{ltb, ap, ◌∙◌}
use Rattle.std.specs.List.{list_any}
use Rattle.hw_net.specs.declared.tally.Tally.{Tally}
use Rattle.hw_net.specs.Lane.{is_awake}
use Rattle.hw_net.proofs.Tallying.{some-awake}
use Rattle.hw_net.proofs.lanes.Lanes.has_awake.Goals as goal

pub returns : goal.returns
returns c =
    c.has_awake.ensures ∙ ap (λ (t : Tally). ltb 0 t.awake) c.self.invariant.counted ∙ some-awake c.self.inside.items.items ∙ ap (λ l. list_any is_awake l.items) c.self.view_is
