use Rattle.std.proofs.Common.{rules, not, ◌≡◌, sym, ap, ◌∙◌, subst, List, false, ltb}
use Rattle.std.specs.List.{All}
use Rattle.std.proofs.lemmas.Fn.{filter_same}
use Rattle.hw_net.specs.declared.tally.Tally.{Tally}
use Rattle.hw_net.specs.Door.{kept}
use Rattle.hw_net.specs.Lane.{Lane, is_over}
use Rattle.hw_net.specs.Resting.{IsKnown}
use Rattle.hw_net.specs.Tally.{tally_of}
use Rattle.hw_net.specs.Writers.{IsListOf}
use Rattle.hw_net.proofs.Gathering.{listed-kept}
use Rattle.hw_net.proofs.Resting.{known-kept}
use Rattle.hw_net.proofs.Tallying.{none-goes, over-go}
use Rattle.hw_net.proofs.lanes.Lanes.clear.Goals as goal

pub invariant_of-self : goal.invariant_of-self
invariant_of-self c =
    let same : c.retain.new.self.items ≡ kept c.self.inside.items.items = filter_same _ (λ (lane : Lane). not (is_over lane.stage)) _ (λ x b f' k. search rules) _ _ c.retain.ensures.filtered in
    record {
      counted = c.forget_over.ensures ∙ ap (λ (t : Tally). record t { over = 0 }) c.self.invariant.counted ∙ over-go c.self.inside.items.items ∙ ap (λ (l : List Lane). tally_of l) (sym same);
      known = subst (All (IsKnown c.self.inside.due)) (sym same) (known-kept c.self.inside.due c.self.inside.items.items c.self.invariant.known);
      listed = subst (IsListOf c.self.inside.writers) (sym same) (listed-kept c.self.inside.writers c.self.inside.items.items c.self.invariant.listed);
    }

pub returns-then-has_over : goal.returns-then-has_over
returns-then-has_over c =
    let same : c.retain.new.self.items ≡ kept c.self.inside.items.items = filter_same _ (λ (lane : Lane). not (is_over lane.stage)) _ (λ x b f' k. search rules) _ _ c.retain.ensures.filtered in
    rw (← c.self.view_is) same

pub returns-else-has_over : goal.returns-else-has_over
returns-else-has_over c =
    let none : ltb 0 c.self.inside.tally.over ≡ false = search rules in
    rw (← c.self.view_is) (sym (none-goes c.self.inside.items.items c.self.inside.tally c.self.invariant.counted none))
