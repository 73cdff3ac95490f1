use Rattle.std.proofs.Common.{rules, ◌≡◌, ◌∙◌, List, sym, ap, subst}
use Rattle.std.proofs.lemmas.Fn.{filter_same}
use Rattle.hw_net.specs.declared.numbers.LaneWire.{LaneWire}
use Rattle.hw_net.specs.Chains.{is_there}
use Rattle.hw_net.specs.Door.{kept}
use Rattle.hw_net.specs.Lane.{Lane}
use Rattle.hw_net.specs.LaneNumbers.{still_there}
use Rattle.hw_net.specs.Numbered.{AreNumbered}
use Rattle.hw_net.proofs.Dialing.{cleared-same, state-is}
use Rattle.hw_net.proofs.LaneNumbering.{all-there, numbered-cleared}
use Rattle.hw_net.proofs.dialer.NetDialer.clear.Goals as goal

pub returns-then-not-has_over-clause-cleared : goal.returns-then-not-has_over-clause-cleared
returns-then-not-has_over-clause-cleared g c =
    let d = c.self.inside in
    let lanes = d.reactor.lanes.items in
    rw (← c.self.view_is) (cleared-same lanes d.reactor.from d.reactor.named d.reactor.moment d.numbers.items d.failed.items d.last (search rules)
    (all-there 0 (g.W.Wires.wires d.reactor.wires) d.numbers.items lanes c.self.invariant.by_wire c.self.invariant.wires))

pub invariant_of-self : goal.invariant_of-self
invariant_of-self g c =
    let bound = g.W.Wires.wires in
    let d = c.self.inside in
    let lanes = d.reactor.lanes.items in
    let numbers = d.numbers.items in
    let same = c.clear.ensures.unchanged in
    let kept_numbers : c.retain.new.self.items ≡ still_there (kept lanes) numbers =
    filter_same _ (λ (number : LaneWire). is_there number.wire c.clear.new.self.lanes.items) _ (λ x b f' k. search rules) _ _ c.retain.ensures.filtered ∙ ap (λ (l : List Lane). still_there l numbers) same in
    let base = numbered-cleared (bound d.reactor.wires) lanes numbers d.failed.items d.last c.self.invariant in
    let on_wires = subst (λ w. AreNumbered (bound w) (kept lanes) (still_there (kept lanes) numbers) d.failed.items d.last) (sym c.clear.ensures.wires) base in
    let on_lanes = subst (λ (l : List Lane). AreNumbered (bound c.clear.new.self.wires) l (still_there (kept lanes) numbers) d.failed.items d.last) (sym same) on_wires in
    subst (λ (n : List LaneWire). AreNumbered (bound c.clear.new.self.wires) c.clear.new.self.lanes.items n d.failed.items d.last) (sym kept_numbers) on_lanes

pub returns-clause-cleared : goal.returns-clause-cleared
returns-clause-cleared g c =
    let d = c.self.inside in
    let e = c.clear.new.self in
    let lanes = d.reactor.lanes.items in
    let numbers = d.numbers.items in
    let same = c.clear.ensures.unchanged in
    let kept_numbers : c.retain.new.self.items ≡ still_there (kept lanes) numbers =
    filter_same _ (λ (number : LaneWire). is_there number.wire c.clear.new.self.lanes.items) _ (λ x b f' k. search rules) _ _ c.retain.ensures.filtered ∙ ap (λ (l : List Lane). still_there l numbers) same in
    rw (← c.self.view_is) (state-is e.lanes.items (kept lanes) e.from d.reactor.from e.named d.reactor.named e.moment d.reactor.moment c.retain.new.self.items (still_there (kept lanes) numbers) d.failed.items d.last same
    c.clear.ensures.from c.clear.ensures.named c.clear.ensures.moment kept_numbers)
