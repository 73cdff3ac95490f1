use Rattle.std.proofs.Common.{rules, ◌≡◌, ◌++◌, ◌∷◌, [], ◌∙◌, List, ap, sym, subst, arith}
use Rattle.std.proofs.lemmas.List.{map_push}
use Rattle.hw_net.specs.Lane.{Lane, wires_of}
use Rattle.hw_net.specs.Rising.{IsRising}
use Rattle.hw_net.proofs.Numbering.{come-rise}
use Rattle.hw_net.proofs.reactor.Reactor.add.Goals as goal

pub invariant_of-self : goal.invariant_of-self
invariant_of-self g c =
    let bound = g.W.Wires.wires c.self.inside.wires in
    let before = c.self.inside.lanes.items in
    let after : c.add.new.self.items ≡ before ++ c.args.lane ∷ [] = search rules in
    let wires = ap (λ (l : List Lane). wires_of l) after ∙ map_push (λ (l : Lane). l.wire) before c.args.lane in
    let rising : IsRising 0 c.args.lane.wire (wires_of before) = rw (← c.self.view_is) at c.requires.later in
    let within = rw (← c.self.view_is) at c.requires.bound in
    (subst (λ l. IsRising 0 bound l) (sym wires) (come-rise 0 c.args.lane.wire bound c.args.lane.wire (wires_of before) (omega arith) within rising), c.self.invariant.1)
