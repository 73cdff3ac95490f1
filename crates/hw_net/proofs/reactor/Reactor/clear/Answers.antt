use Rattle.std.proofs.Common.{List, sym, subst}
use Rattle.hw_net.specs.Lane.{Lane, wires_of}
use Rattle.hw_net.specs.Rising.{IsRising}
use Rattle.hw_net.proofs.Numbering.{kept-rise}
use Rattle.hw_net.proofs.reactor.Reactor.clear.Goals as goal

pub invariant_of-self : goal.invariant_of-self
invariant_of-self g c =
    let bound = g.W.Wires.wires c.self.inside.wires in
    (subst (λ (l : List Lane). IsRising 0 bound (wires_of l)) (sym c.clear.ensures) (kept-rise 0 bound c.self.inside.lanes.items c.self.invariant.0), c.self.invariant.1)
