use Rattle.std.proofs.Common.{rules, refl}
use Rattle.hw_net.specs.Door.{state_of}
use Rattle.hw_net.proofs.Sweeps.{gathered-fails, gathered-halts, gathered-hears, rose-within}
use Rattle.hw_net.proofs.Goings.{keeps-on, hears-goes, fails-goes}
use Rattle.hw_net.proofs.door.NetDoorDoor.next.Goals as goal

pub returns-then-is_err-clause-fails : goal.returns-then-is_err-clause-fails
returns-then-is_err-clause-fails g c = rw (← c.self.view_is) (λ e.
    let trace = g.W.Wires.trace in
    let faults = g.W.Wires.faults in
    let first = c.self.inside.reactor in
    let fallen = c.self-2.inside.reactor in
    let f = rw (← c.self-2.view_is) at (c.hear_next-heard.ensures.fails e) in
    let same = rw (← c.self-2.view_is) at (c.hear_next-heard.ensures.fallen e) in (
      rose-within (faults first.wires) (faults c.gather-wait.new.self.wires) (faults fallen.wires) (faults c.write_gathered.new.self.wires) c.gather-wait.ensures.wire_faults f.0 c.write_gathered.ensures.wire_faults,
      gathered-fails (trace first.wires) (trace c.gather-wait.new.self.wires) (trace fallen.wires) (trace c.write_gathered.new.self.wires) c.args.wait c.gather-wait.result first.gathering
          c.gather-wait.new.self.gathering (state_of first) (state_of c.gather-wait.new.self) (state_of fallen) (state_of c.write_gathered.new.self) c.gather-wait.ensures.gathers f.1 same c.write_gathered.ensures.flushed,
    ))

pub returns-then-is_err-clause-halts : goal.returns-then-is_err-clause-halts
returns-then-is_err-clause-halts g c = rw (← c.self.view_is) (λ e.
    let trace = g.W.Wires.trace in
    let first = c.self.inside.reactor in
    let halted = c.self-2.inside.reactor in
    let h = rw (← c.self-2.view_is) at (c.hear_next-heard.ensures.halts e) in
    gathered-halts (trace first.wires) (trace c.gather-wait.new.self.wires) (trace halted.wires) (trace c.write_gathered.new.self.wires) c.args.wait c.gather-wait.result first.gathering
    c.gather-wait.new.self.gathering (state_of first) (state_of c.gather-wait.new.self) (state_of halted) (state_of c.write_gathered.new.self) c.gather-wait.ensures.gathers h c.write_gathered.ensures.flushed)

pub returns-else-is_err-clause-hears : goal.returns-else-is_err-clause-hears
returns-else-is_err-clause-hears g c =
    let trace = g.W.Wires.trace in
    let first = c.self.inside.reactor in
    rw (← c.self.view_is) (rw c.hear_next-heard.ensures.gathering (gathered-hears c.hear_next-heard.result (trace first.wires) (trace c.gather-wait.new.self.wires) (trace c.hear_next-heard.new.self.wires) c.args.wait
    c.gather-wait.result first.gathering c.gather-wait.new.self.gathering (state_of first) (state_of c.gather-wait.new.self) (state_of c.hear_next-heard.new.self) c.gather-wait.ensures.gathers
    c.hear_next-heard.ensures.hears))

pub returns-then-is_err-clause-heard : goal.returns-then-is_err-clause-heard
returns-then-is_err-clause-heard g c =
    let bound = g.W.Wires.wires in
    let first = c.self.inside.reactor in
    let fallen = c.self-2.inside.reactor in
    let lanes = rw (← c.self-2.view_is) at c.hear_next-heard.ensures.lanes in
    fails-goes g.W.Wires.trace g.W.Wires.wires g.W.Wires.faults c.args.wait c.hear_next-heard.result c.args.self.now c.write_gathered.new.self (search rules) (returns-then-is_err-clause-fails g c)
    (returns-then-is_err-clause-halts g c)
    (rw (← c.self.view_is) (keeps-on (bound first.wires) (bound c.gather-wait.new.self.wires) (bound fallen.wires) (bound c.write_gathered.new.self.wires) first.lanes.items c.gather-wait.new.self.lanes.items
    fallen.lanes.items c.write_gathered.new.self.lanes.items c.gather-wait.ensures.bound c.gather-wait.ensures.lanes lanes c.write_gathered.ensures.bound c.write_gathered.ensures.numbers))
    c.write_gathered.ensures.gathering

pub returns-else-is_err-clause-heard : goal.returns-else-is_err-clause-heard
returns-else-is_err-clause-heard g c =
    let bound = g.W.Wires.wires in
    let first = c.self.inside.reactor in
    hears-goes g.W.Wires.trace g.W.Wires.wires g.W.Wires.faults c.args.wait c.hear_next-heard.result c.args.self.now c.hear_next-heard.new.self (search rules) (returns-else-is_err-clause-hears g c)
    (rw (← c.self.view_is) (keeps-on (bound first.wires) (bound c.gather-wait.new.self.wires) (bound c.hear_next-heard.new.self.wires) (bound c.hear_next-heard.new.self.wires) first.lanes.items
    c.gather-wait.new.self.lanes.items c.hear_next-heard.new.self.lanes.items c.hear_next-heard.new.self.lanes.items c.gather-wait.ensures.bound c.gather-wait.ensures.lanes c.hear_next-heard.ensures.lanes refl
    refl))
