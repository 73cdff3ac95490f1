use Rattle.std.proofs.Common.{rules, refl}
use Rattle.hw_net.proofs.Gathering.{written-next}
use Rattle.hw_net.proofs.lanes.Lanes.write_each.Goals as goal

pub loop-wire-preserved : goal.loop-wire-preserved
loop-wire-preserved g c =
    let trace = g.W.Wires.trace in (
      written-next (trace c.args.wires.now) (trace c.loop-wire.wires) (trace c.write_at.new.wires) c.args.listed.now c.loop-wire.wire-index _ _ c.args.self.now.items c.loop-wire.self.items c.write_at.new.self.items
          (search rules) refl c.loop-wire.invariant.0 c.write_at.ensures.written,
      search rules,
      search rules,
      search rules,
    )
