use Rattle.std.proofs.Common.{rules}
use Rattle.hw_net.proofs.Gathering.{written-place}
use Rattle.hw_net.proofs.lanes.Lanes.write_all.Goals as goal

pub loop-index-preserved : goal.loop-index-preserved
loop-index-preserved g c =
    let trace = g.W.Wires.trace in (
      written-place (trace c.args.wires.now) (trace c.loop-index.wires) (trace c.write_if_live.new.wires) c.requires.0 c.loop-index.index c.args.self.now.items c.loop-index.self.items c.write_if_live.new.self.items c.requires.1
          c.loop-index.invariant.2 (search rules) c.loop-index.invariant.0 c.write_if_live.ensures.written,
      search rules,
      search rules,
      search rules,
    )
