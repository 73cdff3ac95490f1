use Rattle.std.proofs.Common.{rules, ◌≢◌, ◌≡◌, [], length}
use Rattle.hw_net.proofs.Writings.{stop-empty, stop-zero, stop-failed, go-on, none-left}
use Rattle.hw_net.proofs.writing.write_bytes.Goals as goal

pub returns-in-Ok-eq0-clause-writes : goal.returns-in-Ok-eq0-clause-writes
returns-in-Ok-eq0-clause-writes g c =
    let trace = g.W.Wires.trace in
    let some : c.loop-wires.bytes.items ≢ [] = search rules in
    stop-zero (trace c.args.wires.now) (trace c.loop-wires.wires) (trace c.write.new.self) c.args.wire c.in-Ok-eq0.field-0 c.args.bytes.now.items c.loop-wires.bytes.items c.deref.result.now c.loop-wires.invariant.0 some
    (search rules) (rw c.in-Ok-eq0.field-0-is at c.in-Ok-eq0.ensures.trace)

pub loop-wires-preserved : goal.loop-wires-preserved
loop-wires-preserved g c =
    let trace = g.W.Wires.trace in (
      go-on (trace c.args.wires.now) (trace c.loop-wires.wires) (trace c.write.new.self) c.args.wire c.in-Ok.count c.args.bytes.now.items c.loop-wires.bytes.items c.deref.result.now
          _ c.loop-wires.invariant.0 (search rules) (search rules) (search rules) c.in-Ok.ensures.trace (search rules),
      search rules,
      search rules,
    )

pub returns-in-Err-clause-writes : goal.returns-in-Err-clause-writes
returns-in-Err-clause-writes g c =
    let trace = g.W.Wires.trace in
    let some : c.loop-wires.bytes.items ≢ [] = search rules in
    stop-failed (trace c.args.wires.now) (trace c.loop-wires.wires) (trace c.write.new.self) c.args.wire c.args.bytes.now.items c.loop-wires.bytes.items c.loop-wires.invariant.0 some c.in-Err.ensures.trace

pub returns-clause-writes : goal.returns-clause-writes
returns-clause-writes g c =
    let trace = g.W.Wires.trace in
    let zero : length c.loop-wires.bytes.items ≡ 0 = search rules in
    let none : c.loop-wires.bytes.items ≡ [] = none-left c.loop-wires.bytes.items zero in
    rw c.empty.ensures.empty
    (rw none at (stop-empty (trace c.args.wires.now) (trace c.loop-wires.wires) c.args.wire c.args.bytes.now.items c.loop-wires.bytes.items c.loop-wires.invariant.0 none))
