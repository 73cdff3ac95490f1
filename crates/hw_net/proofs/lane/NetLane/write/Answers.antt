use Rattle.std.proofs.Common.{rules, ◌≡◌, ◌≢◌, [], length, false, true, List, ℕ, subst, sym, ap, ◌∙◌, ◌++◌}
use Rattle.hw_net.specs.Lane.{Lane, waits, frames_of}
use Rattle.hw_net.proofs.Writings.{HasDone, none-left}
use Rattle.hw_net.proofs.Sayings.{done-first, done-failed, done-both}
use Rattle.hw_net.proofs.lane.NetLane.write.Goals as goal

pub returns-then-not-write_bytes-clause-written : goal.returns-then-not-write_bytes-clause-written
returns-then-not-write_bytes-clause-written g c =
    let trace = g.W.Wires.trace in
    let failed : c.write_bytes.result ≡ false = search rules in
    rw (sym c.self.view_is) (done-failed (trace c.args.wires.now) (trace c.write_bytes.new.wires) c.self.inside.wire c.self.inside.out.items (frames_of c.self.inside.protocol) c.write_bytes.new.bytes.items
    c.write_bytes.result c.write_bytes.ensures.writes failed)

pub returns-then-not-is_empty-clause-written : goal.returns-then-not-is_empty-clause-written
returns-then-not-is_empty-clause-written g c =
    let trace = g.W.Wires.trace in
    let whole : c.write_bytes.result ≡ true = search rules in
    let some : c.write_bytes.new.bytes.items ≢ [] = search rules in
    let done = subst (λ w. HasDone (trace c.args.wires.now) (trace c.write_bytes.new.wires) c.self.inside.wire c.self.inside.out.items c.write_bytes.new.bytes.items w) whole c.write_bytes.ensures.writes in
    rw (sym c.self.view_is) (done-first (trace c.args.wires.now) (trace c.write_bytes.new.wires) c.self.inside.wire c.self.inside.out.items (frames_of c.self.inside.protocol) c.write_bytes.new.bytes.items true done some)

pub returns-clause-written : goal.returns-clause-written
returns-clause-written g c =
    let trace = g.W.Wires.trace in
    let whole : c.write_bytes.result ≡ true = search rules in
    let zero : length c.write_bytes.new.bytes.items ≡ 0 = search rules in
    let none : c.write_bytes.new.bytes.items ≡ [] = none-left c.write_bytes.new.bytes.items zero in
    let frames = frames_of c.write_frames.new.self.protocol in
    let left : waits c.write_frames.new.self ≡ frames = ap (λ (l : Lane). waits l) c.write_frames.ensures.others_unchanged ∙ ap (λ (l : List ℕ). l ++ frames) none in
    let done = done-both (trace c.args.wires.now) (trace c.write_bytes.new.wires) (trace c.write_frames.new.wires) c.self.inside.wire c.self.inside.out.items (frames_of c.self.inside.protocol) frames
    c.write_bytes.new.bytes.items c.write_bytes.result c.write_frames.result c.write_bytes.ensures.writes whole none c.write_frames.ensures.written in
    subst (λ (l : List ℕ). HasDone (trace c.args.wires.now) (trace c.write_frames.new.wires) c.args.self.now.wire (waits c.args.self.now) l c.write_frames.result) (sym left) (rw (sym c.self.view_is) done)
