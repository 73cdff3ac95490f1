use Rattle.std.proofs.Common.{rules, ◌≡◌, sym, subst, true, false, length, List}
use Rattle.hw_door.specs.Traffic.{Answer}
use Rattle.hw_net.specs.Lane.{Lane, waits}
use Rattle.hw_net.specs.Saying.{WritesOut, must_end}
use Rattle.hw_net.specs.Trace.{Tells}
use Rattle.hw_net.proofs.Sayings.{noted, said-ended, said-stays}
use Rattle.hw_net.proofs.lane.NetLane.write_out.Goals as goal

pub returns-then-must_end-clause-said : goal.returns-then-must_end-clause-said
returns-then-must_end-clause-said g c =
    let trace = g.W.Wires.trace in
    let before = c.args.self.now in
    let written = c.write-is_whole.new.self in
    let mid = c.note_write.new.self in
    let is_noted : mid ≡ noted before written = search rules in
    let must : must_end written.stage (length (waits written)) c.write-is_whole.result ≡ true = search rules in
    subst (λ (l : Lane). (answers : List Answer) × Tells (trace c.args.wires.now) (trace c.end.new.wires) answers × WritesOut before l answers) (sym c.end.ensures.ended)
    (said-ended (trace c.args.wires.now) (trace c.write-is_whole.new.wires) (trace c.end.new.wires) before written mid c.write-is_whole.result
    c.write-is_whole.ensures.written c.write-is_whole.ensures.others_unchanged c.write-is_whole.ensures.stage is_noted must (search rules))

pub returns-else-must_end-clause-said : goal.returns-else-must_end-clause-said
returns-else-must_end-clause-said g c =
    let trace = g.W.Wires.trace in
    let before = c.args.self.now in
    let written = c.write-is_whole.new.self in
    let mid = c.note_write.new.self in
    let is_noted : mid ≡ noted before written = search rules in
    let must : must_end written.stage (length (waits written)) c.write-is_whole.result ≡ false = search rules in
    said-stays (trace c.args.wires.now) (trace c.write-is_whole.new.wires) before written mid c.write-is_whole.result
    c.write-is_whole.ensures.written c.write-is_whole.ensures.others_unchanged c.write-is_whole.ensures.stage is_noted must
