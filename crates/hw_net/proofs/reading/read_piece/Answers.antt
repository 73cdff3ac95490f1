use Rattle.std.proofs.Common.{refl, take, rules}
use Rattle.hw_door.specs.Traffic.{bytes_in, not_yet, ended, read_failed}
use Rattle.hw_net.proofs.Telling.{adds-tells}
use Rattle.hw_net.proofs.reading.read_piece.Goals as goal

pub returns-in-Ok-Some-clause-read : goal.returns-in-Ok-Some-clause-read
returns-in-Ok-Some-clause-read g c =
    let trace = g.W.Wires.trace in
    let answer = bytes_in c.args.wire (take c.in-Ok-Some.count c.read.new.buf) in
    (answer, adds-tells (trace c.args.wires.now) (trace c.read.new.self) answer (rw c.in-Ok-Some.field-0-is at c.in-Ok-Some.ensures.trace), (refl, refl, search rules))

pub returns-in-Ok-NotYet-clause-read : goal.returns-in-Ok-NotYet-clause-read
returns-in-Ok-NotYet-clause-read g c =
    let trace = g.W.Wires.trace in
    let answer = not_yet c.args.wire in
    (answer, adds-tells (trace c.args.wires.now) (trace c.read.new.self) answer (rw c.in-Ok-NotYet.field-0-is at c.in-Ok-NotYet.ensures.trace), (refl, refl))

pub returns-in-Ok-Ended-clause-read : goal.returns-in-Ok-Ended-clause-read
returns-in-Ok-Ended-clause-read g c =
    let trace = g.W.Wires.trace in
    let answer = ended c.args.wire in
    (answer, adds-tells (trace c.args.wires.now) (trace c.read.new.self) answer (rw c.in-Ok-Ended.field-0-is at c.in-Ok-Ended.ensures.trace), refl)

pub returns-in-Err-clause-read : goal.returns-in-Err-clause-read
returns-in-Err-clause-read g c =
    let trace = g.W.Wires.trace in
    let answer = read_failed c.args.wire in
    (answer, adds-tells (trace c.args.wires.now) (trace c.read.new.self) answer c.in-Err.ensures.trace, refl)
