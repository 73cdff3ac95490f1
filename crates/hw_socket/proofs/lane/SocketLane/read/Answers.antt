use Rattle.hw_socket.proofs.Takings.{passes_silent, silent_shorter, stays_here}
use Rattle.hw_socket.proofs.lane.SocketLane.read.Goals as goal

pub loop-answer-smaller : goal.loop-answer-smaller
loop-answer-smaller c = silent_shorter c.loop-answer.self c.step.new.self (rw c.in_default.is at c.in_ok-answer.ensures.stepped)

pub loop-answer-preserved : goal.loop-answer-preserved
loop-answer-preserved c =
    let silent = rw c.in_default.is at c.in_ok-answer.ensures.stepped in
    let inv = c.loop-answer.invariant in
    record { began = inv.began; here = stays_here c.loop-answer.self c.step.new.self inv.here silent; passed = passes_silent _ c.loop-answer.self c.step.new.self inv.passed.0 inv.passed.1 silent }
