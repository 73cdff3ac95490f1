use Rattle.std.specs.Prelude.{◌≡◌, ℕ, List, None, length}
use Rattle.websocket.specs.Connection.{Effect}
use Rattle.hw_socket.specs.Reading.{Passes}
use Rattle.hw_socket.proofs.lane.SocketLane.read.Given as goal

abbrev pub invariant-loop-answer : goal.invariant-loop-answer
invariant-loop-answer l =
    record { began : l.fn.self.ending ≡ None; here : l.self.ending ≡ None; passed : (ps : List (ℕ × Effect)) × Passes l.fn.self ps l.self }

abbrev pub decreases-loop-answer : goal.decreases-loop-answer
decreases-loop-answer l = length l.self.unread
