use Rattle.std.proofs.Common.{◌≡◌, ◌≤◌, not, filter, length, take}
use Rattle.hd_server.specs.Lives.{is_known, life_of}
use Rattle.hn_server_front.specs.Calls.{OfEach}
use Rattle.hn_server_front.proofs.front.Front.forgotten.Given as goal

abbrev pub invariant-loop-waiting : goal.invariant-loop-waiting
invariant-loop-waiting l = record {
  few : l.count ≤ l.waiting-index;
  counted : OfEach l.self (λ h. l.count ≡ length (filter (λ w. not (is_known (life_of w.conn l.now h))) (take l.waiting-index l.waiting-items)));
}
