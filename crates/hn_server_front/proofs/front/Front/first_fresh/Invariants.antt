use Rattle.std.proofs.Common.{◌≡◌, ℕ, List, ◌++◌, None}
use Rattle.hn_server_front.specs.Calls.{OfEach}
use Rattle.hn_server_front.specs.declared.entry.Entry.{Entry}
use Rattle.hn_server_front.proofs.Fresh.{least_unused}
use Rattle.hn_server_front.proofs.front.Front.first_fresh.Given as goal

abbrev pub invariant-loop-conn : goal.invariant-loop-conn
invariant-loop-conn l =
    (done : List (ℕ × Entry)) × (l.self.entries.entries ≡ done ++ l.conn-iterator) × OfEach l.self (λ h. l.first ≡ least_unused l.now h None done)
