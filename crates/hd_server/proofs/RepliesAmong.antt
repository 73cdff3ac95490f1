-- Those that have a peer are among the connections.
use Rattle.std.proofs.Common.{◌≡◌, ℕ, ◌<◌, true, List}
use Rattle.hd_server.specs.Lives.{numbers_to}
use Rattle.hd_server.specs.Machine.{connections, greatest, is_there, settings_of}
use Rattle.hd_server.specs.Doings.{ServerEvent, work, has_peer}
use Rattle.hd_server.proofs.Flushing.{is_in, in-filter, to_greatest, some_of}
use Rattle.hd_server.proofs.Flushing.{within as in_range}
use Rattle.std.proofs.lemmas.Bool.{and_parts}

pub among_connections : (k : ℕ) (h : List ServerEvent) → 0 < k → has_peer k h ≡ true → is_in k (connections (work h)) ≡ true
among_connections k h over there =
    let parts = and_parts _ _ there in
    let t = some_of (settings_of k (work h)) parts.0 in
    in-filter (λ c. is_there c (work h)) k (numbers_to (greatest (work h))) there (in_range (greatest (work h)) k over (to_greatest k t.0 (work h) t.1))
