-- Statuses of replies that may have a body.
use Rattle.std.specs.Prelude.{◌≢◌, ◌==◌, ℕ, IsTrue}
use Rattle.std.specs.List.{list_any}
use Rattle.hw_lanes.specs.Replies.{statuses}

-- a status of a reply, other than 101 and 204
abbrev pub IsPlain : ℕ → Type 0
IsPlain status = IsTrue (list_any (λ s. s == status) statuses) × (status ≢ 101) × (status ≢ 204)
