-- How much a lane reads.
use Rattle.std.specs.Prelude.{ℕ}

-- the most bytes of a head: 16 KiB
abbrev pub most_head : ℕ
most_head = 16384

-- the most bytes of a body: 1 MiB
abbrev pub most_body : ℕ
most_body = 1048576

-- the most headers of a head
abbrev pub most_headers : ℕ
most_headers = 100

-- the status of an upgrade
abbrev pub switching : ℕ
switching = 101
