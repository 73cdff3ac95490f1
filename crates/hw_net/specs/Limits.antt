-- The bounds of a door.
use Rattle.std.specs.Prelude.{ℕ}

-- the most bytes of one read: 4 KiB
abbrev pub piece : ℕ
piece = 4096

-- the most bytes that may wait on a lane to be written: 1 MiB
abbrev pub most_unwritten : ℕ
most_unwritten = 1048576

-- what waits on a WebSocket lane is gathered only as long as it is less than this: 64 KiB
abbrev pub most_gathered_bytes : ℕ
most_gathered_bytes = 65536

-- what waits is written before so many events are heard after it was said
abbrev pub most_gathered : ℕ
most_gathered = 32

-- a WebSocket lane is full after a message if more bytes than this wait there to be written: 256 KiB
abbrev pub most_before_full : ℕ
most_before_full = 262144

-- and it isn't any more once at most this many do: 64 KiB
abbrev pub most_drained : ℕ
most_drained = 65536

-- how many milliseconds a lane that is full may stay without anything being written on its wire
abbrev pub most_stalled : ℕ
most_stalled = 30000

-- how many milliseconds a lane may wait for a whole request
abbrev pub most_wait : ℕ
most_wait = 30000

-- how many milliseconds a lane may close for
abbrev pub most_closing : ℕ
most_closing = 30000

-- the status of an upgrade
abbrev pub switching : ℕ
switching = 101

-- how many searches in a row may begin with a named lane
abbrev pub most_named : ℕ
most_named = 64
