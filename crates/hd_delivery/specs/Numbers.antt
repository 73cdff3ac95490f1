-- The numbers in the rules of two ends. The two waits are the defaults of KeepAliveInterval and ClientTimeoutInterval of ASP.NET Core;
-- the bounds are this project's own.
use Rattle.std.specs.Prelude.{ℕ, ◌-◌, ◌^◌}

-- the most messages that an end sends, so the greatest number of a sequenced message
abbrev pub most_messages : ℕ
most_messages = 2 ^ 62

-- the greatest number of 64 bits
abbrev pub most_of_64_bits : ℕ
most_of_64_bits = 2 ^ 64 - 1

-- a Ping is due if nothing was said for this many milliseconds
abbrev pub ping_after : ℕ
ping_after = 15000

-- a tick is a silence if nothing was fed for this many milliseconds, as ticks tell
abbrev pub silence_after : ℕ
silence_after = 30000

-- the most bytes of a frame's framing
abbrev pub most_framing : ℕ
most_framing = 5
