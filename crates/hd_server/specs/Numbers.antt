-- The numbers in the rules of a server, which are this project's own.
use Rattle.std.specs.Prelude.{◌≤◌, ℕ, ◌^◌}

-- the most connections that live at one moment, of any server
abbrev pub most_live : ℕ
most_live = 10000

-- a server may be begun with this as the greatest number of its live connections
pub record IsLiveLimit (live : ℕ) : Type 0 where
  pub not_less : 1 ≤ live
  pub not_more : live ≤ most_live

-- the most connections that are ever made
abbrev pub most_connections : ℕ
most_connections = 2 ^ 62

-- for how many milliseconds a token lives that isn't used
abbrev pub lives_for : ℕ
lives_for = 30000

-- for how many milliseconds a poll is held at most
abbrev pub held_for : ℕ
held_for = 90000

-- the most bytes of the body of a poll's reply
abbrev pub most_polled : ℕ
most_polled = 65536

-- a poll's reply has a further frame as long as its body has at most this many bytes, so that the frame and its framing fit
abbrev pub most_before_last : ℕ
most_before_last = 32763

-- the most bytes of a frame without its framing, and the most messages and framed bytes that an end holds
abbrev pub most_frame : ℕ
most_frame = 32768

abbrev pub most_held : ℕ
most_held = 1024

abbrev pub most_held_bytes : ℕ
most_held_bytes = 100000

-- for how many milliseconds a server lets its door wait at most
abbrev pub most_wait : ℕ
most_wait = 100
